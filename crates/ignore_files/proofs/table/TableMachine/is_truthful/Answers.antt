use Rattle.std.specs.Vec.Iter.{into_iter_items}
use Rattle.ignore_files.proofs.Truthful.{truthful, drained}
use Rattle.ignore_files.proofs.table.TableMachine.is_truthful.Goals as goal

pub returns : goal.returns
returns c = truthful _ _ into_iter_items _ c.args.self.now (record {
  metadata = λ path a h. h;
  symlink_metadata = λ path a h. h;
  type = λ t m h. h;
  len = λ n m h. h;
  device = λ n m h. h;
  inode = λ n m h. h;
  read_dir = λ path a h. h;
  ends = drained;
  name = λ entry name h. h;
  kind = λ entry a h. h;
  opened = λ path a h. h;
  read = λ file bytes end h. h;
  canonicalize = λ path a h. h;
})
