use Rattle.ignore_files.proofs.Honest.{honest_on}
use Rattle.ignore_files.proofs.disk.DiskFiles.is_honest.Goals as goal

pub returns : goal.returns
returns g c disk truth = honest_on g.R.Machine g.R.Dir.Iterator.next_gives c.args.self.now disk truth
