use Rattle.ignore.specs.FileWords.{disk_of}
use Rattle.uses.proofs.backup.complete_entries_of_table.Goals as goal

pub returns : goal.returns
returns g c = record {
  complete = c.complete_entries_on_disk.ensures.complete (disk_of c.args.machine.now) c.is_truthful.ensures;
}
