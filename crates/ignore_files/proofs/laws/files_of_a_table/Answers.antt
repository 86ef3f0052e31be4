use Rattle.ignore_files.specs.Table.{disk_of}
use Rattle.ignore_files.proofs.Honest.{honest_over}
use Rattle.ignore_files.proofs.laws.files_of_a_table.Goals as goal

pub returns : goal.returns
returns c = honest_over _ _ c.args.machine.now (disk_of c.args.machine.now) c.is_truthful.ensures
