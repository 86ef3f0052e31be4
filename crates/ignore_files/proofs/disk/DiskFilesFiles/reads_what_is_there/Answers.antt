use Rattle.ignore_files.proofs.Present.{stat_first}
use Rattle.ignore_files.proofs.disk.DiskFilesFiles.reads_what_is_there.Goals as goal

pub returns : goal.returns
returns g c = λ yes. stat_first g.R.Machine c.args.self.now.rt.now
