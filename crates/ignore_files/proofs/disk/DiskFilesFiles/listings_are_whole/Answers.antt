use Rattle.ignore_files.proofs.Honest.{whole_disk}
use Rattle.ignore_files.proofs.disk.DiskFilesFiles.listings_are_whole.Goals as goal

pub returns : goal.returns
returns g c = λ yes.
    whole_disk g.R.Machine g.R.Dir.Iterator.next_gives c.args.self.now.rt.now (c.listings_are_whole.ensures yes)
