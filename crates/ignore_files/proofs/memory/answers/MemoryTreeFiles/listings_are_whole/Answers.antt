use Rattle.ignore_files.proofs.Absent.{whole_by}
use Rattle.ignore_files.proofs.memory.answers.MemoryTreeFiles.listings_are_whole.Goals as goal

pub returns : goal.returns
returns c = λ yes. whole_by c.args.self.now
