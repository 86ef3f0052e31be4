use Rattle.ignore_files.proofs.Unstated.{whole_unlisted, not_found}
use Rattle.ignore_files.proofs.machine.AnyMachine.listings_are_whole.Goals as goal

pub returns : goal.returns
returns g c = λ yes. whole_unlisted _ _ _ _ (λ path. not_found) (λ path. tt)
