use Rattle.std.proofs.Common.{inl}
use Rattle.answers.proofs.counting.CountingFiles.listings_are_whole.Goals as goal

-- what they answer besides, out of memory, is of no tree
pub returns : goal.returns
returns g c = λ yes tree stats lists.
    c.listings_are_whole.ensures yes tree (λ path follow r given. stats path follow r (inl given)) (λ path r given. lists path r (inl given))
