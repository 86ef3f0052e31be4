use Rattle.std.proofs.Common.{inl, inr}
use Rattle.ig_commands.proofs.asking.check_globs.Goals as goal

-- a glob is rejected
pub returns : goal.returns
returns c = record { refused = elim c.in-Err.ensures.refused [ inl m ↦ inl m | inr r ↦ inr (rw c.base_dir.ensures at r) ] }
