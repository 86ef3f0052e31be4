use Rattle.std.proofs.Common.{sym, ◌∙◌}
use Rattle.std.specs.Cmp.{booleans_Decides}
use Rattle.std.proofs.lemmas.Slice.Eq.{slice_eq-Decides}
use Rattle.ignore_every.proofs.leaf.is_same_set.Goals as goal

pub returns : goal.returns
returns c = λ same.
    let decided = slice_eq-Decides booleans_Decides c.as_slice.result.now c.as_slice-2.result.now c.eq.result c.eq.ensures in
    sym c.as_slice.ensures.value ∙ (decided.0 same ∙ c.as_slice-2.ensures.value)
