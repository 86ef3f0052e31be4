-- The copies keep the order of the types.
use Rattle.std.proofs.Common.{List, Vec, Result, Ok, Err, IfOk, sym, subst}
use Rattle.std.specs.List.{AllZip}
use Rattle.std.specs.declared.alloc.Global.{Global}
use Rattle.ignore_types.specs.Types.{Definition, IsSortedCopy, IsAscending}
use Rattle.ignore_types.proofs.TypeLemmas.{IsAscending-copies}
use Rattle.ignore_types.proofs.types.definitions.Definitions.sorted_copies.Goals as goal

in_order : {E : Type 0} (ds : List Definition) (r : Result (Vec Definition Global) E) → IsAscending ds
    → IfOk r (λ copies. AllZip IsSortedCopy ds copies.items) → IfOk r (λ copies. IsAscending copies.items)
in_order ds (Ok copies) ascending same = IsAscending-copies ds copies.items same ascending
in_order ds (Err e) ascending same = same

pub returns-clause-by_name : goal.returns-clause-by_name
returns-clause-by_name c =
    in_order c.as_slice.result.now c.copies_of.result
    (subst IsAscending (sym c.as_slice.ensures.value) c.as_slice.ensures.ascending) c.copies_of.ensures
