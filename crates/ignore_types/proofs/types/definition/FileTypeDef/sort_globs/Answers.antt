-- A sort of texts sorts their bytes.
use Rattle.std.proofs.Common.{refl, map, string_bytes, subst}
use Rattle.std.specs.Ordering.{is_lt}
use Rattle.std.proofs.lemmas.List.Sorted.{IsPermutation-map}
use Rattle.ignore_types.specs.Types.{text_cmp, IsSortedCopy, Definition}
use Rattle.ignore_types.proofs.ListLemmas.{IsSortedBy-map}
use Rattle.ignore_types.proofs.types.definition.FileTypeDef.sort_globs.Goals as goal

pub returns : goal.returns
returns c =
    let sorted : Definition = record { name = string_bytes c.self.inside.name; globs = map string_bytes c.sort_unstable.new.self.items } in
    subst (λ d. IsSortedCopy d sorted) c.self.view_is
    (record {
      same_name = refl;
      same_globs = IsPermutation-map string_bytes _ _ c.sort_unstable.ensures.permutation;
      in_order =
          IsSortedBy-map (λ x y. is_lt (text_cmp x y)) string_bytes _ c.sort_unstable.ensures.sorted;
    })
