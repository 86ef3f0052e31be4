-- A name is found among others exactly where it is one of them.
use Rattle.std.proofs.Common.{sym, ◌∙◌}
use Rattle.std.proofs.lemmas.Cmp.{nat_list_eq_equiv}
use Rattle.std.proofs.lemmas.Map.Views.{Contains-from_any, list_any-from_Contains}
use Rattle.std.proofs.lemmas.Slice.Eq.{bytes_eq-Decides}
use Rattle.vectors.proofs.Names.{any_name}
use Rattle.vectors.proofs.agree.is_among.Goals as goal

pub returns : goal.returns
returns c =
    let found = c.contains.ensures.value ∙ any_name c.args.name.now c.args.names.now in (
      λ yes. Contains-from_any (λ x y. (bytes_eq-Decides x y).0) _ _ (sym found ∙ yes),
      λ has. found ∙ list_any-from_Contains nat_list_eq_equiv _ _ has,
    )
