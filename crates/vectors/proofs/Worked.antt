-- Worked vectors: the definitions computed for small ones.
use Rattle.std.proofs.Common.{◌≡◌, inl, true, [], ◌∷◌, Some, None, refl, codes}
use Rattle.std.proofs.lemmas.Bool.{false≢true}
use Rattle.std.specs.Prelude.{IsSome}
use Rattle.serde_json.specs.Data.{null, boolean, Members, no_members, member}
use Rattle.serde_json.specs.Find.{get_member}
use Rattle.vectors.specs.Agrees.{EachMember, Stands}
use Rattle.vectors.specs.Tallies.{nothing, with_passed, with_failed, together}
use Rattle.vectors.specs.Vectors.{wrong_field}
use Rattle.vectors.specs.Lines.{lines_left}

-- {"a": true}
abbrev yes : Members
yes = member (codes "a") (boolean true) no_members

same_value_stands : Stands yes [] (codes "a") (boolean true)
same_value_stands = inl refl

other_field_is_extra : EachMember (λ name _. IsSome (get_member name yes)) (member (codes "b") null no_members) → ⊥
other_field_is_extra h = false≢true h.0

no_object_lacks_its_name : wrong_field null ≡ Some (codes "id")
no_object_lacks_its_name = refl

counted_once : with_failed (with_passed nothing) ≡ record { passed = 1; failed = 1; unread = 0 }
counted_once = refl

full : together 18446744073709551615 1 ≡ 18446744073709551615
full = refl

two_lines : lines_left (Some (97 ∷ (10 ∷ []))) ≡ (97 ∷ []) ∷ ([] ∷ [])
two_lines = refl

nothing_left : lines_left None ≡ []
nothing_left = refl
