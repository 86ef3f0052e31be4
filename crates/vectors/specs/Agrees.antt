-- An answer agrees with the wanted fields.
use Rattle.std.specs.Prelude.{◌≡◌, ◌⊎◌, List, ⊤, Some, None, IsSome, Contains}
use Rattle.vectors.specs.Text.{Bytes}
use Rattle.serde_json.specs.Data.{Data, object, Members, no_members, member}
use Rattle.serde_json.specs.Find.{get_member}

-- P holds for the name and the value of each member of an object
abbrev pub EachMember : (Bytes → Data → Type 0) → Members → Type 0
EachMember P no_members = ⊤
EachMember P (member name d ms) = P name d × EachMember P ms

-- one of the fields has this name and this value; or none has the name, and the name is one of
-- those that may be missing
abbrev pub Stands : Members → List Bytes → Bytes → Data → Type 0
Stands fields waiting name d = (get_member name fields ≡ Some d) ⊎ ((get_member name fields ≡ None) × Contains waiting name)

-- the answer is an object that has each wanted field and no other
abbrev pub Agrees : Members → Data → List Bytes → Type 0
Agrees wanted answer waiting =
    (fields : Members) × (answer ≡ object fields) × EachMember (Stands fields waiting) wanted
    × EachMember (λ name _. IsSome (get_member name wanted)) fields
