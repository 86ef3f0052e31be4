-- Searches over all paths: places, each for the states that a path leads to in the tables of one list
-- of rules, or of two.
use Rattle.std.specs.Prelude.{◌≡◌, ◌≤◌, ℕ, suc, Bool, true, false, List, ◌++◌, Option, None, Some, slice_get, cond, not, ◌&&◌, length}
use Rattle.ignore_base.specs.Text.{Chars, is_slash}
use Rattle.ignore_rules.specs.Rules.{Rule}
use Rattle.ignore_every.specs.declared.place.NameStart.TheVariants.{Empty}
use Rattle.ignore_every.specs.declared.place.Place.{Place}
use Rattle.ignore_every.specs.Machines.{Table, IsRightTable, IsAlphabet, IsLastOf, HasTaking, is_cut, is_free}
use Rattle.ignore_every.specs.Names.{name_after, is_named}

-- a list of rules, with a table
pub record Tabled : Type 0 where
  pub rules : List Rule
  pub table : Table

-- what a search goes over: whether only reached paths are asked about, whether the second list is
-- asked too, both lists, and the characters that stand for the letters
pub record Scope : Type 0 where
  pub reached : Bool
  pub both : Bool
  pub left : Tabled
  pub right : Tabled
  pub letters : List ℕ

-- the list isn't asked below the directory: where only reached paths are asked about, an ancestor is
-- ignored, or the directory is known to be
abbrev pub ends : Bool → Tabled → Option ℕ → Bool
ends reached side None = true
ends reached side (Some s) = reached && is_cut side.rules (side.table.decider s true)

-- a list leads by the letter from there to there; below a directory that is ignored it isn't asked
abbrev pub IsSideStep : Bool → Tabled → ℕ → ℕ → Option ℕ → Option ℕ → Type 0
IsSideStep reached side a c None to = to ≡ None
IsSideStep reached side a c (Some s) None =
    (is_slash c ≡ true) × (reached ≡ true) × (is_cut side.rules (side.table.decider s true) ≡ true)
IsSideStep reached side a c (Some s) (Some t) =
    (side.table.next s a ≡ Some t) × (is_slash c ≡ true → reached ≡ true → is_free side.rules (side.table.decider s true) ≡ true)

-- paths go on from here by this character: a slash follows a name only, and where only reached
-- paths are asked about, none that each list ignores
abbrev pub goes_on : Scope → Place → ℕ → Bool
goes_on scope place c =
    cond (is_slash c)
    (is_named place.name && not (ends scope.reached scope.left place.left && ends scope.reached scope.right place.right)) true

-- the place leads to another by the letter, at most one character deeper, where paths go on so
abbrev pub IsClosedStep : Scope → List Place → ℕ → ℕ → Type 0
IsClosedStep scope places i a =
    (here : Place) (c : ℕ) → slice_get places i ≡ Some here → slice_get scope.letters a ≡ Some c → goes_on scope here c ≡ true
    → (j : ℕ) × (there : Place) × (slice_get places j ≡ Some there)
    × IsSideStep scope.reached scope.left a c here.left there.left × IsSideStep scope.reached scope.right a c here.right there.right
    × (there.name ≡ name_after here.name c) × (there.depth ≤ suc here.depth)

-- where the second list begins, if it is asked
abbrev pub starts : Bool → Option ℕ
starts false = None
starts true = Some 0

-- The places are closed: the first is that of the empty path, and each leads to another by each
-- letter by which paths go on, at most one character deeper.
pub record IsClosed (scope : Scope) (places : List Place) : Type 0 where
  pub root : Place
  pub first : slice_get places 0 ≡ Some root
  pub begins : (root.left ≡ Some 0) × (root.right ≡ starts scope.both) × (root.name ≡ Empty) × (root.depth ≡ 0)
  pub steps : (i a : ℕ) → IsClosedStep scope places i a

-- the table is right for all rules of its list
abbrev pub IsRightSide : List ℕ → Tabled → Type 0
IsRightSide letters side = IsRightTable side.rules letters 0 (length side.rules) side.table

-- so it is for each list that is asked, the letters are those of all rules, and the places are closed
pub record IsSoundSearch (scope : Scope) (places : List Place) : Type 0 where
  pub left : IsRightSide scope.letters scope.left
  pub right : scope.both ≡ true → IsRightSide scope.letters scope.right
  pub alphabet : IsAlphabet (scope.left.rules ++ scope.right.rules) scope.letters
  pub closed : IsClosed scope places

-- the place stands for the path: it is a name's, at most as deep as the path is long, and what the
-- table of the first list says of it is which rule decides there and which take the path
pub record IsPlaceOf (side : Tabled) (path : Chars) (place : Place) : Type 0 where
  pub state : ℕ
  pub at : place.left ≡ Some state
  pub named : is_named place.name ≡ true
  pub deep : place.depth ≤ length path
  pub decides : (is_dir : Bool) (k : Option ℕ) → side.table.decider state is_dir ≡ Some k
      → IsLastOf side.rules 0 (length side.rules) path is_dir k
  pub takes : (known : List ℕ) → side.table.taking state ≡ Some known → HasTaking side.rules 0 (length side.rules) path known
