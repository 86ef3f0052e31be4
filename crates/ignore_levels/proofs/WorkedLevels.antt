-- A worked list: `/` with rules, the repository `/r` without, and `/r/a` with rules, which is left
-- for `/b`.
use Rattle.std.proofs.Common.{◌≡◌, ℕ, true, false, List, [], ◌∷◌, Option, None, Some, refl, lit<}
use Rattle.ignore_dir.specs.declared.dir.Dir.{Dir}
use Rattle.ignore_dir.specs.Lists.{Placed}
use Rattle.ignore_rules.specs.Rules.{Rule, empty}
use Rattle.ignore_levels.specs.declared.list.Level.{Level}
use Rattle.ignore_levels.specs.declared.list.Place.{Place}
use Rattle.ignore_levels.specs.declared.list.Slot.{Slot}
use Rattle.ignore_levels.specs.declared.list.Slot.TheVariants.{Used, Free}
use Rattle.ignore_levels.specs.Levels.{IsChain, level_at, mark_at, ruled_at}
use Rattle.ignore_levels.specs.Levels.IsChain.{no_level, a_level}

abbrev place : ℕ → Place
place n = record { index = n }

-- a directory with one rule in its `.gitignore`
abbrev ruled : Rule → Dir
ruled rule =
    record { custom = empty; ignore = empty; gitignore = record { root = []; rules = rule ∷ [] }; exclude = empty; mark = false }

-- a directory in which a repository begins, without rules
abbrev repository : Dir
repository = record { custom = empty; ignore = empty; gitignore = empty; exclude = empty; mark = true }

abbrev top : Rule → Level
top rule = record { dir = ruled rule; parent = None; offset = 1; ruled = Some (place 0); mark = None }

abbrev second : Level
second = record { dir = repository; parent = Some (place 0); offset = 3; ruled = Some (place 0); mark = Some (place 1) }

abbrev third : Rule → Level
third rule = record { dir = ruled rule; parent = Some (place 1); offset = 5; ruled = Some (place 2); mark = Some (place 1) }

abbrev other : Rule → Level
other rule = record { dir = ruled rule; parent = Some (place 0); offset = 3; ruled = Some (place 2); mark = None }

abbrev slots : Rule → Rule → List Slot
slots r s = Used (top r) ∷ Used second ∷ Used (third s) ∷ []

-- the chain of `/r/a`: it, `/r` and `/`
pub chain_of_three : (r s : Rule) → let chain : List Placed = (ruled s, 5) ∷ (repository, 3) ∷ (ruled r, 1) ∷ [] in
    IsChain (slots r s) (Some (place 2)) chain
chain_of_three r s =
    a_level {level = third s} refl (lit< tt) refl refl
    (a_level {level = second} refl (lit< tt) refl refl (a_level {level = top r} refl tt refl refl no_level))

-- from `/r`, which has no rules, the nearest level with rules is `/`, and the nearest with a mark is
-- itself
pub nearest_of_the_second : (r s : Rule) → (ruled_at (slots r s) (Some (place 1)) ≡ Some (place 0))
    × (mark_at (slots r s) (Some (place 1)) ≡ Some (place 1))
nearest_of_the_second r s = (refl, refl)

-- where `/r/a` was left, no level is
pub left_place : (r : Rule) (next : Option Place) → level_at (Used (top r) ∷ Used second ∷ Free next ∷ []) (place 2) ≡ None
left_place r next = refl

-- `/b` in its place: its chain doesn't pass `/r`
pub chain_where_filled : (r s : Rule) → let chain : List Placed = (ruled s, 3) ∷ (ruled r, 1) ∷ [] in
    IsChain (Used (top r) ∷ Used second ∷ Used (other s) ∷ []) (Some (place 2)) chain
chain_where_filled r s =
    a_level {level = other s} refl (lit< tt) refl refl (a_level {level = top r} refl tt refl refl no_level)
