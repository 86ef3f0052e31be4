-- What a backup stores, by the matchers of its builder.
use Rattle.std.specs.Prelude.{◌≡◌, ◌⊎◌, ◌↔◌, ℕ, Bool, List, Err, [], reverse, codes, Contains}
use Rattle.ignore.specs.FileWords.{Env, Files, Tree}
use Rattle.ignore.specs.Headline.{Headline, IsAboveLimit, IsSceneOf}
use Rattle.ignore.specs.WalkWords.{Branch, Callbacks, Entry, IncrementalIgnore, IsKeptByOne, IsMatcherIn, IsOpen, IsOutside, IsReached}
use Rattle.ignore.specs.WalkWords.{IsYielded, Item, Order, Outside, Scene, WalkedOne, Whole, is_dir_kind, joined, matcher_root}
use Rattle.ignore.specs.WalkWords.{root_entry, stdin_entry}
use Rattle.ignore.specs.Words.{Path, Problem, StepLimit, io, memory}
use Rattle.ignore.specs.declared.options.WalkOptions.{WalkOptions}

-- these items have an entry exactly where one of some matchers keeps it, or it is standard input
-- and a root: in each scene of a walk in a tree that leaves nothing else out and has a list
abbrev pub HoldsWhatTheyKeep : {S : Type 0} → Callbacks S → S → Env → WalkOptions → Order → Tree → List IncrementalIgnore → List Item → Type 0
HoldsWhatTheyKeep calls owner env b order tree ms all =
    (o : Outside) × IsOutside tree env b o
    × ((g : Scene) (items : List Item) (n : ℕ) (e : Entry) → IsSceneOf calls owner b order tree o g → IsOpen g → Whole g b.roots items n
    → IsYielded all e ↔ (((e ≡ stdin_entry) × Contains b.roots (codes "-")) ⊎ IsKeptByOne g ms e))

-- what ends a backup early: out of memory; that of the limit, where the list of the definition takes
-- more steps; or an error that stands in that list in the place of an entry
abbrev pub EndsBackup : {F S : Type 0} → Files F → Callbacks S → F → S → Env → WalkOptions → Order → Problem → Type 0
EndsBackup files calls f owner env b order problem =
    (problem ≡ memory) ⊎ (((problem ≡ io StepLimit) × IsAboveLimit files calls f owner env b order)
    ⊎ ((all : List Item) × Headline files calls f owner env b order all × Contains all (Err problem)))

-- a path and a kind are those of an entry that a walk reaches from the root of a matcher; this root
-- gives these items
pub record IsAbout (g : Scene) (m : IncrementalIgnore) (path : Path) (is_dir : Bool) (e : Entry) (items : List Item) : Type 0 where
  pub place : Branch
  pub reached : IsReached g m place e
  pub asked : path ≡ joined (reverse place)
  pub kind : is_dir ≡ is_dir_kind e.kind
  pub steps : ℕ
  pub given : WalkedOne g (matcher_root m) [] (root_entry g (matcher_root m)) items steps
