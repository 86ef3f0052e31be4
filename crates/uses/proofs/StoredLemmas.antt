-- What a backup stores, by the matchers of its builder, and by one of them.
use Rattle.std.proofs.Common.{◌≡◌, ◌⊎◌, ◌↔◌, ℕ, Bool, true, List, reverse, codes, Contains, sym, ap, ◌∙◌, subst}
use Rattle.ignore.specs.FileWords.{Env, Tree}
use Rattle.ignore.specs.Headline.{IsListIn, IsOnlyListIn, IsSceneOf}
use Rattle.ignore.specs.WalkWords.{AreLoads, Callbacks, Entry, IncrementalIgnore, IncrementalMatch, IsKeptByOne, IsOpen, IsOutside, IsYielded}
use Rattle.ignore.specs.WalkWords.{Item, Order, Outside, Scene, Whole, answer_at, joined, keeps, query, scene_of, stdin_entry}
use Rattle.ignore.specs.declared.options.WalkOptions.{WalkOptions}
use Rattle.uses.specs.Stored.{HoldsWhatTheyKeep, IsAbout}

-- the list of the definition, written otherwise
pub list_of : {S : Type 0} (calls : Callbacks S) (owner : S) (env : Env) (b : WalkOptions) (order : Order) (tree : Tree)
    (all held : List Item) → all ≡ held → IsListIn calls owner env b order tree all → IsListIn calls owner env b order tree held
list_of calls owner env b order tree all held same list = subst (IsListIn calls owner env b order tree) same list

pub holds : {S : Type 0} (calls : Callbacks S) (owner : S) (env : Env) (b : WalkOptions) (order : Order) (tree : Tree)
    (ms : List IncrementalIgnore) (all held : List Item) → all ≡ held → IsOnlyListIn calls owner env b order tree all
    → ((o : Outside) (g : Scene) (e : Entry) (items : List Item) (n : ℕ) → IsOutside tree env b o
    → IsSceneOf calls owner b order tree o g → IsOpen g → Whole g b.roots items n
    → IsYielded items e ↔ (((e ≡ stdin_entry) × Contains b.roots (codes "-")) ⊎ IsKeptByOne g ms e))
    → HoldsWhatTheyKeep calls owner env b order tree ms held
holds calls owner env b order tree ms all held same list agrees = (
  list.0,
  list.1,
  λ g items n e scene open_ whole.
      subst (λ l. IsYielded l e ↔ (((e ≡ stdin_entry) × Contains b.roots (codes "-")) ⊎ IsKeptByOne g ms e))
      (sym (list.2 g items n scene whole).0 ∙ same) (agrees list.0 g e items n list.1 scene open_ whole),
)

-- the answer of a matcher to this question is that about the entry
pub about_is : (g : Scene) (m : IncrementalIgnore) (path : List ℕ) (is_dir : Bool) (e : Entry) (items : List Item)
    (about : IsAbout g m path is_dir e items)
    → (query (scene_of m.asked g.tree g.loads) path is_dir).0 ≡ answer_at g m about.place e
about_is g m path is_dir e items about =
    ap (λ p. (query (scene_of m.asked g.tree g.loads) p is_dir).0) about.asked
    ∙ ap (λ d. (query (scene_of m.asked g.tree g.loads) (joined (reverse about.place)) d).0) about.kind

-- a test that is equal to another holds where that does
pub test_is : (test other : Bool) (Y : Type 0) → test ≡ other → Y ↔ (other ≡ true) → (test ≡ true) ↔ Y
test_is test other Y is t = (λ y. t.1 (sym is ∙ y), λ y. is ∙ t.0 y)
