-- The levels of the directories that were entered, once one was settled: a root, and one below another.
use Rattle.std.proofs.Common.{◌≡◌, ℕ, ◌+◌, ◌<◌, ◌≤◌, All, List, [], ◌∷◌, ◌++◌, Option, None, Some, Result, Ok, Err, IfOk, OnErr, length, reverse}
use Rattle.std.proofs.Common.{refl, sym, ap, subst, ◌∙◌, arith}
use Rattle.std.proofs.lemmas.List.{length-append}
use Rattle.std.proofs.lemmas.List.Elements.{All-filter}
use Rattle.ignore_base.specs.Paths.{join_of}
use Rattle.ignore_dir.specs.Lists.{IsAfterSlash, Placed}
use Rattle.ignore_dir.specs.Steps.{Reached, entry}
use Rattle.ignore_levels.specs.Levels.{IsBelow, IsChain, Keeps, counting, counts}
use Rattle.ignore_levels.specs.declared.list.Place.{Place as LevelPlace}
use Rattle.ignore_levels.specs.declared.list.Slot.{Slot}
use Rattle.ignore_levels.proofs.PassLemmas.{keeps-then}
use Rattle.ignore_guide.specs.Forest.{IsForest, IsWithin, Owns, Stands, StandsIn}
use Rattle.ignore_guide.specs.Guide.{holding}
use Rattle.ignore_guide.specs.Places.{IsSamePlaces, KeepsOthers, entered_at}
use Rattle.ignore_guide.specs.Settle.{AreFresh, IsSettled}
use Rattle.ignore_guide.specs.declared.guide.Arrived.{Arrived}
use Rattle.ignore_guide.specs.declared.open.Opened.{Opened}
use Rattle.ignore_guide.specs.declared.places.Entered.{Entered}
use Rattle.ignore_guide.specs.declared.places.Place.{Place}
use Rattle.ignore_guide.specs.declared.places.Places.{Places}
use Rattle.ignore_guide.proofs.EnterLemmas.{Settles, stands-below}
use Rattle.ignore_guide.proofs.ForestLemmas.{forest-added, forest-grown, fresh-more, owned-fresh, owns-passes, some-entered}
use Rattle.ignore_guide.proofs.StandLemmas.{All-reverse}

some-parent : (a b : Place) → Some a ≡ Some b → a ≡ b
some-parent a b e = cc

-- what is settled stands for what its place does
lives-by : (slots : List Slot) (places : Places) (place : Place) (dir : Entered) (depth : ℕ) (at : Reached) → entered_at places place ≡ Some dir
    → StandsIn slots places place depth at → (reached : Reached) × Stands slots dir reached
lives-by slots places place dir depth at there s =
    (at, subst (λ (e : Entered). Stands slots e at) (some-entered s.dir dir (sym s.there ∙ there)) s.stands)

pub forest-root : (start mid new : List Slot) (before after : Places) (level : Option LevelPlace) (chain : List Placed) (place : Place)
    (opened : Opened) (depth : ℕ) (at : Reached) → Keeps start mid → Keeps mid new → AreFresh start mid level → IsChain mid level chain
    → entered_at before place ≡ None → KeepsOthers place before after
    → IsSettled mid new after place (record { level = level; parent = None }) opened → StandsIn new after place depth at
    → IsForest start before → IsForest new after
forest-root start mid new before after level chain place opened depth at grew keeps fresh is vacant others settled stands forest =
    forest-added start new before after forest (keeps-then start mid new grew keeps) place settled.dir vacant settled.there others
    (lives-by new after place settled.dir depth at settled.there stands) (λ none. settled.kept)
    (λ q parent. let none = settled.inside in absurd (cc (none, parent)))
    (λ l owns. fresh-more start mid new grew keeps level settled.dir.level chain is settled.branch fresh l (owns-passes owns))

pub forest-below : (old new : List Slot) (before after : Places) (parent place : Place) (outer : Entered) (opened : Opened) (name : List ℕ)
    → entered_at before parent ≡ Some outer → Keeps old new → entered_at before place ≡ None → KeepsOthers place before after
    → IsSettled old new after place (record { level = outer.level; parent = Some parent }) opened
    → Settles old outer.level new after place opened.depth opened.dir opened.text opened.path
    → opened.text ≡ (outer.text ++ name) ++ 47 ∷ [] → opened.path ≡ join_of outer.path name → opened.depth ≡ outer.depth + 1
    → IsForest old before → IsForest new after
forest-below old new before after parent place outer opened name there keeps vacant others settled settles t p d forest =
    let around = forest.alive parent outer there in
    let at = around.0 in
    let s = around.1 in
    let stands = stands-below old new before after parent place outer outer.depth opened.depth at opened.dir name opened.text opened.path (sym there)
    (record { dir = outer; there = there; deep = refl; stands = s }) settles t p d in
    let high : length at.text < length opened.text =
    let whole = ap length t in
    let end : length ((outer.text ++ name) ++ 47 ∷ []) ≡ length (outer.text ++ name) + 1 = length-append (outer.text ++ name) (47 ∷ []) in
    let front = length-append outer.text name in
    let own = ap length s.text in
    omega (arith, whole, end, front, own) in
    let low : All (λ q. q.1 ≤ length at.text) (counting at.chain) = λ k q lt. let a = s.inside k q lt in a.1 in
    let within : (q : Place) → settled.dir.parent ≡ Some q → IsWithin before settled.dir q = λ q is.
    let same : parent ≡ q = some-parent parent q (sym settled.inside ∙ is) in
    let deep = settled.deep in
    subst (λ (x : Place). IsWithin before settled.dir x) same
    (record { outer = outer; there = there; around = settled.kept; deeper = omega (arith, deep, d) }) in
    forest-added old new before after forest keeps place settled.dir vacant settled.there others
    (lives-by new after place settled.dir (outer.depth + 1) (holding opened.dir (entry at name)) settled.there stands)
    (λ none. let some = settled.inside in absurd (cc (some, none))) within
    (λ l owns. owned-fresh old new opened.dir outer.level settled.dir.level (length opened.text) keeps settled.added settled.branch
    (counting at.chain) s.chain (length at.text) low high l
    (subst (λ (x : Option LevelPlace). Owns new x settled.dir.level l) settled.kept owns))

-- what a directory that is settled stands for if it was, below any chain of what is around it
abbrev pub SettlesIfOk : {E : Type 0} → Result Arrived E → List Slot → Option LevelPlace → List Slot → Places → Opened → Type 0
SettlesIfOk r slots around new places opened =
    (at : Reached) → IsChain slots around (counting at.chain) → IsBelow (length opened.text) (counting at.chain)
    → All (λ p. IsAfterSlash opened.text p.1) (counting at.chain) → IsAfterSlash opened.text (length opened.text)
    → IfOk r (λ a. StandsIn new places a.place opened.depth
    (record { chain = (opened.dir, length opened.text) ∷ at.chain; text = opened.text; path = opened.path }))

-- Whether the directory was settled or there was no memory for it.
pub forest-below-any : {E : Type 0} (r : Result Arrived E) (old new : List Slot) (before after : Places) (parent : Place) (outer : Entered) (opened : Opened)
    (name : List ℕ) → entered_at before parent ≡ Some outer → Keeps old new → OnErr r (IsSamePlaces before after)
    → IfOk r (λ a. entered_at before a.place ≡ None) → IfOk r (λ a. KeepsOthers a.place before after)
    → IfOk r (λ a. IsSettled old new after a.place (record { level = outer.level; parent = Some parent }) opened)
    → SettlesIfOk r old outer.level new after opened
    → opened.text ≡ (outer.text ++ name) ++ 47 ∷ [] → opened.path ≡ join_of outer.path name → opened.depth ≡ outer.depth + 1
    → IsForest old before → IsForest new after
forest-below-any (Ok a) old new before after parent outer opened name there keeps same vacant others settled settles t p d forest =
    forest-below old new before after parent a.place outer opened name there keeps vacant others settled settles t p d forest
forest-below-any (Err e) old new before after parent outer opened name there keeps same vacant others settled settles t p d forest =
    forest-grown old new before after forest keeps same

pub forest-root-any : {E : Type 0} (r : Result Arrived E) (start mid new : List Slot) (before after : Places) (level : Option LevelPlace)
    (chain : List Placed) (opened : Opened) (at : Reached) → Keeps start mid → Keeps mid new → AreFresh start mid level → IsChain mid level chain
    → OnErr r (IsSamePlaces before after) → IfOk r (λ a. entered_at before a.place ≡ None) → IfOk r (λ a. KeepsOthers a.place before after)
    → IfOk r (λ a. IsSettled mid new after a.place (record { level = level; parent = None }) opened)
    → IfOk r (λ a. StandsIn new after a.place opened.depth at)
    → IsForest start before → IsForest new after
forest-root-any (Ok a) start mid new before after level chain opened at grew keeps fresh is same vacant others settled stands forest =
    forest-root start mid new before after level chain a.place opened opened.depth at grew keeps fresh is vacant others settled stands forest
forest-root-any (Err e) start mid new before after level chain opened at grew keeps fresh is same vacant others settled stands forest =
    forest-grown start new before after forest (keeps-then start mid new grew keeps) same

-- what the directories above a root leave is after a slash
pub above-placed : (text : List ℕ) (above : List Placed) → All (λ p. IsAfterSlash text p.1) above
    → All (λ p. IsAfterSlash text p.1) (counting (reverse above))
above-placed text above placed =
    All-filter (λ (q : Placed). counts q.0) (λ (q : Placed). IsAfterSlash text q.1) (reverse above)
    (All-reverse (λ (q : Placed). IsAfterSlash text q.1) above placed)
