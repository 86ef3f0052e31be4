-- What a walk yields, by the queries of its roots.
use Rattle.std.proofs.Common.{◌≡◌, ◌⊎◌, ◌↔◌, inl, inr, ℕ, Bool, true, false, not, ◌&&◌, ◌||◌, List, [], ◌∷◌, length, codes, bytes_eq, Contains, refl, sym, ap, subst, ◌∙◌, ⊎_elim}
use Rattle.std.proofs.lemmas.Bool.{and_from, and_parts, not-true, not_from_false, or_from, or_parts}
use Rattle.ignore_base.specs.Paths.{JoinsName, LeavesThePath}
use Rattle.ignore_dir.specs.Limits.{is_below}
use Rattle.ignore_walk.specs.Agreement.{IsKeptBelow, IsOpen, Reachable, at_root, is_kept, is_within, listed}
use Rattle.ignore_walk.specs.Branch.{Branch}
use Rattle.ignore_walk.specs.Child.{is_dir_kind}
use Rattle.ignore_walk.specs.Entry.{Entry, Item, stdin_entry}
use Rattle.ignore_walk.specs.Scene.{Scene}
use Rattle.ignore_walk.specs.Visits.{IsShown, IsShownBelow, IsYielded}
use Rattle.ignore_walk.specs.Walked.{WalkedOne, ignores, is_at_least, is_skipped, is_too_large}
use Rattle.ignore_walk.specs.Whole.{WalkedRoots, root_entry}
use Rattle.ignore_walk.proofs.AgreeLemmas.{clear_visited, visited_clear}
use Rattle.ignore_walk.proofs.KeptLemmas.{above_ignored, kept-below, kept-root}
use Rattle.ignore_walk.proofs.PlaceNames.{path-one}
use Rattle.ignore_walk.proofs.ReachLemmas.{path-is, reach_depth, reach_names, reach_path, root_is_dir}
use Rattle.ignore_walk.proofs.ShownLemmas.{shown_yielded, whole_shows, yielded_shown}

-- a query keeps what is not below an ignored directory, not skipped, and not above the least depth

not_filtered : (keep large : Bool) → keep ≡ true → large ≡ (large || not keep)
not_filtered true true h = refl
not_filtered true false h = refl
not_filtered false large h = absurd (cc (h))

kept-is : JoinsName → (g : Scene) (root : List ℕ) (b : Branch) (e : Entry) → IsOpen g → bytes_eq root (codes "-") ≡ false
    → Reachable g root b e → is_within g b ≡ true
    → is_kept g root b e ≡ (not (above_ignored g root b || is_skipped g root b e) && is_at_least g.settings.min_depth (length b))
unfolding is_skipped
kept-is join g root [] e o file (at_root h) within = kept-root g root e file within
kept-is join g root (n ∷ b) e o file (listed {dir = d} {kind = kind} r l c h) within =
    let whole : Reachable g root (n ∷ b) e = listed {dir = d} {kind = kind} r l c h in
    kept-below join g root n b e file (reach_names g root (n ∷ b) e whole) (root_is_dir g root b d r l) within (reach_path g root
    (n ∷ b) e whole)
    ∙ ap (λ (x : Bool). not (above_ignored g root (n ∷ b) || (ignores g root (n ∷ b) (is_dir_kind e.kind) || x))
    && is_at_least g.settings.min_depth (length (n ∷ b))) (not_filtered (g.keep e) (is_too_large g e) (o.keeps_all e))

-- the path of an entry says its place
one_place : JoinsName → LeavesThePath → (g : Scene) (root : List ℕ) (b c : Branch) (e : Entry) → Reachable g root b e
    → Reachable g root c e
    → b ≡ c
one_place join left g root b c e r s =
    let names = reach_names g root b e r in
    let others = reach_names g root c e s in
    path-one left root b c names others
    (sym (path-is join root b names) ∙ (sym (reach_path g root b e r) ∙ (reach_path g root c e s ∙ path-is join root c others)))

-- what is shown is what is kept

kept_shown : JoinsName → (g : Scene) (root : List ℕ) (e : Entry) → IsOpen g → bytes_eq root (codes "-") ≡ false → (s : IsShown g root e)
    → is_kept g root s.place e ≡ true
kept_shown join g root e o file s =
    let c = visited_clear g root s.place e s.visited in
    kept-is join g root s.place e o file c.reached c.within
    ∙ and_from (not (above_ignored g root s.place || is_skipped g root s.place e)) (is_at_least g.settings.min_depth (length s.place))
    (not_from_false _ (or_from (above_ignored g root s.place) (is_skipped g root s.place e) c.clear s.kept))
    (subst (λ (k : ℕ). is_at_least g.settings.min_depth k ≡ true) (reach_depth g root s.place e c.reached) s.deep)

shown_kept : JoinsName → (g : Scene) (root : List ℕ) (b : Branch) (e : Entry) → IsOpen g → bytes_eq root (codes "-") ≡ false
    → Reachable g root b e → is_within g b ≡ true → is_kept g root b e ≡ true → IsShown g root e
shown_kept join g root b e o file r within kept =
    let parts = and_parts (not (above_ignored g root b || is_skipped g root b e)) (is_at_least g.settings.min_depth (length b))
    (sym (kept-is join g root b e o file r within) ∙ kept) in
    let clear = or_parts (above_ignored g root b) (is_skipped g root b e) (not-true
    (above_ignored g root b || is_skipped g root b e) parts.0) in
    record {
      place = b;
      visited = clear_visited g root b e o r (not-true (is_below g.settings.max_depth (length b)) within) clear.0;
      kept = clear.1;
      deep = subst (λ (k : ℕ). is_at_least g.settings.min_depth k ≡ true) (sym (reach_depth g root b e r)) parts.1;
    }

pub agrees : JoinsName → LeavesThePath → (g : Scene) (root : List ℕ) (b : Branch) (e : Entry) (items : List Item) (n : ℕ)
    → IsOpen g → bytes_eq root (codes "-") ≡ false → Reachable g root b e → is_within g b ≡ true
    → WalkedOne g root [] (root_entry g root) items n → IsYielded items e ↔ (is_kept g root b e ≡ true)
agrees join left g root b e items n o file r within w = (
  λ (y : IsYielded items e).
      let s = yielded_shown g root e items n w y in
      subst (λ (c : Branch). is_kept g root c e ≡ true)
      (one_place join left g root s.place b e (visited_clear g root s.place e s.visited).reached r) (kept_shown join g root e o file s),
  λ (k : is_kept g root b e ≡ true). shown_yielded g root e items n w (shown_kept join g root b e o file r within k),
)

pub yielded_reachable : (g : Scene) (root : List ℕ) (e : Entry) (items : List Item) (n : ℕ)
    → WalkedOne g root [] (root_entry g root) items n → IsYielded items e
    → (b : Branch) × Reachable g root b e × (is_within g b ≡ true)
yielded_reachable g root e items n w y =
    let s = yielded_shown g root e items n w y in
    let c = visited_clear g root s.place e s.visited in
    (s.place, c.reached, c.within)

-- whole walks

kept_below : JoinsName → (g : Scene) (roots : List (List ℕ)) (e : Entry) → IsOpen g → IsShownBelow g roots e → IsKeptBelow g roots e
kept_below join g roots e o t =
    let c = visited_clear g t.root t.shown.place e t.shown.visited in
    record {
      root = t.root;
      place = t.shown.place;
      given = t.given;
      no_stdin = t.no_stdin;
      reachable = c.reached;
      within = c.within;
      kept = kept_shown join g t.root e o t.no_stdin t.shown;
    }

shown_below : JoinsName → (g : Scene) (roots : List (List ℕ)) (e : Entry) → IsOpen g → IsKeptBelow g roots e → IsShownBelow g roots e
shown_below join g roots e o t =
    record {
      root = t.root;
      given = t.given;
      no_stdin = t.no_stdin;
      shown = shown_kept join g t.root t.place e o t.no_stdin t.reachable t.within t.kept;
    }

abbrev pub IsStdin : List (List ℕ) → Entry → Type 0
IsStdin roots e = (e ≡ stdin_entry) × Contains roots (codes "-")

pub whole_yields : JoinsName → (g : Scene) (roots : List (List ℕ)) (e : Entry) (items : List Item) (n : ℕ) → IsOpen g
    → WalkedRoots g [] roots items n → IsYielded items e ↔ (IsStdin roots e ⊎ IsKeptBelow g roots e)
whole_yields join g roots e items n o w =
    let t = whole_shows g roots e items n w in (
      λ (y : IsYielded items e).
          ⊎_elim (λ (s : IsStdin roots e). inl s) (λ (s : IsShownBelow g roots e). inr (kept_below join g roots e o s)) (t.0 y),
      λ (k : IsStdin roots e ⊎ IsKeptBelow g roots e).
          t.1 (⊎_elim (λ (s : IsStdin roots e). inl s) (λ (s : IsKeptBelow g roots e). inr (shown_below join g roots e o s)) k),
    )
