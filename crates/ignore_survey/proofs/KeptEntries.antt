-- The entries of a survey that aren't ignored are those of the walk.
use Rattle.std.proofs.Common.{◌≡◌, ℕ, ◌<◌, Bool, true, false, not, ◌&&◌, List, [], ◌∷◌, length, reverse, codes, bytes_eq, Contains, Option, Some, Ok, refl, sym, ◌∙◌, ap, subst, arith}
use Rattle.std.specs.Prelude.{◌↔◌}
use Rattle.ignore_base.specs.Paths.{JoinsName, join_of, joined}
use Rattle.ignore_base.specs.Text.{Bytes, Path}
use Rattle.ignore_dir.specs.Limits.{is_below}
use Rattle.ignore_dir.specs.Query.{query}
use Rattle.ignore_dir.specs.Scene as below
use Rattle.ignore_dir.specs.Verdict.{is_ignore}
use Rattle.ignore_dir.specs.declared.incremental.IncrementalMatch.{IncrementalMatch}
use Rattle.ignore_files.specs.Kinds.{is_dir}
use Rattle.ignore_files.specs.declared.types.FileType.{FileType}
use Rattle.ignore_files.specs.declared.types.Listed.TheVariants as thing
use Rattle.ignore_walk.proofs.AgreeLemmas.{visited_clear}
use Rattle.ignore_walk.proofs.ChildLemmas.{ok_equal}
use Rattle.ignore_walk.proofs.ReachLemmas.{reach_depth, reach_names}
use Rattle.ignore_walk.proofs.ShownLemmas.{enter_kept}
use Rattle.ignore_walk.proofs.VisitLemmas.{enter_leads}
use Rattle.ignore_walk.specs.Agreement.{Reachable, is_kept, is_within, keeps}
use Rattle.ignore_walk.specs.Agreement.{at_root as reach_root, listed as reach_listed}
use Rattle.ignore_walk.specs.Branch.{Branch}
use Rattle.ignore_walk.specs.Child.{child, is_dir_kind}
use Rattle.ignore_walk.specs.Entry.{Entry as Walked, Item as WalkItem}
use Rattle.ignore_walk.specs.Scene.{Scene, queries}
use Rattle.ignore_walk.specs.Visits.{IsShown, IsVisited, IsYielded, at_root, listed}
use Rattle.ignore_walk.specs.Walked.{WalkedOne, enter, fate, is_at_least, leads_in, listing_of}
use Rattle.ignore_walk.specs.Whole.{root_entry}
use Rattle.ignore_survey.specs.Agreement.{IsKept, IsPlain, walked}
use Rattle.ignore_survey.specs.Survey.{Entry, Item, IsSurvey, entry_at, goes_on, is_open, closed, of_root}
use Rattle.ignore_survey.proofs.AgreeLemmas.{child-plain, query-fair, root-descends}
use Rattle.ignore_survey.proofs.FoundLemmas.{Found, Within, dir_place, entry_below, in_below, is_walked, listed_has, path_below}

kept_parts : (ignored within : Bool) → (not ignored && within) ≡ true → ignored ≡ false
kept_parts true within h = absurd (cc (h))
kept_parts false within h = refl

both : (ignored within : Bool) → ignored ≡ false → within ≡ true → (not ignored && within) ≡ true
both true within h k = absurd (cc (h))
both false within h k = k

goes_down : (d ignored : Bool) → d ≡ true → ignored ≡ false → (d && not ignored) ≡ true
goes_down true true h k = absurd (cc (k))
goes_down true false h k = refl
goes_down false ignored h k = absurd (cc (h))

module _ (w : Scene) (root : Path) (join : JoinsName) (plain : IsPlain w) (no_stdin : bytes_eq root (codes "-") ≡ false)
    (top : Walked) (root_is : root_entry w root ≡ Ok top) (is_directory : leads_in w [] top ≡ true)
    (items : List Item) (survey : IsSurvey (queries w root) items) (out : List WalkItem) (n : ℕ) (walk : WalkedOne w root [] (root_entry w root) out n)
    (agrees : (b : Branch) (e : Walked) → Reachable w root b e → is_within w b ≡ true → IsYielded out e ↔ (is_kept w root b e ≡ true))
    (shows : (e : Walked) → IsYielded out e ↔ IsShown w root e) where
  abbrev g : below.QueryScene
  g = queries w root

  within : (b : Branch) → is_within w b ≡ true
  within b = ap (λ (o : Option ℕ). not (is_below o (length b))) plain.no_greatest

  deep : (e : Walked) → is_at_least w.settings.min_depth e.depth ≡ true
  deep e = ap (λ (o : Option ℕ). is_at_least o e.depth) plain.no_least

  -- what the walk asks of an entry
  kept_at : (b : Branch) (e : Walked) (path : Path) (kind : FileType) → joined (reverse b) ≡ path → e.kind ≡ Some kind
      → is_kept w root b e ≡ keeps (query g path (is_dir kind)).0
  unfolding is_kept
  kept_at b e path kind at is =
      ap (λ (p : Path). keeps (query g p (is_dir_kind e.kind)).0) at ∙ ap (λ (k : Option FileType). keeps (query g path (is_dir_kind k)).0) is

  yields : (e : Entry) → Contains items (Ok e) → is_ignore e.answer.verdict ≡ false → (v : Walked) → v ≡ walked root e
      → IsYielded out v × (0 < v.depth)
  yields e among kept v is = by items survey among
    where
      one : Found w root join plain e → IsYielded out v × (0 < v.depth)
      one f =
          let b = f.name ∷ f.b in
          let same : f.v ≡ v = f.is ∙ sym is in
          let fair = query-fair g e.path (is_dir e.kind) (plain.no_least, plain.no_greatest) in
          let answer : e.answer ≡ (query g e.path (is_dir e.kind)).0 = ap (λ (x : Entry). x.answer) f.asked in
          let keep : keeps (query g e.path (is_dir e.kind)).0 ≡ true =
          both (is_ignore (query g e.path (is_dir e.kind)).0.verdict) (query g e.path (is_dir e.kind)).0.is_within
          (subst (λ (a : IncrementalMatch). is_ignore a.verdict ≡ false) answer kept) fair.0 in
          let asked = kept_at b f.v e.path e.kind (sym f.path) (ap (λ (x : Walked). x.kind) f.is) in
          let own = (agrees b f.v f.reached (within b)).1 (asked ∙ keep) in
          let size = reach_depth w root b f.v f.reached in
          (subst (IsYielded out) same own, let depth : v.depth ≡ f.v.depth = ap (λ (x : Walked). x.depth) (sym same) in omega (size, depth, arith))

      by : (all : List Item) → IsSurvey g all → Contains all (Ok e) → IsYielded out v × (0 < v.depth)
      by all (closed shut) (k, less, h) = absurd (omega (arith, less))
      by all (of_root goes below) c = one (in_below w root join plain [] top [] all e refl (reach_root root_is) is_directory below c)

  -- the root is surveyed
  opens : is_open g ≡ true
  opens = both (bytes_eq root (codes "-")) (query g [] true).0.descends no_stdin (root-descends g (plain.no_least, plain.no_greatest))

  from_root : Within w root join plain items []
  from_root = by items survey
    where
      by : (all : List Item) → IsSurvey g all → Within w root join plain all []
      by all (closed shut) = absurd (let e = sym shut ∙ opens in cc (e))
      by all (of_root goes below) = record { inside = all; below = below; among = λ x h. h }

  -- what is listed in a directory that the walk enters
  record Listed (c : Branch) (name : Bytes) (kind : FileType) (d : Walked) : Type 0 where
    has : Contains items (Ok (entry_at g (join_of (joined (reverse c)) name) kind))
    goes : goes_on g (join_of (joined (reverse c)) name) kind ≡ true → Within w root join plain items (joined (reverse (name ∷ c)))
    reached : Reachable w root (name ∷ c) d
    path : join_of (joined (reverse c)) name ≡ joined (reverse (name ∷ c))
    is : d ≡ walked root (entry_at g (join_of (joined (reverse c)) name) kind)

  in_listed : (c : Branch) (name : Bytes) (kind : FileType) (p d : Walked) → IsVisited w root c p → fate w root c p ≡ enter
      → Contains (listing_of (w.tree.list p.path)) (thing.Entry name kind) → child w root c (thing.Entry name kind) ≡ Ok d
      → Within w root join plain items (joined (reverse c)) → Listed c name kind d
  in_listed c name kind p d v is lists child inside =
      let dir = joined (reverse c) in
      let clear = visited_clear w root c p v in
      let has = listed_has w root join plain p dir items name kind (dir_place w root join plain c p dir refl clear.reached) inside lists in
      let reached = reach_listed {dir = p} {kind = kind} clear.reached (enter_leads w root c p is) lists child in
      let names = reach_names w root (name ∷ c) d reached in
      let path = path_below w root join plain c name dir refl names in
      record {
        has = has.0;
        goes = λ goes. subst (Within w root join plain items) path (has.1 goes);
        reached = reached;
        path = path;
        is = ok_equal (entry_below w root join plain c name kind) d
            (sym (child-plain w root c name kind plain.no_links plain.is_open.all_devices) ∙ child)
            ∙ is_walked w root join plain c name kind dir refl names;
      }

  -- the walk keeps it, so the query doesn't ignore it
  not_ignored : (c : Branch) (name : Bytes) (kind : FileType) (d : Walked) → Listed c name kind d → IsYielded out d
      → is_ignore (query g (join_of (joined (reverse c)) name) (is_dir kind)).0.verdict ≡ false
  not_ignored c name kind d l y =
      let path = join_of (joined (reverse c)) name in
      let a = (query g path (is_dir kind)).0 in
      kept_parts (is_ignore a.verdict) a.is_within
      (sym (kept_at (name ∷ c) d path kind (sym l.path) (ap (λ (x : Walked). x.kind) l.is)) ∙ (agrees (name ∷ c) d l.reached (within (name ∷ c))).0 y)

  in_dir : (b : Branch) (d : Walked) → IsVisited w root b d → fate w root b d ≡ enter → Within w root join plain items (joined (reverse b))
  in_dir [] d (at_root h) is = from_root
  in_dir (name ∷ c) d (listed {dir = p} {kind = kind} v is lists child) enters =
      let l = in_listed c name kind p d v is lists child (in_dir c p v is) in
      let path = join_of (joined (reverse c)) name in
      let shown : IsShown w root d = record {
        place = name ∷ c;
        visited = listed {dir = p} {kind = kind} v is lists child;
        kept = (enter_kept w root (name ∷ c) d enters).0;
        deep = deep d;
      } in
      let fair = query-fair g path (is_dir kind) (plain.no_least, plain.no_greatest) in
      let dir : is_dir kind ≡ true = subst (λ (x : Walked). is_dir_kind x.kind ≡ true) l.is (enter_leads w root (name ∷ c) d enters) in
      l.goes (fair.1 ∙ goes_down (is_dir kind) (is_ignore (query g path (is_dir kind)).0.verdict) dir
      (not_ignored c name kind d l ((shows d).1 shown)))

  keeps_it : (v : Walked) → IsYielded out v → 0 < v.depth → IsKept root items v
  keeps_it v y deep_ = let s = (shows v).0 y in by s.place s.visited
    where
      by : (b : Branch) → IsVisited w root b v → IsKept root items v
      by [] (at_root h) = absurd (let e = reach_depth w root [] v (reach_root h) in omega (e, deep_, arith))
      by (name ∷ c) (listed {dir = p} {kind = kind} u is lists child) =
          let l = in_listed c name kind p v u is lists child (in_dir c p u is) in
          record {
            entry = entry_at g (join_of (joined (reverse c)) name) kind;
            among = l.has;
            kept = not_ignored c name kind v l y;
            is = l.is;
          }

  pub agreement : (v : Walked) → IsKept root items v ↔ (IsYielded out v × (0 < v.depth))
  agreement v = (λ k. yields k.entry k.among k.kept v k.is, λ y. keeps_it v y.0 y.1)
