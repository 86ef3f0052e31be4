-- A survey has a list of items, where the directories of its tree can be numbered.
use Rattle.std.proofs.Common.{◌≡◌, ℕ, zero, suc, ◌+◌, ◌<◌, ◌≤◌, Bool, true, false, ◌&&◌, not, List, [], ◌∷◌, map, reverse, Contains, None, Result, Ok, Err, refl, sym, ◌∙◌, ap, subst, arith}
use Rattle.std.proofs.lemmas.Bool.{and_from}
use Rattle.ignore_base.specs.Paths.{JoinsName, has_slash, is_proper, join_of, joined}
use Rattle.ignore_base.specs.Text.{Bytes, Path}
use Rattle.ignore_base.specs.declared.fault.Fault.{Fault}
use Rattle.ignore_dir.specs.Limits.{beyond, is_beyond, is_deepest, limited, no_match, sized}
use Rattle.ignore_dir.specs.Query.{answer_of_rules, depth_of_path, has_rules, is_asked, limit_of, names_of, query, rules_verdict, size_of}
use Rattle.ignore_dir.specs.Scene.{QueryScene}
use Rattle.ignore_dir.specs.Verdict.{is_ignore}
use Rattle.ignore_dir.specs.declared.verdict.Verdict.TheVariants as v
use Rattle.ignore_files.specs.Dirs.{IsNumbered}
use Rattle.ignore_files.specs.Kinds.{is_dir}
use Rattle.ignore_files.specs.declared.types.FileType.{FileType}
use Rattle.ignore_files.specs.declared.types.FileType.TheVariants as type
use Rattle.ignore_files.specs.declared.types.Listed.{Listed}
use Rattle.ignore_files.specs.declared.types.Listed.TheVariants as thing
use Rattle.ignore_walk.proofs.ChildSteps.{dir_type, listed_ok}
use Rattle.ignore_walk.proofs.PlaceNames.{AreNames}
use Rattle.ignore_walk.proofs.SomeOrder.{arranged_of, some_arrangement}
use Rattle.ignore_walk.specs.Branch.{Branch, path_of}
use Rattle.ignore_walk.specs.Child.{named}
use Rattle.ignore_survey.specs.Survey.{Below, Each, IsSurvey, Item, by_name, goes_on, is_open, place}
use Rattle.ignore_survey.specs.Survey.{fails, lists, none, fault, leaf, inner, closed, of_root}
use Rattle.ignore_survey.proofs.AgreeLemmas.{Answer, choose, descends_dir, joined-push, place-at}
use Rattle.ignore_survey.proofs.SurveyLemmas.{names_order}

-- what a query descends is a directory
no_match-dir : (d : Bool) → (no_match d).descends ≡ true → d ≡ true
no_match-dir true h = refl
no_match-dir false h = absurd (cc (h))

query-dir : (g : QueryScene) (path : Path) (d : Bool) → (query g path d).0.descends ≡ true → d ≡ true
unfolding query answer_of_rules
query-dir g path d =
    let own = sized (limit_of g path d) (size_of g path) (rules_verdict g (names_of path) d) in
    let depth = depth_of_path path in
    choose (λ (a : Answer). a.0.descends ≡ true → d ≡ true) (is_asked g.root path) (is_beyond g.settings depth d) (has_rules g.tree g.root path)
    (no_match d, None) (beyond, None) (answer_of_rules g path d) (limited g.settings depth d v.None, None)
    (no_match-dir d) (λ out h. absurd (cc (h)))
    (descends_dir d (not (is_ignore own) && not (is_deepest g.settings.max_depth depth)))
    (descends_dir d (not (is_ignore v.None) && not (is_deepest g.settings.max_depth depth)))

-- some items of each of some things
module _ (g : QueryScene) where
  abbrev SomeBelow : Path → Type 0
  SomeBelow dir = (items : List Item) × Below g dir items

  abbrev SomeEach : Path → List Listed → Type 0
  SomeEach dir things = (items : List Item) × Each g dir things items

  -- the directories among some things that the one at a path lists, below which it goes on, have items
  abbrev HaveItems : Path → List Listed → Type 0
  HaveItems dir things =
      (name : Bytes) (kind : FileType) → Contains things (thing.Entry name kind) → goes_on g (join_of dir name) kind ≡ true
      → SomeBelow (join_of dir name)

  others : (dir : Path) (x : Listed) (things : List Listed) → HaveItems dir (x ∷ things) → HaveItems dir things
  others dir x things each name kind h goes = let less = h.1 in each name kind (suc h.0, omega (arith, less), h.2) goes

  some_entry : (dir : Path) (name : Bytes) (kind : FileType) (things : List Listed) (goes : Bool) → goes_on g (join_of dir name) kind ≡ goes
      → (goes ≡ true → SomeBelow (join_of dir name)) → SomeEach dir things → SomeEach dir (thing.Entry name kind ∷ things)
  some_entry dir name kind things true is below rest = let inside = below refl in (_, inner is inside.1 rest.1)
  some_entry dir name kind things false is below rest = (_, leaf is rest.1)

  some_each : (dir : Path) (things : List Listed) → HaveItems dir things → SomeEach dir things
  some_each dir [] each = (_, none)
  some_each dir (thing.Fault f ∷ things) each =
      let rest = some_each dir things (others dir (thing.Fault f) things each) in (_, fault rest.1)
  some_each dir (thing.Entry name kind ∷ things) each =
      some_entry dir name kind things (goes_on g (join_of dir name) kind) refl (λ goes. each name kind (0, omega arith, refl) goes)
      (some_each dir things (others dir (thing.Entry name kind) things each))

  -- a directory that lists, by those that it lists
  some_listing : (dir : Path) (xs : List Listed) → g.tree.list (place g.root dir) ≡ Ok xs → HaveItems dir (map named xs) → SomeBelow dir
  some_listing dir xs is each =
      let a = some_arrangement by_name (place g.root dir) (map named xs) (λ path. names_order) in
      let things = some_each dir a.0 (λ name kind h goes.
      each name kind (arranged_of by_name (place g.root dir) (map named xs) a.0 (thing.Entry name kind) a.1 h) goes) in
      (_, lists (xs, is, a.1) things.1)

  module _ (join : JoinsName) (n : ℕ) (dirs : IsNumbered g.tree n) where
    -- the path of a place below the root, by which a survey knows it
    abbrev below_root : Branch → Path
    below_root b = joined (reverse b)

    abbrev number_at : Branch → ℕ
    number_at b = dirs.number (path_of g.root b)

    list_at : (b : Branch) (xs : List Listed) → AreNames b → g.tree.list (place g.root (below_root b)) ≡ Ok xs
        → g.tree.list (path_of g.root b) ≡ Ok xs
    list_at b xs names is = ap (λ (p : Path). g.tree.list p) (sym (place-at join g.root b names)) ∙ is

    -- a directory below another has a greater number
    record Steps (b : Branch) (name : Bytes) : Type 0 where
      names : AreNames (name ∷ b)
      grows : number_at b < number_at (name ∷ b)
      at : below_root (name ∷ b) ≡ join_of (below_root b) name

    step : (b : Branch) (xs : List Listed) (name : Bytes) (kind : FileType) → AreNames b → g.tree.list (place g.root (below_root b)) ≡ Ok xs
        → Contains (map named xs) (thing.Entry name kind) → goes_on g (join_of (below_root b) name) kind ≡ true → Steps b name
    step b xs name kind names is h goes =
        let l = listed_ok (Ok xs) name kind h in
        let dir : kind ≡ type.Dir = dir_type kind (query-dir g (join_of (below_root b) name) (is_dir kind) goes) in
        let has = subst (λ (t : FileType). Contains l.things (thing.Entry name t)) dir l.has in
        let own : AreNames (name ∷ b) = (and_from (is_proper name) (not (has_slash name)) l.proper (ap (λ (x : Bool). not x) l.flat), names) in
        record {
          names = own;
          grows = (dirs.listed (path_of g.root b) name l.things (list_at b xs names is ∙ l.list) has l.proper l.flat).0;
          at = sym (joined-push join b name own);
        }

    some_below : (k : ℕ) (b : Branch) (r : Result (List Listed) Fault) → AreNames b → n ≤ number_at b + k
        → g.tree.list (place g.root (below_root b)) ≡ r → SomeBelow (below_root b)
    some_below k b (Err f) names fits is = (_, fails is)
    some_below zero b (Ok xs) names fits is =
        let less = dirs.listing (path_of g.root b) xs (list_at b xs names is) in absurd (omega (arith, less, fits))
    some_below (suc k) b (Ok xs) names fits is =
        some_listing (below_root b) xs is (λ name kind h goes.
        let s = step b xs name kind names is h goes in
        let grows = s.grows in
        subst SomeBelow s.at
        (some_below k (name ∷ b) (g.tree.list (place g.root (below_root (name ∷ b)))) s.names (omega (arith, grows, fits)) refl))

    some_root : (goes : Bool) → is_open g ≡ goes → (items : List Item) × IsSurvey g items
    some_root true is = let own = some_below n [] (g.tree.list (place g.root [])) tt (omega arith) refl in (_, of_root is own.1)
    some_root false is = ([], closed is)

pub some_survey : JoinsName → (g : QueryScene) (n : ℕ) → IsNumbered g.tree n → (items : List Item) × IsSurvey g items
some_survey join g n dirs = some_root g join n dirs (is_open g) refl
