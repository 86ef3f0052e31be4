-- A survey and the walk of its root yield the same entries, those that a survey finds ignored left out.
use Rattle.std.proofs.Common.{◌≡◌, ℕ, ◌+◌, ◌==◌, Bool, true, false, cond, not, ◌&&◌, ◌||◌, List, [], ◌∷◌, length, reverse, Option, None, Some, Ok, refl, sym, ◌∙◌, ap}
use Rattle.std.proofs.lemmas.Bool.{both_ways}
use Rattle.std.proofs.lemmas.List.{length-reverse}
use Rattle.ignore_base.proofs.JoinLemmas.{join_of-nil}
use Rattle.ignore_base.specs.Paths.{JoinsName, components, directory_of, join_of, joined}
use Rattle.ignore_base.specs.Problem.{Problem}
use Rattle.ignore_base.specs.Text.{Bytes, Path}
use Rattle.ignore_dir.specs.Limits.{beyond, is_above, is_below, is_beyond, is_deepest, limited, no_match, sized}
use Rattle.ignore_dir.specs.Query.{answer_of_rules, depth_of_path, has_rules, is_asked, limit_of, names_of, problem_of_rules, query, rules_verdict, size_of}
use Rattle.ignore_dir.specs.Scene as below
use Rattle.ignore_dir.specs.Verdict.{is_ignore}
use Rattle.ignore_dir.specs.declared.incremental.IncrementalMatch.{IncrementalMatch}
use Rattle.ignore_dir.specs.declared.settings.Settings.{Settings}
use Rattle.ignore_dir.specs.declared.verdict.Verdict.{Verdict}
use Rattle.ignore_dir.specs.declared.verdict.Verdict.TheVariants as v
use Rattle.ignore_files.specs.declared.types.FileType.{FileType}
use Rattle.ignore_files.specs.declared.types.Listed.TheVariants as thing
use Rattle.ignore_walk.proofs.PlaceNames.{AreNames, all_names, components-joined, filled, name_from, names-reverse, reverse-cons}
use Rattle.ignore_walk.proofs.ReachLemmas.{path-is}
use Rattle.ignore_walk.specs.Branch.{Branch, path_of}
use Rattle.ignore_walk.specs.Child.{child}
use Rattle.ignore_walk.specs.Scene.{Scene}
use Rattle.ignore_survey.specs.Survey.{place}

-- the paths of names

directory-empty : (ns : List (List ℕ)) → directory_of [] ns ≡ joined ns
directory-empty [] = refl
directory-empty (n ∷ ns) = join_of-nil (joined (n ∷ ns))

pub joined-push : JoinsName → (b : Branch) (name : Bytes) → AreNames (name ∷ b)
    → join_of (joined (reverse b)) name ≡ joined (reverse (name ∷ b))
joined-push join b name h =
    let names = names-reverse b h.1 in
    ap (λ (p : Path). join_of p name) (sym (directory-empty (reverse b)))
    ∙ (join [] (reverse b) name (all_names (reverse b) names) (name_from name h.0)
    ∙ (ap (directory_of []) (sym (reverse-cons name b)) ∙ directory-empty (reverse (name ∷ b))))

place-some : (root p : Path) → (length p == 0) ≡ false → place root p ≡ join_of root p
place-some root [] h = absurd (both_ways _ h refl)
place-some root (c ∷ cs) h = refl

place-names : (root : Path) (ns : List (List ℕ)) → AreNames ns → place root (joined ns) ≡ directory_of root ns
place-names root [] h = refl
place-names root (n ∷ ns) h = place-some root (joined (n ∷ ns)) (filled n ns h.0)

pub place-at : JoinsName → (root : Path) (b : Branch) → AreNames b → place root (joined (reverse b)) ≡ path_of root b
place-at join root b h = place-names root (reverse b) (names-reverse b h) ∙ sym (path-is join root b h)

names-some : (p : Path) → (length p == 0) ≡ false → names_of p ≡ components p
names-some [] h = absurd (both_ways _ h refl)
names-some (c ∷ cs) h = refl

names-joined : (ns : List (List ℕ)) → AreNames ns → names_of (joined ns) ≡ ns
names-joined [] h = refl
names-joined (n ∷ ns) h = names-some (joined (n ∷ ns)) (filled n ns h.0) ∙ components-joined n ns h

pub depth-at : (b : Branch) → AreNames b → depth_of_path (joined (reverse b)) ≡ length b
depth-at b h = ap (λ (l : List (List ℕ)). length l) (names-joined (reverse b) (names-reverse b h)) ∙ length-reverse b

-- the answers of queries without limits on depth

abbrev pub Answer : Type 0
Answer = IncrementalMatch × Option Problem

abbrev chosen : Bool → Bool → Bool → Answer → Answer → Answer → Answer → Answer
chosen asked out rules a b c d = cond (not asked) a (cond out b (cond rules c d))

-- what holds of each answer that is given holds of the one that is chosen
pub choose : (P : Answer → Type 0) (asked out rules : Bool) (a b c d : Answer) → P a → (out ≡ true → P b) → P c → P d
    → P (chosen asked out rules a b c d)
choose P false out rules a b c d x y z w = x
choose P true true rules a b c d x y z w = y refl
choose P true false true a b c d x y z w = z
choose P true false false a b c d x y z w = w

abbrev pub HasNoLimits : Settings → Type 0
HasNoLimits s = (s.min_depth ≡ None) × (s.max_depth ≡ None)

not_beyond : (s : Settings) (depth : ℕ) (d : Bool) → HasNoLimits s → is_beyond s depth d ≡ false
not_beyond s depth d h =
    ap (λ (o : Option ℕ). (not d && is_above o depth) || is_below s.max_depth depth) h.0
    ∙ (ap (λ (o : Option ℕ). (not d && false) || is_below o depth) h.1 ∙ by d)
  where
    by : (b : Bool) → ((not b && false) || false) ≡ false
    by true = refl
    by false = refl

-- where there are no limits on depth, a query of a path is within them, and what isn't ignored is
-- descended where it is a directory
abbrev pub IsFair : Bool → Answer → Type 0
IsFair d a = (a.0.is_within ≡ true) × (a.0.descends ≡ (d && not (is_ignore a.0.verdict)))

no_match-fair : (d : Bool) → IsFair d (no_match d, None)
no_match-fair true = (refl, refl)
no_match-fair false = (refl, refl)

and_true : (a b : Bool) → (a && (b && not false)) ≡ (a && b)
and_true true true = refl
and_true true false = refl
and_true false b = refl

limited-fair : (s : Settings) (depth : ℕ) (d : Bool) (said : Verdict) (p : Option Problem) → HasNoLimits s → IsFair d (limited s depth d said, p)
limited-fair s depth d said p h = (
  ap (λ (o : Option ℕ). not (is_above o depth)) h.0,
  ap (λ (o : Option ℕ). d && (not (is_ignore said) && not (is_deepest o depth))) h.1 ∙ and_true d (not (is_ignore said)),
)

pub query-fair : (g : below.QueryScene) (path : Path) (d : Bool) → HasNoLimits g.settings → IsFair d (query g path d)
unfolding query answer_of_rules
query-fair g path d h =
    choose (IsFair d) (is_asked g.root path) (is_beyond g.settings (depth_of_path path) d) (has_rules g.tree g.root path)
    (no_match d, None) (beyond, None) (answer_of_rules g path d) (limited g.settings (depth_of_path path) d v.None, None)
    (no_match-fair d) (λ out. absurd (let e = sym (not_beyond g.settings (depth_of_path path) d h) ∙ out in cc (e)))
    (limited-fair g.settings (depth_of_path path) d (sized (limit_of g path d) (size_of g path) (rules_verdict g (names_of path) d)) (problem_of_rules g path d) h)
    (limited-fair g.settings (depth_of_path path) d v.None None h)

-- nothing ignores a root
pub root-descends : (g : below.QueryScene) → HasNoLimits g.settings → (query g [] true).0.descends ≡ true
unfolding query
root-descends g h =
    let own = limited g.settings 0 true v.None in
    let Descends : Answer → Type 0 = λ a. a.0.descends ≡ true in
    let root : own.descends ≡ true = ap (λ (o : Option ℕ). not (is_deepest o 0)) h.1 in
    choose Descends (is_asked g.root []) (is_beyond g.settings 0 true) false (no_match true, None) (beyond, None) (own, None) (own, None)
    refl (λ out. absurd (let e = sym (not_beyond g.settings 0 true h) ∙ out in cc (e))) root root

pub descends_dir : (d kept : Bool) → (d && kept) ≡ true → d ≡ true
descends_dir true kept h = refl
descends_dir false kept h = absurd (cc (h))

-- what a listed thing is where links aren't followed and devices don't matter
pub child-plain : (g : Scene) (root : Path) (b : Branch) (name : Bytes) (kind : FileType) → g.settings.follow_links ≡ false
    → g.same_file_system ≡ false
    → child g root b (thing.Entry name kind) ≡ Ok (record { path = path_of root (name ∷ b); depth = length b + 1; kind = Some kind; followed = false })
unfolding child
child-plain g root b name kind follow device = rw (follow, device) refl
