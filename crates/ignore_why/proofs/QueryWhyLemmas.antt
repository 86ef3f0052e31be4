-- The answer that goes with a reason.
use Rattle.std.proofs.Common.{◌≡◌, ℕ, Bool, true, false, not, ◌||◌, nat_lt, cond, List, [], ◌∷◌, Option, Some, None, Result, Ok, Err, refl, sym, ◌∙◌, ap}
use Rattle.std.specs.List.{list_any}
use Rattle.ignore_base.specs.Problem.{Problem}
use Rattle.ignore_base.specs.declared.fault.Fault.{Fault}
use Rattle.ignore_base.specs.declared.match_result.Match.{Match}
use Rattle.ignore_files.specs.declared.types.Metadata.{Metadata}
use Rattle.ignore_dir.specs.declared.incremental.IncrementalMatch.{IncrementalMatch}
use Rattle.ignore_dir.specs.declared.settings.Settings.{Settings}
use Rattle.ignore_dir.specs.declared.verdict.Verdict.TheVariants as v
use Rattle.ignore_dir.specs.Above.{path_along}
use Rattle.ignore_dir.specs.Limits.{beyond, is_below, is_beyond, is_larger, limited, no_match, sized}
use Rattle.ignore_dir.specs.Query.{ancestors, answer_of_rules, depth_of_path, has_rules, is_asked, is_ignored, limit_of, names_of, query}
use Rattle.ignore_dir.specs.Query.{rules_verdict, size_of}
use Rattle.ignore_dir.specs.Scene.{QueryScene, chain, path_verdict}
use Rattle.ignore_dir.specs.Verdict.{verdict_of}
use Rattle.ignore_levels.proofs.ReasonLemmas.{verdict-map, whole-verdict}
use Rattle.ignore_why.specs.Cited.{Cited, cited}
use Rattle.ignore_why.specs.QueryWhy.{AnswersByReason, QueryWhy, answer_of, first_ignored, path_cited, path_why, text_to, query_why, why_beyond}
use Rattle.ignore_why.specs.QueryWhy.{why_by_rules, why_by_size, why_on_way}
use Rattle.ignore_why.specs.QueryWhy.QueryWhy.{unasked, unruled, too_shallow, too_deep, decided, larger}

or_left : (a b : Bool) → (a || b) ≡ false → a ≡ false
or_left true b h = h
or_left false b h = refl

or_right : (a b : Bool) → (a || b) ≡ false → b ≡ false
or_right true b h = absurd (cc (h))
or_right false b h = h

-- no directory on the way is ignored, and so none is the first
pub none_first : (g : QueryScene) (fronts : List (List (List ℕ))) → list_any (is_ignored g) fronts ≡ false → first_ignored g fronts ≡ None
none_first g [] h = refl
none_first g (front ∷ fronts) h =
    ap (λ b. cond b (Some front) (first_ignored g fronts)) (or_left (is_ignored g front) (list_any (is_ignored g) fronts) h)
    ∙ none_first g fronts (or_right (is_ignored g front) (list_any (is_ignored g) fronts) h)

first-step : (front : List (List ℕ)) (b c : Bool) (rest : Option (List (List ℕ))) → cond b (Some front) rest ≡ None → (rest ≡ None → c ≡ false)
    → (b || c) ≡ false
first-step front true c rest h f = absurd (cc (h))
first-step front false c rest h f = f h

pub first_none : (g : QueryScene) (fronts : List (List (List ℕ))) → first_ignored g fronts ≡ None → list_any (is_ignored g) fronts ≡ false
first_none g [] h = refl
first_none g (front ∷ fronts) h =
    first-step front (is_ignored g front) (list_any (is_ignored g) fronts) (first_ignored g fronts) h (first_none g fronts)

or_now : (a b : Bool) → b ≡ true → (a || b) ≡ true
or_now true b h = refl
or_now false b h = h

some-step : (front found : List (List ℕ)) (b c : Bool) (rest : Option (List (List ℕ))) → cond b (Some front) rest ≡ Some found
    → (rest ≡ Some found → c ≡ true) → (b || c) ≡ true
some-step front found true c rest h f = refl
some-step front found false c rest h f = f h

pub first_some : (g : QueryScene) (fronts : List (List (List ℕ))) (found : List (List ℕ)) → first_ignored g fronts ≡ Some found
    → list_any (is_ignored g) fronts ≡ true
first_some g [] found h = absurd (cc (h))
first_some g (front ∷ fronts) found h =
    some-step front found (is_ignored g front) (list_any (is_ignored g) fronts) (first_ignored g fronts) h (first_some g fronts found)

why-path : (g : QueryScene) (names : List (List ℕ)) (is_dir : Bool) → verdict_of (path_why g names is_dir) ≡ path_verdict g names is_dir
unfolding path_why path_verdict
why-path g names is_dir = whole-verdict g.settings g.outside (chain g names) (path_along g.root names) is_dir

open_rules : (g : QueryScene) (names : List (List ℕ)) (is_dir : Bool) → list_any (is_ignored g) (ancestors names) ≡ false
    → path_verdict g names is_dir ≡ rules_verdict g names is_dir
unfolding rules_verdict
open_rules g names is_dir h = sym (ap (λ b. cond b v.Ignore (path_verdict g names is_dir)) h)

shut_rules : (g : QueryScene) (names : List (List ℕ)) (is_dir : Bool) → list_any (is_ignored g) (ancestors names) ≡ true
    → rules_verdict g names is_dir ≡ v.Ignore
unfolding rules_verdict
shut_rules g names is_dir h = ap (λ b. cond b v.Ignore (path_verdict g names is_dir)) h

-- what decides on a path below no ignored directory has the verdict of the rules
pub rules_said : (g : QueryScene) (names : List (List ℕ)) (is_dir : Bool) → list_any (is_ignored g) (ancestors names) ≡ false
    → verdict_of (path_cited g names is_dir) ≡ rules_verdict g names is_dir
rules_said g names is_dir none =
    verdict-map (cited (text_to g names)) (path_why g names is_dir) ∙ (why-path g names is_dir ∙ open_rules g names is_dir none)

-- The answer of a query is that of its reason.

larger-step : (s : Settings) (depth : ℕ) (is_dir : Bool) (size most : ℕ) (said : Match Cited) (b : Bool)
    → limited s depth is_dir (cond b v.Ignore (verdict_of said))
    ≡ answer_of s depth is_dir (cond b (larger size most) (decided said))
larger-step s depth is_dir size most said true = refl
larger-step s depth is_dir size most said false = refl

sized-answer : (s : Settings) (depth : ℕ) (is_dir : Bool) (limit : Option ℕ) (size : Result Metadata Fault) (said : Match Cited)
    → limited s depth is_dir (sized limit size (verdict_of said)) ≡ answer_of s depth is_dir (why_by_size limit size said)
sized-answer s depth is_dir None size said = refl
sized-answer s depth is_dir (Some most) (Ok m) said = larger-step s depth is_dir m.len most said (nat_lt most m.len)
sized-answer s depth is_dir (Some most) (Err fault) said = refl

ignored-sized : (limit : Option ℕ) (size : Result Metadata Fault) (b : Bool) → is_larger limit size ≡ b → sized limit size v.Ignore ≡ v.Ignore
ignored-sized limit size true h = ap (λ x. cond x v.Ignore v.Ignore) h
ignored-sized limit size false h = ap (λ x. cond x v.Ignore v.Ignore) h

way-answer : (g : QueryScene) (path : List ℕ) (is_dir : Bool) (found : Option (List (List ℕ)))
    → first_ignored g (ancestors (names_of path)) ≡ found
    → limited g.settings (depth_of_path path) is_dir (sized (limit_of g path is_dir) (size_of g path) (rules_verdict g (names_of path) is_dir))
    ≡ answer_of g.settings (depth_of_path path) is_dir (why_on_way g path is_dir found)
way-answer g path is_dir None h =
    let none = first_none g (ancestors (names_of path)) h in
    ap (λ w. limited g.settings (depth_of_path path) is_dir (sized (limit_of g path is_dir) (size_of g path) w))
    (sym (rules_said g (names_of path) is_dir none))
    ∙ sized-answer g.settings (depth_of_path path) is_dir (limit_of g path is_dir) (size_of g path) (path_cited g (names_of path) is_dir)
way-answer g path is_dir (Some front) h =
    let shut = shut_rules g (names_of path) is_dir (first_some g (ancestors (names_of path)) front h) in
    ap (λ w. limited g.settings (depth_of_path path) is_dir (sized (limit_of g path is_dir) (size_of g path) w)) shut
    ∙ ap (limited g.settings (depth_of_path path) is_dir)
    (ignored-sized (limit_of g path is_dir) (size_of g path) (is_larger (limit_of g path is_dir) (size_of g path)) refl)

rules-answer : (g : QueryScene) (path : List ℕ) (is_dir : Bool)
    → (answer_of_rules g path is_dir).0 ≡ answer_of g.settings (depth_of_path path) is_dir (why_by_rules g path is_dir)
unfolding answer_of_rules why_by_rules
rules-answer g path is_dir = way-answer g path is_dir (first_ignored g (ancestors (names_of path))) refl

beyond-answer : (s : Settings) (depth : ℕ) (is_dir : Bool) (b : Bool) → is_below s.max_depth depth ≡ b
    → beyond ≡ answer_of s depth is_dir (why_beyond s depth)
beyond-answer s depth is_dir true h =
    sym (ap (λ x. answer_of s depth is_dir (cond x too_deep too_shallow)) h)
beyond-answer s depth is_dir false h =
    sym (ap (λ x. answer_of s depth is_dir (cond x too_deep too_shallow)) h)

pick : (s : Settings) (depth : ℕ) (is_dir : Bool) (by : IncrementalMatch × Option Problem) (far rules : QueryWhy)
    → beyond ≡ answer_of s depth is_dir far → by.0 ≡ answer_of s depth is_dir rules → (asked is_far ruled : Bool)
    → (cond (not asked) (no_match is_dir, None) (cond is_far (beyond, None) (cond ruled by (limited s depth is_dir v.None, None)))).0
    ≡ answer_of s depth is_dir (cond (not asked) unasked (cond is_far far (cond ruled rules unruled)))
pick s depth is_dir by far rules e h false is_far ruled = refl
pick s depth is_dir by far rules e h true true ruled = e
pick s depth is_dir by far rules e h true false true = h
pick s depth is_dir by far rules e h true false false = refl

pub answers-by_reason : AnswersByReason
unfolding query query_why
answers-by_reason g path is_dir =
    pick g.settings (depth_of_path path) is_dir (answer_of_rules g path is_dir) (why_beyond g.settings (depth_of_path path))
    (why_by_rules g path is_dir)
    (beyond-answer g.settings (depth_of_path path) is_dir (is_below g.settings.max_depth (depth_of_path path)) refl)
    (rules-answer g path is_dir) (is_asked g.root path) (is_beyond g.settings (depth_of_path path) is_dir)
    (has_rules g.tree g.root path)
