-- Paths on which the rules decide, and what is kept with what is above the root.
use Rattle.std.proofs.lemmas.Bool.{and_parts}
use Rattle.std.proofs.lemmas.Result.{err_from_is_err_and}
use Rattle.std.proofs.Common.{◌≡◌, ◌==◌, ◌&&◌, ◌||◌, ℕ, Bool, true, false, not, cond, List, [], ◌∷◌, ◌++◌, length}
use Rattle.std.proofs.Common.{◌≢◌, Option, None, Some, Result, Ok, Err, OnOk, IfOk, IsErrAnd, refl, sym, ap, ◌∙◌, subst}
use Rattle.std.proofs.Math.Dec.{eqb-suc-zero}
use Rattle.std.specs.List.{filter_map, list_all}
use Rattle.std.specs.Option.{option_map, option_to_list}
use Rattle.std.specs.Str.{bytes_eq}
use Rattle.ignore_base.specs.Paths.{components, is_proper}
use Rattle.ignore_base.specs.declared.error.Error.{Error}
use Rattle.ignore_base.specs.Problem.{Problem, problem_of}
use Rattle.ignore_dir.specs.declared.incremental.IncrementalMatch.{IncrementalMatch}
use Rattle.ignore_dir.specs.declared.verdict.Verdict.TheVariants as v
use Rattle.ignore_dir.specs.Limits.{beyond, is_beyond, limited, no_match}
use Rattle.ignore_dir.specs.Query.{answer_of_rules, depth_of_path, has_rules, is_asked, is_clean, is_dir_there, names_of, query}
use Rattle.ignore_dir.specs.Scene.{QueryScene}
use Rattle.ignore_files.specs.Tree.{Tree}
use Rattle.ignore_query.specs.declared.kept.Cache.{Cache}
use Rattle.ignore_query.specs.Agrees.{Agrees}
use Rattle.ignore_query.specs.Needs.{is_known}
use Rattle.ignore_query.proofs.KnownLemmas.{known_above}

pub root_dir : (tree : Tree) (root path : List ℕ) → has_rules tree root path ≡ true → is_dir_there (tree.stat root true) ≡ true
root_dir tree root path h = (and_parts (not (length path == 0)) (is_dir_there (tree.stat root true)) h).1

clean_names : (tree : Tree) (root path : List ℕ) → is_clean path ≡ true → has_rules tree root path ≡ true
    → list_all is_proper (components path) ≡ true
clean_names tree root [] c h = cc
clean_names tree root (b ∷ bs) c h = sym (ap (λ t. t || list_all is_proper (components (b ∷ bs))) (eqb-suc-zero (length bs))) ∙ c

pub asked_names : (tree : Tree) (root path : List ℕ) → is_asked root path ≡ true → has_rules tree root path ≡ true
    → list_all is_proper (components path) ≡ true
asked_names tree root path a h = clean_names tree root path (and_parts (not (bytes_eq root (45 ∷ []))) (is_clean path) a).1 h

-- the same of a path that isn't empty
pub named_names : (root path : List ℕ) → is_asked root path ≡ true → length path ≢ 0 → list_all is_proper (components path) ≡ true
named_names root [] a filled = absurd (filled refl)
named_names root (b ∷ bs) a filled =
    sym (ap (λ t. t || list_all is_proper (components (b ∷ bs))) (eqb-suc-zero (length bs)))
    ∙ (and_parts (not (bytes_eq root (45 ∷ []))) (is_clean (b ∷ bs)) a).1

pub names_are : (tree : Tree) (root path : List ℕ) → has_rules tree root path ≡ true → components path ≡ names_of path
names_are tree root [] h = cc
names_are tree root (b ∷ bs) h = refl

collected_more : (ts : List (Option Problem)) (t : Option Problem)
    → filter_map (λ q. q) ts ++ option_to_list t ≡ filter_map (λ q. q) (ts ++ t ∷ [])
collected_more [] None = refl
collected_more [] (Some p) = refl
collected_more (None ∷ ts) t = collected_more ts t
collected_more (Some p ∷ ts) t = ap (λ (l : List Problem). p ∷ l) (collected_more ts t)

-- three lists of problems, collected
pub collected_three : (a : Option Problem) (b : List (Option Problem)) (d : Option Problem)
    → (option_to_list a ++ filter_map (λ p. p) b) ++ option_to_list d ≡ filter_map (λ p. p) (a ∷ (b ++ d ∷ []))
collected_three None b d = collected_more b d
collected_three (Some q) b d = ap (λ (l : List Problem). q ∷ l) (collected_more b d)

-- Results.

pub no_error : (e : Option Error) → option_map problem_of e ≡ None → e ≡ None
no_error None h = refl
no_error (Some e) h = cc

-- what is to hold on `Ok` holds where the error of a call is passed on
pub passed_on : {T E : Type 0} (P : T → Type 0) (Q : E → Type 0) (r : Result T E) → IsErrAnd r Q → IfOk r P
passed_on P Q r h = let p = err_from_is_err_and r h in subst (λ x. IfOk x P) (sym p.1) tt

pub ok_then : {A E P Q : Type 0} (r : Result A E) → (P → Q) → OnOk r P → OnOk r Q
ok_then (Ok a) f h = f h
ok_then (Err e) f h = tt

-- The answer where all that it needs is kept.

pub query_rules : (g : QueryScene) (path : List ℕ) (is_dir : Bool) → is_asked g.root path ≡ true
    → is_beyond g.settings (depth_of_path path) is_dir ≡ false → has_rules g.tree g.root path ≡ true
    → query g path is_dir ≡ answer_of_rules g path is_dir
unfolding query
query_rules g path is_dir asked within ruled =
    let none : IncrementalMatch × Option Problem = (limited g.settings (depth_of_path path) is_dir v.None, None) in
    let far : IncrementalMatch × Option Problem = (beyond, None) in
    let by : IncrementalMatch × Option Problem = answer_of_rules g path is_dir in
    ap (λ b. cond (not b) (no_match is_dir, None) (cond (is_beyond g.settings (depth_of_path path) is_dir) far
    (cond (has_rules g.tree g.root path) by none))) asked
    ∙ (ap (λ b. cond b far (cond (has_rules g.tree g.root path) by none)) within ∙ ap (λ b. cond b by none) ruled)

pub kept_rules : (g : QueryScene) (c : Cache) (path : List ℕ) → Agrees g c → length path ≢ 0 → is_known g c (names_of path) ≡ true
    → (c.has_above ≡ true) × (has_rules g.tree g.root path ≡ true)
kept_rules g c [] a some all = absurd (some refl)
kept_rules g c (b ∷ bs) a some all =
    let above = known_above g c (b ∷ bs) a all in
    (above, ap (λ t. not t && is_dir_there (g.tree.stat g.root true)) (eqb-suc-zero (length bs)) ∙ (a.above above).root)

-- where the rules don't decide by what is kept, the path has no name
pub kept_none : (g : QueryScene) (c : Cache) (path : List ℕ) (found : Bool) → Agrees g c → is_known g c (names_of path) ≡ true → found ≡ false
    → (c.has_above ≡ true → found ≡ not (length path == 0)) → has_rules g.tree g.root path ≡ false
kept_none g c [] found a all off h = refl
kept_none g c (b ∷ bs) found a all off h =
    let some : length (b ∷ bs) ≢ 0 = λ e. cc in
    let k = kept_rules g c (b ∷ bs) a some all in
    let on : found ≡ true = h k.0 ∙ ap not (eqb-suc-zero (length bs)) in
    absurd (cc)
