-- What becomes of an entry by the place of its directory is what a query answers on the bare tree.
use Rattle.std.proofs.Common.{◌≡◌, ◌++◌, ◌∷◌, [], ◌+◌, ℕ, Bool, true, false, not, cond, List, Option, None, Some, Result, Ok, Err, length, refl, sym, ap, ◌∙◌}
use Rattle.std.proofs.lemmas.Bool.{false≢true}
use Rattle.std.proofs.lemmas.List.{length-append}
use Rattle.std.specs.List.{list_any}
use Rattle.ignore_base.specs.declared.fault.Fault.{Fault}
use Rattle.ignore_files.specs.declared.types.Metadata.{Metadata}
use Rattle.ignore_dir.specs.Limits.{beyond, is_beyond, is_larger, limited, size_limit}
use Rattle.ignore_dir.specs.Query.{ancestors, answer_of_rules, has_rules, is_asked, is_ignored, names_of, query, rules_verdict, size_of}
use Rattle.ignore_dir.specs.Scene.{QueryScene, path_verdict}
use Rattle.ignore_dir.specs.Steps.{entry, reached_in, verdict_at}
use Rattle.ignore_dir.specs.declared.incremental.IncrementalMatch.{IncrementalMatch}
use Rattle.ignore_dir.specs.declared.verdict.Verdict.{Verdict}
use Rattle.ignore_dir.specs.declared.verdict.Verdict.TheVariants as v
use Rattle.ignore_guide.specs.Guide.{decided, is_over, len_of}

over-is : (limit : Option ℕ) (found : Result Metadata Fault) → is_over limit (len_of found) ≡ is_larger limit found
over-is None found = refl
over-is (Some most) (Ok m) = refl
over-is (Some most) (Err fault) = refl

-- a case of three
pick : {A B : Type 0} (asked far has : Bool) (a b c d : A × B) → asked ≡ true → has ≡ true
    → (cond (not asked) a (cond far b (cond has c d))).0 ≡ cond far b.0 c.0
pick true true true a b c d e f = refl
pick true false true a b c d e f = refl
pick true far false a b c d e f = absurd (false≢true f)
pick false far has a b c d e f = absurd (false≢true e)

-- a path that no ignored directory is on the way to has its own verdict
own-verdict : (g : QueryScene) (names : List (List ℕ)) (is_dir : Bool) → list_any (is_ignored g) (ancestors names) ≡ false
    → rules_verdict g names is_dir ≡ path_verdict g names is_dir
unfolding rules_verdict
own-verdict g names is_dir none = ap (λ (b : Bool). cond b v.Ignore (path_verdict g names is_dir)) none

module _ (g : QueryScene) (path : List ℕ) (is_dir : Bool) where
  -- the answer where the rules decide, by what they say and by the depth
  abbrev pub answer : Verdict → ℕ → IncrementalMatch
  answer r depth =
      cond (is_beyond g.settings depth is_dir) beyond
      (limited g.settings depth is_dir (cond (is_larger (size_limit g.settings is_dir r) (size_of g path)) v.Ignore r))

  query-is : is_asked g.root path ≡ true → has_rules g.tree g.root path ≡ true
      → (query g path is_dir).0 ≡ answer (rules_verdict g (names_of path) is_dir) (length (names_of path))
  unfolding query answer_of_rules
  query-is asked rules =
      pick (is_asked g.root path) (is_beyond g.settings (length (names_of path)) is_dir) (has_rules g.tree g.root path) _ _
      (answer_of_rules g path is_dir) _ asked rules

pub decided-is : (g : QueryScene) (path : List ℕ) (front : List (List ℕ)) (n : List ℕ) (is_dir : Bool) (size : Option ℕ)
    → verdict_at g.settings g.outside (entry (reached_in g front) n) is_dir ≡ path_verdict g (front ++ n ∷ []) is_dir
    → is_asked g.root path ≡ true → has_rules g.tree g.root path ≡ true → names_of path ≡ front ++ n ∷ []
    → list_any (is_ignored g) (ancestors (names_of path)) ≡ false → size ≡ len_of (size_of g path)
    → decided g.settings g.outside (length front + 1) (reached_in g front) n is_dir size ≡ (query g path is_dir).0
decided-is g path front n is_dir size own asked rules names none is =
    let verdict = verdict_at g.settings g.outside (entry (reached_in g front) n) is_dir in
    let said : rules_verdict g (names_of path) is_dir ≡ verdict = own-verdict g (names_of path) is_dir none
    ∙ (ap (λ (l : List (List ℕ)). path_verdict g l is_dir) names ∙ sym own) in
    let deep : length (names_of path) ≡ length front + 1 = ap length names ∙ length-append front (n ∷ []) in
    let limit = size_limit g.settings is_dir verdict in
    let over : is_larger limit (size_of g path) ≡ is_over limit size = sym (ap (is_over limit) is ∙ over-is limit (size_of g path)) in
    sym (query-is g path is_dir asked rules
    ∙ (ap (λ (r : Verdict). answer g path is_dir r (length (names_of path))) said
    ∙ (ap (answer g path is_dir verdict) deep
    ∙ ap (λ (b : Bool). cond (is_beyond g.settings (length front + 1) is_dir) beyond
    (limited g.settings (length front + 1) is_dir (cond b v.Ignore verdict))) over)))
