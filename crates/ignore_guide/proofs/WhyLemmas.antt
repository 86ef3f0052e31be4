-- The reason of an entry by the place of its directory is that of a query on the bare tree, and what
-- becomes of the entry goes with it.
use Rattle.std.proofs.Common.{◌≡◌, ◌++◌, ◌∷◌, [], ◌+◌, ℕ, Bool, true, false, not, cond, nat_lt, List, Option, None, Some, Result, Ok, Err, length, append_assoc, refl, sym, ap, ◌∙◌}
use Rattle.std.proofs.lemmas.List.{length-append}
use Rattle.std.specs.List.{list_any}
use Rattle.ignore_base.specs.Match.{match_map}
use Rattle.ignore_base.specs.Paths.{join_of, joined}
use Rattle.ignore_base.specs.declared.fault.Fault.{Fault}
use Rattle.ignore_base.specs.declared.match_result.Match.{Match}
use Rattle.ignore_files.specs.declared.types.Metadata.{Metadata}
use Rattle.ignore_dir.specs.Above.{names_above, path_along}
use Rattle.ignore_dir.specs.Chains.{slashed}
use Rattle.ignore_dir.specs.Limits.{beyond, is_below, is_beyond, limited, size_limit}
use Rattle.ignore_dir.specs.Lists.{Asked}
use Rattle.ignore_dir.specs.Query.{ancestors, depth_of_path, has_rules, is_asked, is_ignored, names_of, size_of}
use Rattle.ignore_dir.specs.Scene.{QueryScene, chain}
use Rattle.ignore_dir.specs.Steps.{Reached, entry, reached_in, verdict_at}
use Rattle.ignore_dir.specs.Verdict.{verdict_of}
use Rattle.ignore_dir.specs.declared.incremental.IncrementalMatch.{IncrementalMatch}
use Rattle.ignore_dir.specs.declared.outside.Outside.{Outside}
use Rattle.ignore_dir.specs.declared.settings.Settings.{Settings}
use Rattle.ignore_dir.specs.declared.verdict.Verdict.{Verdict}
use Rattle.ignore_dir.specs.declared.verdict.Verdict.TheVariants as v
use Rattle.ignore_dir.proofs.AboveLemmas.{path_along-more}
use Rattle.ignore_dir.proofs.WholeLemmas.{chain-in}
use Rattle.ignore_levels.specs.Reasons.{placed_why, why}
use Rattle.ignore_levels.proofs.ReasonLemmas.{verdict-map, why-verdict}
use Rattle.ignore_why.specs.Cited.{Cited, cited}
use Rattle.ignore_why.specs.QueryWhy.{QueryWhy, answer_of, path_cited, path_why, query_why, text_to, why_beyond, why_by_rules, why_by_size, why_on_way}
use Rattle.ignore_why.specs.QueryWhy.QueryWhy.{unasked, unruled, too_shallow, too_deep, larger}
use Rattle.ignore_why.specs.QueryWhy.QueryWhy.{decided as by_rules}
use Rattle.ignore_why.proofs.QueryWhyLemmas.{none_first, rules_said}
use Rattle.ignore_guide.specs.Guide.{cause_at, decided, is_over, len_of, why_at}
use Rattle.ignore_guide.specs.Reasons.{decided_why, why_within}

-- What goes with a reason.

over-step : (s : Settings) (depth : ℕ) (is_dir : Bool) (size most : ℕ) (said : Match Cited) (b : Bool)
    → limited s depth is_dir (cond b v.Ignore (verdict_of said)) ≡ answer_of s depth is_dir (cond b (larger size most) (by_rules said))
over-step s depth is_dir size most said true = refl
over-step s depth is_dir size most said false = refl

over-answer : (s : Settings) (depth : ℕ) (is_dir : Bool) (limit size : Option ℕ) (said : Match Cited)
    → limited s depth is_dir (cond (is_over limit size) v.Ignore (verdict_of said)) ≡ answer_of s depth is_dir (why_within limit size said)
over-answer s depth is_dir None size said = refl
over-answer s depth is_dir (Some most) None said = refl
over-answer s depth is_dir (Some most) (Some size) said = over-step s depth is_dir size most said (nat_lt most size)

far-step : (s : Settings) (depth : ℕ) (is_dir b : Bool) → beyond ≡ answer_of s depth is_dir (cond b too_deep too_shallow)
far-step s depth is_dir true = refl
far-step s depth is_dir false = refl

pick : (s : Settings) (depth : ℕ) (is_dir b : Bool) (near : IncrementalMatch) (far own : QueryWhy)
    → beyond ≡ answer_of s depth is_dir far → near ≡ answer_of s depth is_dir own
    → cond b beyond near ≡ answer_of s depth is_dir (cond b far own)
pick s depth is_dir true near far own e h = e
pick s depth is_dir false near far own e h = h

-- the verdict is that of what decides
said-verdict : (s : Settings) (o : Outside) (at : Reached) (is_dir : Bool) → verdict_at s o at is_dir ≡ verdict_of (cause_at s o at is_dir)
said-verdict s o at is_dir =
    sym (verdict-map (cited at.text) (why_at s o at is_dir) ∙ why-verdict s o at.chain at.text at.path is_dir)

pub answers : (s : Settings) (o : Outside) (depth : ℕ) (at : Reached) (name : List ℕ) (is_dir : Bool) (size : Option ℕ)
    → decided s o depth at name is_dir size ≡ answer_of s depth is_dir (decided_why s o depth at name is_dir size)
answers s o depth at name is_dir size =
    let said = cause_at s o (entry at name) is_dir in
    let by : Verdict → IncrementalMatch = λ w. limited s depth is_dir (cond (is_over (size_limit s is_dir w) size) v.Ignore w) in
    pick s depth is_dir (is_beyond s depth is_dir) (by (verdict_at s o (entry at name) is_dir)) (why_beyond s depth)
    (why_within (size_limit s is_dir (verdict_of said)) size said) (far-step s depth is_dir (is_below s.max_depth depth))
    (ap by (said-verdict s o (entry at name) is_dir)
    ∙ over-answer s depth is_dir (size_limit s is_dir (verdict_of said)) size said)

-- The reason of an entry on its way.

joined-slashed : (names : List (List ℕ)) (name : List ℕ) → joined (names ++ name ∷ []) ≡ slashed names ++ name
joined-slashed [] name = refl
joined-slashed (a ∷ []) name = sym (append_assoc a (47 ∷ []) name)
joined-slashed (a ∷ (b ∷ names)) name =
    ap (λ t. a ++ 47 ∷ t) (joined-slashed (b ∷ names) name) ∙ sym (append_assoc a (47 ∷ slashed (b ∷ names)) name)

text-in : (g : QueryScene) (front : List (List ℕ)) (n : List ℕ) → (reached_in g front).text ++ n ≡ text_to g (front ++ n ∷ [])
text-in g front n =
    let base = names_above g.tree g.settings g.root in
    ap (λ (t : List ℕ). 47 ∷ t) (sym (joined-slashed (base ++ front) n) ∙ ap joined (append_assoc base front (n ∷ [])))

why-in : (g : QueryScene) (front : List (List ℕ)) (n : List ℕ) (is_dir : Bool)
    → why_at g.settings g.outside (entry (reached_in g front) n) is_dir ≡ path_why g (front ++ n ∷ []) is_dir
unfolding placed_why path_why
why-in g front n is_dir =
    ap (λ (l : List Asked). why g.settings g.outside l (join_of (path_along g.root front) n) is_dir) (chain-in g front n)
    ∙ ap (λ (p : List ℕ). why g.settings g.outside (chain g (front ++ n ∷ [])) p is_dir) (sym (path_along-more g.root front n))

cause-in : (g : QueryScene) (front : List (List ℕ)) (n : List ℕ) (is_dir : Bool)
    → cause_at g.settings g.outside (entry (reached_in g front) n) is_dir ≡ path_cited g (front ++ n ∷ []) is_dir
cause-in g front n is_dir =
    ap (match_map (cited ((reached_in g front).text ++ n))) (why-in g front n is_dir)
    ∙ ap (λ (t : List ℕ). match_map (cited t) (path_why g (front ++ n ∷ []) is_dir)) (text-in g front n)

size-is : (limit : Option ℕ) (found : Result Metadata Fault) (said : Match Cited) → why_within limit (len_of found) said ≡ why_by_size limit found said
size-is None found said = refl
size-is (Some most) (Ok m) said = refl
size-is (Some most) (Err fault) said = refl

-- a reason of three
chosen : (asked far ruled : Bool) (a b c d : QueryWhy) → asked ≡ true → ruled ≡ true
    → cond (not asked) a (cond far b (cond ruled c d)) ≡ cond far b c
chosen true true true a b c d e f = refl
chosen true false true a b c d e f = refl
chosen true far false a b c d e f = absurd (cc (f))
chosen false far ruled a b c d e f = absurd (cc (e))

module _ (g : QueryScene) (path : List ℕ) (is_dir : Bool) where
  -- the reason where the rules decide, by what they say and by the depth
  abbrev pub reason : Match Cited → ℕ → QueryWhy
  reason said depth =
      cond (is_beyond g.settings depth is_dir) (why_beyond g.settings depth)
      (why_by_size (size_limit g.settings is_dir (verdict_of said)) (size_of g path) said)

  rules-why : list_any (is_ignored g) (ancestors (names_of path)) ≡ false
      → why_by_rules g path is_dir
      ≡ why_by_size (size_limit g.settings is_dir (verdict_of (path_cited g (names_of path) is_dir))) (size_of g path) (path_cited g (names_of path) is_dir)
  unfolding why_by_rules
  rules-why none =
      ap (why_on_way g path is_dir) (none_first g (ancestors (names_of path)) none)
      ∙ ap (λ (w : Verdict). why_by_size (size_limit g.settings is_dir w) (size_of g path) (path_cited g (names_of path) is_dir))
      (sym (rules_said g (names_of path) is_dir none))

  why-is : is_asked g.root path ≡ true → has_rules g.tree g.root path ≡ true
      → query_why g path is_dir
      ≡ cond (is_beyond g.settings (depth_of_path path) is_dir) (why_beyond g.settings (depth_of_path path)) (why_by_rules g path is_dir)
  unfolding query_why
  why-is asked rules =
      chosen (is_asked g.root path) (is_beyond g.settings (depth_of_path path) is_dir) (has_rules g.tree g.root path) unasked
      (why_beyond g.settings (depth_of_path path)) (why_by_rules g path is_dir) unruled asked rules

pub explains : (g : QueryScene) (path : List ℕ) (front : List (List ℕ)) (n : List ℕ) (is_dir : Bool) (size : Option ℕ)
    → is_asked g.root path ≡ true → has_rules g.tree g.root path ≡ true → names_of path ≡ front ++ n ∷ []
    → list_any (is_ignored g) (ancestors (names_of path)) ≡ false → size ≡ len_of (size_of g path)
    → decided_why g.settings g.outside (length front + 1) (reached_in g front) n is_dir size ≡ query_why g path is_dir
explains g path front n is_dir size asked rules names none is =
    let said = cause_at g.settings g.outside (entry (reached_in g front) n) is_dir in
    let same : path_cited g (names_of path) is_dir ≡ said =
    ap (λ (l : List (List ℕ)). path_cited g l is_dir) names ∙ sym (cause-in g front n is_dir) in
    let deep : depth_of_path path ≡ length front + 1 = ap length names ∙ length-append front (n ∷ []) in
    let limit = size_limit g.settings is_dir (verdict_of said) in
    sym (why-is g path is_dir asked rules
    ∙ (ap (cond (is_beyond g.settings (depth_of_path path) is_dir) (why_beyond g.settings (depth_of_path path))) (rules-why g path is_dir none)
    ∙ (ap (λ (m : Match Cited). reason g path is_dir m (depth_of_path path)) same
    ∙ (ap (reason g path is_dir said) deep
    ∙ ap (cond (is_beyond g.settings (length front + 1) is_dir) (why_beyond g.settings (length front + 1)))
    (sym (ap (λ (z : Option ℕ). why_within limit z said) is ∙ size-is limit (size_of g path) said))))))
