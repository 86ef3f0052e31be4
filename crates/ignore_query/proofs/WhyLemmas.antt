-- The reason of an answer, by what is kept.
use Rattle.std.proofs.Common.{◌≡◌, ℕ, Bool, true, false, cond, All, List, [], ◌∷◌, ◌++◌}
use Rattle.std.proofs.Common.{Option, Some, None, refl, sym, ◌∙◌, ap, append_assoc, arith}
use Rattle.std.specs.List.{list_any}
use Rattle.std.specs.Option.{option_to_list}
use Rattle.ignore_base.specs.Match.{match_map}
use Rattle.ignore_base.specs.Paths.{IsName, components, joined}
use Rattle.ignore_base.proofs.CleanLemmas.{components-joined}
use Rattle.ignore_base.specs.declared.match_result.Match.{Match}
use Rattle.ignore_dir.specs.Above.{names_above, path_along}
use Rattle.ignore_dir.specs.Lists.{Asked, asked_in}
use Rattle.ignore_dir.specs.declared.settings.Settings.{Settings}
use Rattle.ignore_dir.specs.declared.verdict.Verdict.{Verdict}
use Rattle.ignore_dir.specs.declared.verdict.Verdict.TheVariants as v
use Rattle.ignore_dir.specs.Limits.{beyond, is_beyond, limited, size_limit, size_problem}
use Rattle.ignore_dir.specs.Query.{ancestors, depth_of_path, has_rules, is_asked, is_ignored, limit_of, names_of, rules_verdict}
use Rattle.ignore_dir.specs.Query.{size_of}
use Rattle.ignore_dir.specs.Scene.{QueryScene, chain}
use Rattle.ignore_dir.specs.Steps.{reached_in}
use Rattle.ignore_dir.specs.Verdict.{verdict_of}
use Rattle.ignore_dir.proofs.WholeLemmas.{chain-in}
use Rattle.ignore_levels.specs.Reasons.{placed_why, why}
use Rattle.ignore_levels.specs.declared.list.Place.{Place}
use Rattle.ignore_levels.proofs.ReasonLemmas.{verdict-map}
use Rattle.ignore_query.specs.declared.kept.Cache.{Cache}
use Rattle.ignore_query.specs.declared.kept.Kept.{Kept}
use Rattle.ignore_query.specs.declared.kept.Kept.TheVariants.{Ignored, Loaded}
use Rattle.ignore_query.specs.Agrees.{Agrees, IsNext}
use Rattle.ignore_query.specs.Listed.{kept_at}
use Rattle.ignore_query.specs.Stands.{open_in}
use Rattle.ignore_why.specs.Cited.{Cited, cited}
use Rattle.ignore_why.specs.QueryWhy.{QueryWhy, answer_of, first_ignored, path_cited, path_why, text_to, query_why, why_beyond, why_by_rules, why_by_size}
use Rattle.ignore_why.specs.QueryWhy.{why_on_way}
use Rattle.ignore_why.specs.QueryWhy.QueryWhy.{unasked, unruled, too_shallow, too_deep, decided, larger, inside}
use Rattle.ignore_why.proofs.QueryWhyLemmas.{none_first, rules_said}
use Rattle.ignore_query.proofs.ChainLemmas.{joined-slashed}
use Rattle.ignore_query.proofs.KnownLemmas.{next_inside, next_top, shut_verdict}
use Rattle.ignore_query.proofs.WayLemmas.{or_true}

-- Over the chain of a path.

-- the text of an entry of a directory
pub text_to-in : (g : QueryScene) (front : List (List ℕ)) (n : List ℕ) → (reached_in g front).text ++ n ≡ text_to g (front ++ n ∷ [])
text_to-in g front n =
    let base = names_above g.tree g.settings g.root in
    ap (λ (t : List ℕ). 47 ∷ t) (sym (joined-slashed (base ++ front) n) ∙ ap joined (append_assoc base front (n ∷ [])))

-- what decides on an entry of a directory, by its text and path
pub why_in : (g : QueryScene) (front : List (List ℕ)) (n text path : List ℕ) (is_dir : Bool) → text ≡ (reached_in g front).text ++ n
    → path ≡ path_along g.root (front ++ n ∷ [])
    → placed_why g.settings g.outside (reached_in g front).chain text path is_dir ≡ path_why g (front ++ n ∷ []) is_dir
unfolding placed_why path_why
why_in g front n text path is_dir t p =
    let links = (reached_in g front).chain in
    ap (λ (x : List ℕ). why g.settings g.outside (asked_in x links) path is_dir) t
    ∙ (ap (λ (l : List Asked). why g.settings g.outside l path is_dir) (chain-in g front n)
    ∙ ap (λ (x : List ℕ). why g.settings g.outside (chain g (front ++ n ∷ [])) x is_dir) p)

-- the same by name
pub cited_in : (g : QueryScene) (front : List (List ℕ)) (n text path : List ℕ) (is_dir : Bool) → text ≡ (reached_in g front).text ++ n
    → path ≡ path_along g.root (front ++ n ∷ [])
    → match_map (cited text) (placed_why g.settings g.outside (reached_in g front).chain text path is_dir)
    ≡ path_cited g (front ++ n ∷ []) is_dir
cited_in g front n text path is_dir t p =
    ap (match_map (cited text)) (why_in g front n text path is_dir t p)
    ∙ ap (λ (x : List ℕ). match_map (cited x) (path_why g (front ++ n ∷ []) is_dir)) (t ∙ text_to-in g front n)

-- what decides on a path below no ignored directory has the verdict of the rules
pub said_rules : {T : Type 0} (g : QueryScene) (names : List (List ℕ)) (is_dir : Bool) (f : T → Cited) (said : Match T)
    → match_map f said ≡ path_cited g names is_dir → list_any (is_ignored g) (ancestors names) ≡ false
    → verdict_of said ≡ rules_verdict g names is_dir
said_rules g names is_dir f said is off = sym (verdict-map f said) ∙ (ap verdict_of is ∙ rules_said g names is_dir off)

-- Places and keys.

pub opened_is : (o : Option Kept) (place : Option Place) → open_in o ≡ Some place → o ≡ Some (Loaded place)
opened_is None place h = absurd (cc (h))
opened_is (Some Ignored) place h = absurd (cc (h))
opened_is (Some (Loaded at)) place h = let same : at ≡ place = cc (h) in ap (λ (x : Option Place). Some (Loaded x)) same

pub not_open : (o : Option Kept) (place : Option Place) → o ≡ Some (Loaded place) → open_in o ≡ None → ⊥
not_open o place e h = let some : open_in o ≡ Some place = ap open_in e in cc (some, h)

pub components-of : (front : List (List ℕ)) (name path : List ℕ) → All IsName (front ++ name ∷ []) → path ≡ joined (front ++ name ∷ [])
    → components path ≡ front ++ name ∷ []
components-of [] name path clean e = ap components e ∙ components-joined name [] clean
components-of (x ∷ xs) name path clean e = ap components e ∙ components-joined x (xs ++ name ∷ []) clean

pub root_shut : (g : QueryScene) (c : Cache) (front : List (List ℕ)) → Agrees g c → kept_at c front ≡ Some Ignored → front ≡ [] → ⊥
unfolding is_ignored
root_shut g c [] a h e = let on : is_ignored g [] ≡ true = a.right [] Ignored (λ k d lt. absurd (omega (arith, lt))) h in cc (on)
root_shut g c (x ∷ xs) a h e = absurd (cc (e))

-- The reason that the rules give.

-- below no ignored directory
pub why_open : {T : Type 0} (g : QueryScene) (path : List ℕ) (names : List (List ℕ)) (is_dir : Bool) (f : T → Cited) (said : Match T)
    → match_map f said ≡ path_cited g names is_dir → names ≡ names_of path → list_any (is_ignored g) (ancestors names) ≡ false
    → why_by_size (size_limit g.settings is_dir (verdict_of said)) (size_of g path) (match_map f said) ≡ why_by_rules g path is_dir
unfolding why_by_rules
why_open g path names is_dir f said is same off =
    ap (λ w. why_by_size (size_limit g.settings is_dir w) (size_of g path) (match_map f said)) (said_rules g names is_dir f said is off)
    ∙ (ap (why_by_size (size_limit g.settings is_dir (rules_verdict g names is_dir)) (size_of g path)) is
    ∙ (ap (λ (l : List (List ℕ)). why_by_size (size_limit g.settings is_dir (rules_verdict g l is_dir)) (size_of g path) (path_cited g l is_dir))
    same
    ∙ sym (ap (why_on_way g path is_dir) (ap (λ (l : List (List ℕ)). first_ignored g (ancestors l)) (sym same) ∙ none_first g (ancestors names) off))))

-- below an ignored one
pub why_shut : (g : QueryScene) (path : List ℕ) (front : List (List ℕ)) (is_dir : Bool)
    → first_ignored g (ancestors (names_of path)) ≡ Some front
    → inside (joined front) (path_cited g front true) ≡ why_by_rules g path is_dir
unfolding why_by_rules
why_shut g path front is_dir h = sym (ap (why_on_way g path is_dir) h)

-- The reason by the cases of an answer.

pub why_unasked : (g : QueryScene) (path : List ℕ) (is_dir : Bool) → is_asked g.root path ≡ false → unasked ≡ query_why g path is_dir
unfolding query_why
why_unasked g path is_dir h = rw h

pub why_far : (g : QueryScene) (path : List ℕ) (is_dir : Bool) → is_asked g.root path ≡ true
    → is_beyond g.settings (depth_of_path path) is_dir ≡ true → why_beyond g.settings (depth_of_path path) ≡ query_why g path is_dir
unfolding query_why
why_far g path is_dir a b = rw (a, b)

pub why_unruled : (g : QueryScene) (path : List ℕ) (is_dir : Bool) → is_asked g.root path ≡ true
    → is_beyond g.settings (depth_of_path path) is_dir ≡ false → has_rules g.tree g.root path ≡ false → unruled ≡ query_why g path is_dir
unfolding query_why
why_unruled g path is_dir a b r = rw (a, b, r)

pub why_ruled : (g : QueryScene) (path : List ℕ) (is_dir : Bool) → is_asked g.root path ≡ true
    → is_beyond g.settings (depth_of_path path) is_dir ≡ false → has_rules g.tree g.root path ≡ true
    → why_by_rules g path is_dir ≡ query_why g path is_dir
unfolding query_why
why_ruled g path is_dir a b r = rw (a, b, r)

-- What is kept of the directory in which a path is.

pub parent_next : (g : QueryScene) (c : Cache) (names front : List (List ℕ)) (n : List ℕ) (k : Kept) (place : Option Place) → Agrees g c
    → names ≡ front ++ n ∷ [] → kept_at c front ≡ Some k → k ≡ Loaded place → IsNext c names place
parent_next g c names front n k place a split h e = record {
  rooted = a.first front k h;
  top = λ t. absurd (next_top front n (sym split ∙ t));
  inside = λ f m s. next_inside c front f n m place (sym split ∙ s) (h ∙ ap Some e);
}

-- a path below an ignored directory has no limit on size
pub shut_size : (g : QueryScene) (path file : List ℕ) (is_dir : Bool) → list_any (is_ignored g) (ancestors (names_of path)) ≡ true
    → option_to_list (size_problem file (limit_of g path is_dir) (size_of g path)) ≡ []
shut_size g path file is_dir h =
    let off : size_limit g.settings is_dir v.Ignore ≡ None = ap (λ b. cond b None g.settings.max_filesize) (or_true is_dir) in
    ap (λ w. option_to_list (size_problem file (size_limit g.settings is_dir w) (size_of g path))) (sym (shut_verdict g (names_of path) is_dir h))
    ∙ ap (λ l. option_to_list (size_problem file l (size_of g path))) off

-- The answer that goes with a reason, by a depth that stands for another.

pub answer_at : (s : Settings) (depth deep : ℕ) (is_dir : Bool) (w : QueryWhy)
    → ((verdict : Verdict) → limited s depth is_dir verdict ≡ limited s deep is_dir verdict)
    → answer_of s depth is_dir w ≡ answer_of s deep is_dir w
answer_at s depth deep is_dir unasked same = refl
answer_at s depth deep is_dir unruled same = same v.None
answer_at s depth deep is_dir too_shallow same = refl
answer_at s depth deep is_dir too_deep same = refl
answer_at s depth deep is_dir (decided said) same = same (verdict_of said)
answer_at s depth deep is_dir (larger size most) same = same v.Ignore
answer_at s depth deep is_dir (inside dir said) same = same v.Ignore

-- the answer that goes with a depth beyond the limits, whichever of them that is
pub far_beyond : (s : Settings) (depth : ℕ) (is_dir b : Bool) → answer_of s depth is_dir (cond b too_deep too_shallow) ≡ beyond
far_beyond s depth is_dir true = refl
far_beyond s depth is_dir false = refl
