-- Worked reasons, reports and counts as they are written, the records of some bytes, of which there
-- is one list, and the root of a working directory, of which there is one at the most.
use Rattle.std.proofs.Common.{◌≡◌, ◌∙◌, ℕ, true, false, List, [], ◌∷◌, ◌++◌, Contains, codes, Option, None, Some, Ok, Err, refl, sym, ap, subst, inl, inr, arith, if◌then◌else◌}
use Rattle.std.proofs.lemmas.Bool.{both_ways}
use Rattle.std.proofs.lemmas.List.Elements.{Contains-append_right}
use Rattle.std.specs.Fmt.{decimal}
use Rattle.std.specs.Str.{bytes_eq}
use Rattle.ignore_base.specs.Paths.{below, join_of, strip_prefix_of}
use Rattle.ignore_base.specs.Text.{Path}
use Rattle.ignore_base.specs.declared.fault.Fault.TheVariants.{NotFound}
use Rattle.ignore_base.specs.declared.match_result.Match.TheVariants as m
use Rattle.ignore_dir.specs.Scene.{QueryScene}
use Rattle.ignore_files.specs.Tree.{Tree}
use Rattle.ignore_files.specs.declared.types.FileType.TheVariants.{Dir as dir_kind}
use Rattle.ignore_query.specs.declared.kept.Cache.{Cache}
use Rattle.ignore_why.specs.Cited.{Cited}
use Rattle.ignore_why.specs.Cited.Cited.{on_name, on_rule}
use Rattle.ignore_why.specs.QueryWhy.QueryWhy.{decided, inside, unruled}
use Rattle.ignore_why.specs.declared.cause.RuleRank.TheVariants.{Gitignore}
use Rattle.ig_commands.proofs.InputLemmas.{contains_front, nothing_more}
use Rattle.ig_commands.specs.Counts.{stats_line, status_of}
use Rattle.ig_commands.specs.Form.{reasoned}
use Rattle.ig_commands.specs.Input.{AreRecords}
use Rattle.ig_commands.specs.Input.AreRecords.{none, last, more}
use Rattle.ig_commands.specs.Root.{Nearest, is_marked}
use Rattle.ig_commands.specs.Root.Nearest.{none as unmarked, here, above}
use Rattle.ig_commands.specs.Why.{Answered, IsSaidOf}
use Rattle.ig_commands.specs.Why.Said.{not_below, told}

-- the rule `*.o` of the third line of `/w/.gitignore`
abbrev rule : Cited
rule = on_rule (record {
  rank = Gitignore;
  directory = Some (codes "/w/");
  from = Some (codes "/w/.gitignore");
  line = Some 3;
  original = codes "*.o";
  is_whitelist = false;
})

-- a path after the rule that decides on it, with its source below `/w`; after the rule of a directory
-- around it; after the word of what decides; and where nothing does
pub reasons : (reasoned (Some (codes "/w")) false (decided (m.Ignore rule)) (codes "a.o") ≡ (codes ".gitignore:" ++ (decimal 3 ++ codes ":*.o")) ++ 9 ∷ (codes "a.o" ++ 10 ∷ []))
    × (reasoned None false (inside (codes "d") (m.Ignore rule)) (codes "d/k") ≡ (codes "/w/.gitignore:" ++ (decimal 3 ++ codes ":*.o")) ++ 9 ∷ (codes "d/k" ++ 10 ∷ []))
    × (reasoned None false (decided (m.Ignore on_name)) (codes ".k") ≡ codes "::hidden" ++ 9 ∷ (codes ".k" ++ 10 ∷ []))
    × (reasoned None false unruled (codes "k") ≡ codes "::" ++ 9 ∷ (codes "k" ++ 10 ∷ []))
    × (reasoned None true unruled (codes "k") ≡ 0 ∷ (0 ∷ (0 ∷ (codes "k" ++ 0 ∷ []))))
unfolding below strip_prefix_of
reasons = (refl, refl, refl, refl, refl)

-- what was reported counts before what was found
pub statuses : (status_of 0 0 ≡ 1) × (status_of 0 5 ≡ 0) × (status_of 1 5 ≡ 2) × (status_of 1 0 ≡ 2)
statuses = (refl, refl, refl, refl)

-- the counts
pub counts : stats_line true 1 2 ≡ codes "ig: " ++ (decimal 2 ++ (codes " found, " ++ (decimal 1 ++ (codes " reported" ++ 10 ∷ []))))
counts = refl

-- a path that is below the root isn't told as outside, and one that isn't has no answer
pub below_is_not_outside : (g : QueryScene) (text path p : Path) (old new : Cache) → ¬ IsSaidOf g (Some text) path old new (not_below p)
below_is_not_outside g text path p old new (same, unknown, kept) = cc unknown

pub outside_has_no_answer : (g : QueryScene) (path : Path) (old new : Cache) (t : Answered) → ¬ IsSaidOf g None path old new (told t)
outside_has_no_answer g path old new t (same, text, known, is) = cc known

-- in lines, `a` and an empty line are the records of these bytes
pub records : AreRecords 10 (97 ∷ (10 ∷ (10 ∷ []))) (codes "a" ∷ ([] ∷ []))
records =
    let away : ¬ Contains (codes "a") 10 = λ c. elim (contains_front 97 10 [] c) [ inl e ↦ omega (arith, e) | inr k ↦ omega (arith, k.1) ] in
    more {text = codes "a"} away (more {text = []} (λ c. omega (arith, c.1)) none)

-- bytes have one list of records
same_cut : (end : ℕ) (t u r s : List ℕ) → ¬ Contains t end → ¬ Contains u end → t ++ end ∷ r ≡ u ++ end ∷ s → (t ≡ u) × (r ≡ s)
same_cut end [] [] r s h k e = (refl, (cc e))
same_cut end [] (y ∷ u) r s h k e = let is : y ≡ end = cc e in absurd (k (0, (omega arith), is))
same_cut end (x ∷ t) [] r s h k e = let is : x ≡ end = cc e in absurd (h (0, (omega arith), is))
same_cut end (x ∷ t) (y ∷ u) r s h k e =
    let first : x ≡ y = cc e in
    let rest : t ++ end ∷ r ≡ u ++ end ∷ s = cc e in
    let same = same_cut end t u r s (λ c. h (Contains-append_right (x ∷ []) t end c)) (λ c. k (Contains-append_right (y ∷ []) u end c)) rest in
    ((cc (first, same.0)), same.1)

ends_inside : (t r : List ℕ) (end : ℕ) → Contains (t ++ end ∷ r) end
ends_inside t r end = Contains-append_right t (end ∷ r) end (0, (omega arith), refl)

pub one_list : (end : ℕ) (bytes same : List ℕ) (xs ys : List (List ℕ)) → AreRecords end bytes xs → AreRecords end same ys → bytes ≡ same → xs ≡ ys
one_list end _ same _ ys none k e = sym (nothing_more end same ys k (sym e))
one_list end bytes _ xs _ h none e = nothing_more end bytes xs h e
one_list end bytes same _ _ (last full away) (last fuller none_in) e = ap (λ t. t ∷ []) e
one_list end bytes _ _ _ (last full away) (more {text = t} {rest = r} no_end is) e =
    absurd (away (subst (λ (bs : List ℕ). Contains bs end) (sym e) (ends_inside t r end)))
one_list end _ same _ _ (more {text = t} {rest = r} no_end is) (last full away) e =
    absurd (away (subst (λ (bs : List ℕ). Contains bs end) e (ends_inside t r end)))
one_list end _ _ _ _ (more {text = t} {rest = r} {records = xs} no_end is) (more {text = u} {rest = s} {records = ys} without are) e =
    let same = same_cut end t u r s no_end without e in
    let rest = one_list end r s xs ys is are same.1 in
    ap (λ x. x ∷ xs) same.0 ∙ ap (λ rs. u ∷ rs) rest

-- one folder at the most is the nearest with a mark
pub nearest_once : {tree : Tree} {dir : Path} {a b : Option Path} → Nearest tree dir a → Nearest tree dir b → a ≡ b
nearest_once unmarked unmarked = refl
nearest_once unmarked (here some marked) = absurd (some refl)
nearest_once unmarked (above some bare h) = absurd (some refl)
nearest_once (here some marked) unmarked = absurd (some refl)
nearest_once (here some marked) (here full same) = refl
nearest_once {tree} {dir} (here some marked) (above full bare h) = absurd (both_ways (is_marked tree dir) bare marked)
nearest_once (above some bare h) unmarked = absurd (some refl)
nearest_once {tree} {dir} (above some bare h) (here full marked) = absurd (both_ways (is_marked tree dir) bare marked)
nearest_once (above some bare h) (above full same k) = nearest_once h k

-- in a tree with `/w/.git` and `/.jj`
abbrev tree : Tree
tree = record {
  stat = λ p follow. if bytes_eq p (codes "/w/.git") then Ok (record { file_type = dir_kind; len = 0 })
      else if bytes_eq p (codes "/.jj") then Ok (record { file_type = dir_kind; len = 0 }) else Err NotFound;
  list = λ p. Err NotFound;
  contents = λ p. Err NotFound;
  canonical = λ p. Ok p;
  identity = λ p follow. Err NotFound;
}

-- the nearest of `/w/a` is `/w`, and that of `/v` is `/`
pub nearest_marks : Nearest tree (codes "/w/a") (Some (codes "/w")) × Nearest tree (codes "/v") (Some (codes "/"))
unfolding join_of
nearest_marks =
    (above (λ e. cc e) refl (here (λ e. cc e) refl), above (λ e. cc e) refl (here (λ e. cc e) refl))
