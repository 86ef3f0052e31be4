-- What holds where nothing is kept.
use Rattle.std.proofs.Common.{◌≡◌, ℕ, Bool, true, false, not, cond, List, [], ◌∷◌, ◌++◌, map, Option, None, Some, is_some, refl, sym, ap, ◌∙◌}
use Rattle.ignore_base.specs.Paths.{join_of}
use Rattle.ignore_dir.specs.Limits.{beyond, is_beyond, limited, no_match, size_problem}
use Rattle.ignore_base.specs.Problem.{Problem}
use Rattle.ignore_dir.specs.declared.incremental.IncrementalMatch.{IncrementalMatch}
use Rattle.ignore_dir.specs.declared.verdict.Verdict.TheVariants as v
use Rattle.ignore_dir.specs.Load.{joined_some}
use Rattle.ignore_dir.specs.Query.{answer_of_rules, depth_of_path, has_rules, is_asked, limit_of, loaded_for, names_of, problem_above}
use Rattle.ignore_dir.specs.Query.{problem_of_rules, problems_below, query, size_of}
use Rattle.ignore_dir.specs.Scene.{QueryScene}
use Rattle.ignore_query.specs.declared.kept.Cache.{Cache}
use Rattle.ignore_query.specs.declared.kept.Kept.{Kept}
use Rattle.ignore_query.specs.declared.kept.Kept.TheVariants.{Loaded}
use Rattle.ignore_query.specs.Listed.{kept_at}
use Rattle.ignore_query.specs.Fresh.{KeepsNothing, NothingAgrees, NothingReportsAll}
use Rattle.ignore_query.specs.Reports.{new_below, not_kept, problem_in, reported, reported_by_rules}

pub nothing_agrees : NothingAgrees
nothing_agrees g c h = record {
  above = λ k. absurd (never (sym k ∙ h.above));
  first = λ names k e. absurd (none names k e);
  right = λ names k are e. absurd (none names k e);
  inside = λ names k are e. absurd (none names k e);
  shared = λ a b at ca cb p q. absurd (none a (Loaded p.0) p.1);
}
  where
    never : true ≡ false → ⊥
    never e = cc

    none : (names : List (List ℕ)) (k : Kept) → kept_at c names ≡ Some k → ⊥
    none names k e = let z = h.dirs names in cc

all_new : (c : Cache) → KeepsNothing c → (fronts : List (List (List ℕ))) → not_kept c fronts ≡ fronts
all_new c h [] = refl
all_new c h (names ∷ fronts) =
    ap (λ o. cond (not (is_some o)) (names ∷ not_kept c fronts) (not_kept c fronts)) (h.dirs names)
    ∙ ap (λ l. names ∷ l) (all_new c h fronts)

below : (g : QueryScene) (c : Cache) → KeepsNothing c → (names : List (List ℕ)) → new_below g c names ≡ problems_below g names
unfolding new_below problems_below
below g c h names = ap (map (problem_in g)) (all_new c h (loaded_for g names))

by_rules : (g : QueryScene) (c : Cache) → KeepsNothing c → (path : List ℕ) (is_dir : Bool) → reported_by_rules g c path is_dir ≡ problem_of_rules g path is_dir
unfolding reported_by_rules problem_of_rules
by_rules g c h path is_dir =
    let size = size_problem (join_of g.root path) (limit_of g path is_dir) (size_of g path) in
    ap (λ b. joined_some (cond b None (problem_above g) ∷ (new_below g c (names_of path) ++ size ∷ []))) h.above
    ∙ ap (λ l. joined_some (problem_above g ∷ (l ++ size ∷ []))) (below g c h (names_of path))

by_cases : (a b r : Bool) (p q s : IncrementalMatch) (x : IncrementalMatch × Option Problem) (y : Option Problem) → y ≡ x.1
    → cond a None (cond b None (cond r y None)) ≡ (cond a (p, None) (cond b (q, None) (cond r x (s, None)))).1
by_cases true b r p q s x y e = refl
by_cases false true r p q s x y e = refl
by_cases false false true p q s x y e = e
by_cases false false false p q s x y e = refl

pub nothing_reports_all : NothingReportsAll
unfolding reported query answer_of_rules
nothing_reports_all g c path is_dir h =
    by_cases (not (is_asked g.root path)) (is_beyond g.settings (depth_of_path path) is_dir) (has_rules g.tree g.root path)
    (no_match is_dir) beyond (limited g.settings (depth_of_path path) is_dir v.None) (answer_of_rules g path is_dir) _ (by_rules g c h path is_dir)
