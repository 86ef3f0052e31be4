-- What a matcher that keeps nothing finds, in the words of the bare tree.
use Rattle.std.proofs.Common.{◌≡◌, ℕ, Bool, List, Option, Result, Ok, Err, IfOk, option_map, ap, sym, subst, ◌∙◌}
use Rattle.ignore.specs.Words.{Error, problem_of}
use Rattle.ignore.specs.FileWords.{Env, Tree}
use Rattle.ignore.specs.WalkWords.{AreLoads, IncrementalIgnore, IncrementalMatch, Loaded, query, scene, scene_of}
use Rattle.uses.specs.Queries.{IsFound, IsMatcherBelow}

pub found : (tree : Tree) (env : Env) (root path : List ℕ) (is_dir : Bool) (m : IncrementalIgnore)
    (r : Result (IncrementalMatch × Option Error) Error) → IsMatcherBelow tree env root m
    → ((loads : List ℕ → Loaded) → AreLoads tree m.asked.settings loads
    → IfOk r (λ x. x.0 ≡ (query (scene_of m.asked tree loads) path is_dir).0))
    → ((loads : List ℕ → Loaded) → AreLoads tree m.asked.settings loads
    → IfOk r (λ x. option_map problem_of x.1 ≡ (query (scene_of m.asked tree loads) path is_dir).1))
    → IfOk r (λ x. IsFound tree env root path is_dir (x.0, option_map problem_of x.1))
found tree env root path is_dir m (Err e) w value problem = tt
found tree env root path is_dir m (Ok x) w value problem = (
  w.0,
  w.1,
  λ loads are.
      let are_so : AreLoads tree m.asked.settings loads = subst (λ s. AreLoads tree s loads) (sym (ap (λ t. t.0) w.2)) are in
      ap (λ a. (a, option_map problem_of x.1)) (value loads are_so)
      ∙ ap (λ p. ((query (scene_of m.asked tree loads) path is_dir).0, p)) (problem loads are_so)
      ∙ ap (λ t. query (scene tree loads t.0 t.1 t.2) path is_dir) w.2,
)
