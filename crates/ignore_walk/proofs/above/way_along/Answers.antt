use Rattle.std.proofs.Common.{◌≡◌, ◌+◌, ◌++◌, ◌∷◌, [], ℕ, Bor, List, Ok, ap, codes, get_or, map, string_bytes, subst, sym, take, ◌∙◌}
use Rattle.std.proofs.lemmas.List.{map_more, take-map, take_all}
use Rattle.std.specs.declared.alloc.Global.{Global}
use Rattle.std.specs.declared.vec.Vec.{Vec}
use Rattle.ignore_base.specs.Problem.{problem_of}
use Rattle.ignore_base.specs.declared.error.Error.{Error}
use Rattle.ignore_dir.specs.Above.{canonical_names, path_along}
use Rattle.ignore_dir.specs.Soft.{AllSoft}
use Rattle.ignore_levels.specs.Levels.{slots_of}
use Rattle.ignore_walk.specs.Shared.{HasCome}
use Rattle.ignore_walk.proofs.CanonicalLemmas.{canonical-take}
use Rattle.ignore_walk.proofs.SharedLemmas.{shared-kept}
use Rattle.ignore_walk.proofs.above.way_along.Goals as goal

pub loop-name-init : goal.loop-name-init
loop-name-init g c = record {
  kept = λ place chain h. h;
  soft = c.in_ok-way.ensures.soft;
  come = λ s paths path is suits are shared. c.in_ok-way.ensures.begins s (slots_of c.args.levels.now) c.args.seen.now paths are;
}

pub loop-name-preserved : goal.loop-name-preserved
loop-name-preserved g c =
    let seen = c.args.seen.now in
    let names = c.args.names.now in
    let i = c.loop-name.name-index in
    let nothing : Bor (List ℕ) = record { ref_ptr = (0, 0); now = [] } in
    let front = map (λ n. n.now) (take i names) in
    let name = (get_or names i nothing).now in
    let more : map (λ n. n.now) (take (i + 1) names) ≡ front ++ name ∷ [] = map_more (λ n. n.now) names i nothing c.loop-name-test.true in
    let inv = c.loop-name.invariant in
    let before = slots_of c.loop-name.levels in
    let after = slots_of c.pass.new.levels in
    record {
      kept = λ place chain h. c.in_ok-pass.ensures.kept place chain (inv.kept place chain h);
      soft = subst (λ (es : Vec Error Global). AllSoft (map problem_of es.items)) (sym c.in_ok-go.ensures.errors) (c.in_ok-pass.ensures.soft inv.soft);
      come = λ s paths path is suits are shared.
          let come = inv.come s paths path is suits are shared in
          let shared' = shared-kept s seen (slots_of c.args.levels.now) before inv.kept shared in
          let some : front ≡ take i (canonical_names (Ok path)) = sym (take-map (λ (n : Bor (List ℕ)). n.now) i names) ∙ ap (take i) is in
          let canon : canonical_names (Ok (path_along (codes "/") front)) ≡ front =
          subst (λ (l : List (List ℕ)). canonical_names (Ok (path_along (codes "/") l)) ≡ l) (sym some) (canonical-take c.join_law.ensures.name path i) in
          let passed = c.in_ok-pass.ensures.passed s paths front name suits canon are shared' come in
          let gone = c.in_ok-go.ensures.gone s after seen paths front (ap string_bytes c.in_ok-pass.ensures.path ∙ come.path)
          (ap string_bytes c.in_ok-pass.ensures.text ∙ come.text) passed in
          subst (λ (l : List (List ℕ)). HasCome s after seen paths l c.go.new.self) (sym more) gone;
    }

pub returns-clause-come : goal.returns-clause-come
returns-clause-come g c = λ s paths path is suits are shared.
    let names = c.args.names.now in
    let i = c.loop-name.name-index in
    subst (λ (l : List (Bor (List ℕ))). HasCome s (slots_of c.loop-name.levels) c.args.seen.now paths (map (λ n. n.now) l) c.loop-name.way)
    (take_all i names c.loop-name-test.false) (c.loop-name.invariant.come s paths path is suits are shared)
