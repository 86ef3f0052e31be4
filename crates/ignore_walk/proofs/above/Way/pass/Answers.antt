use Rattle.std.proofs.Common.{◌≡◌, ◌+◌, ◌++◌, ◌∷◌, ℕ, List, Ok, Option, ap, arith, codes, length, map, option_map, refl, subst, sym, ◌∙◌}
use Rattle.std.specs.Option.{option_to_list}
use Rattle.ignore_base.specs.Problem.{Problem, problem_of}
use Rattle.ignore_dir.specs.Above.{canonical_names, kept_above, path_along}
use Rattle.ignore_dir.specs.Chains.{slashed}
use Rattle.ignore_levels.specs.Levels.{counting, slots_of}
use Rattle.ignore_walk.specs.Shared.{placed_down}
use Rattle.ignore_walk.specs.declared.above.Seen.{Seen}
use Rattle.ignore_walk.specs.declared.above.Way.{Way}
use Rattle.ignore_walk.proofs.RiseLemmas.{below-down}
use Rattle.ignore_walk.proofs.SharedLemmas.{pass-known, pass-new}
use Rattle.ignore_dir.specs.Soft.{AllSoft}
use Rattle.ignore_dir.proofs.SoftLemmas.{more_soft}
use Rattle.ignore_walk.proofs.above.Way.pass.Goals as goal

pub returns-in-Some-clause-passed : goal.returns-in-Some-clause-passed
returns-in-Some-clause-passed g c = λ s paths names name suits canon are shared come.
    let w = c.args.self.now in
    let slots = slots_of c.args.levels.now in
    let path = c.as_str.result.now in
    let at : path ≡ path_along (codes "/") names = c.as_str.ensures.value ∙ come.path in
    let canon' : canonical_names (Ok path) ≡ names = ap (λ (p : List ℕ). canonical_names (Ok p)) at ∙ canon in
    let next : Way = record { path = w.path; text = w.text; place = c.in-Some.place; added = w.added; errors = w.errors } in
    pass-known s c.args.seen.now paths names name path slots w next refl refl (c.in-Some.ensures.place s slots shared) c.in-Some.ensures.found at
    canon' are come

pub returns-clause-passed : goal.returns-clause-passed
returns-clause-passed g c = λ s paths names name suits canon are shared come.
    let w = c.args.self.now in
    let old = slots_of c.args.levels.now in
    let new = slots_of c.add.new.self in
    let path = c.as_str.result.now in
    let same : c.as_str-2.result.now ≡ path = c.as_str-2.ensures.value ∙ sym c.as_str.ensures.value in
    let at : path ≡ path_along (codes "/") names = c.as_str.ensures.value ∙ come.path in
    let canon' : canonical_names (Ok path) ≡ names = ap (λ (p : List ℕ). canonical_names (Ok p)) at ∙ canon in
    let place = c.in_ok-self.field-0 in
    let own : Seen = record { path = c.new-path.result; place = place } in
    let next : Way = record { path = w.path; text = w.text; place = place; added = c.push.new.self; errors = c.push_some.new.errors } in
    let own_path : own.path ≡ path =
    c.new-path.ensures ∙ (c.in_ok-from_str.ensures.ok ∙ (c.as_str-4.ensures.value ∙ sym c.as_str.ensures.value)) in
    let dir = c.in_ok-dir.dir in
    let is_dir : dir ≡ kept_above s.settings (s.loads path).0 =
    c.in_ok-dir.ensures.dir s suits ∙ ap (λ (p : List ℕ). kept_above s.settings (s.loads p).0) same in
    let problem : option_map problem_of c.in_ok-dir.error ≡ (s.loads path).1 =
    c.in_ok-dir.ensures.problem s suits ∙ ap (λ (p : List ℕ). (s.loads p).1) same in
    let errors = c.in_ok-push_some.ensures.added
    ∙ ap (λ (p : Option Problem). map problem_of w.errors.items ++ option_to_list p) problem in
    let offset = length c.as_str-3.result.now in
    let size : length (47 ∷ slashed names) ≡ 1 + length (slashed names) = omega arith in
    let is_offset : offset ≡ 1 + length (slashed names) =
    ap (λ (t : List ℕ). length t) (c.as_str-3.ensures.value ∙ come.text) ∙ size in
    let chain = c.in_ok-self.ensures.chain (counting (placed_down s names)) come.passed.place (below-down s names offset is_offset) in
    pass-new s c.args.seen.now paths names name path old new w next own dir offset c.in_ok-self.ensures.kept c.in_ok-push.ensures.items own_path refl
    errors is_dir is_offset chain c.in_default.ensures.found at canon' are come

pub returns-in-Some-clause-soft : goal.returns-in-Some-clause-soft
returns-in-Some-clause-soft g c = λ soft. soft

pub returns-clause-soft : goal.returns-clause-soft
returns-clause-soft g c = λ soft.
    subst AllSoft (sym c.in_ok-push_some.ensures.added)
    (more_soft (map problem_of c.args.self.now.errors.items) (option_map problem_of c.in_ok-dir.error) soft c.in_ok-dir.ensures.soft)
