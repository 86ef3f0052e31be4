-- One file more was added.
use Rattle.std.proofs.Common.{◌≡◌, ◌∷◌, [], ◌++◌, ◌+◌, ℕ, List, Option, map, option_map, take, sym, ap, subst, ◌∙◌}
use Rattle.std.proofs.lemmas.List.{map_push, take_all, take_more}
use Rattle.ignore_base.specs.Problem.{Problem, problem_of}
use Rattle.ignore_base.specs.declared.error.Error.{Error}
use Rattle.ignore_kept.specs.Guides.{AddsAll, AddsIn}
use Rattle.ignore_kept.specs.Guides.AddsAll.{more, none}
use Rattle.ignore.specs.Asked.{base_dir}
use Rattle.ignore_kept.proofs.entering.add_all.Goals as goal

pub loop-path-init : goal.loop-path-init
loop-path-init c =
    subst (λ (l : List (Option Error)). AddsAll c.args.told.now c.args.env.now c.args.options.now [] c.args.options.now (map (option_map problem_of) l))
    (sym c.new-errors.ensures.items) none

pub loop-path-preserved : goal.loop-path-preserved
loop-path-preserved c =
    let l = c.loop-path in
    let told = c.args.told.now in
    let env = c.args.env.now in
    let first = c.args.options.now in
    let all = c.args.paths.now in
    let i = l.path-index in
    let path = c.path-item.result in
    let new = c.added.new.options in
    let f : Option Error → Option Problem = option_map problem_of in
    let longer : take (i + 1) all ≡ take i all ++ path ∷ [] =
    take_more all i path c.loop-path-test.true ∙ ap (λ x. take i all ++ x ∷ []) (sym c.path-item.is) in
    let adds = subst (λ (p : List ℕ). AddsIn told p (base_dir l.options env) l.options new (f c.in_ok-error.error)) c.as_str.ensures c.in_ok-error.ensures in
    subst (λ (ps : List (List ℕ)). AddsAll told env first ps new (map f c.push.new.self.items)) (sym longer)
    (subst (λ (es : List (Option Problem)). AddsAll told env first (take i all ++ path ∷ []) new es)
    (sym (ap (map f) c.in_ok-push.ensures.items ∙ map_push f l.errors.items c.in_ok-error.error))
    (more (take i all) path l.options new (map f l.errors.items) (f c.in_ok-error.error) l.invariant adds))

pub returns : goal.returns
returns c =
    subst (λ (ps : List (List ℕ)). AddsAll c.args.told.now c.args.env.now c.args.options.now ps c.loop-path.options
    (map (option_map problem_of) c.loop-path.errors.items)) (take_all _ _ c.loop-path-test.false) c.loop-path.invariant
