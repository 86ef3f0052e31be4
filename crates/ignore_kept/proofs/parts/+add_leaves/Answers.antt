-- The parts of each error are added in turn.
use Rattle.std.proofs.Common.{◌≡◌, ◌∷◌, [], ◌++◌, ◌+◌, List, map, take, sym, ap, ◌∙◌}
use Rattle.std.specs.Option.{option_copied}
use Rattle.std.proofs.lemmas.List.{append_assoc, map_push, take_all, take_more}
use Rattle.ignore_base.proofs.Texts.{problem_of-Partial}
use Rattle.ignore_base.specs.Problem.{Problem, problem_of, problems_of}
use Rattle.ignore_base.specs.declared.error.Error.{Error}
use Rattle.ignore_kept.proofs.Parting.{one_part_more}
use Rattle.ignore_kept.specs.Parts.{One, all_parts_at, one_of, parts_at}
use Rattle.ignore_kept.proofs.parts.+add_leaves.Goals as goal

pub loop-err-preserved : goal.loop-err-preserved
loop-err-preserved t c =
    let path = option_copied c.args.path in
    let line = c.args.line in
    let all = c.deref-err-items.result.now in
    let i = c.loop-err.err-index in
    let err = c.err-item.result in
    let front = map one_of c.args.leaves.now.items in
    let parts = parts_at path line (problem_of err) in
    let so : List Problem = map problem_of (take i all) in
    let longer : map problem_of (take (i + 1) all) ≡ so ++ problem_of err ∷ [] =
    ap (map problem_of) (take_more all i err c.loop-err-test.true ∙ ap (λ (x : Error). take i all ++ x ∷ []) (sym c.err-item.is))
    ∙ map_push problem_of (take i all) err in
    c.in_ok-add_leaves-in-Partial.ensures
    ∙ (ap (λ (l : List One). l ++ parts) c.loop-err.invariant
    ∙ (append_assoc front (all_parts_at path line (problems_of so)) parts
    ∙ ap (λ (l : List One). front ++ l) (sym (one_part_more path line so (problem_of err))
    ∙ ap (λ (l : List Problem). all_parts_at path line (problems_of l)) (sym longer))))

pub returns-after-loop-err : goal.returns-after-loop-err
returns-after-loop-err t c =
    let path = option_copied c.args.path in
    let line = c.args.line in
    let front = map one_of c.args.leaves.now.items in
    c.loop-err.invariant
    ∙ (ap (λ (l : List Error). front ++ all_parts_at path line (problems_of (map problem_of l)))
    (take_all _ _ c.loop-err-test.false ∙ c.deref-err-items.ensures.value)
    ∙ ap (λ (p : Problem). front ++ parts_at path line p) (sym (problem_of-Partial c.in-Partial.errors) ∙ ap problem_of (sym c.in-Partial.is)))
