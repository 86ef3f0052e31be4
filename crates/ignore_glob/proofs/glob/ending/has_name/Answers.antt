use Rattle.std.proofs.Common.{[], ◌∷◌, ◌++◌, sym, ◌∙◌, append_assoc}
use Rattle.ignore_glob.proofs.EndLemmas.{found_name}
use Rattle.ignore_glob.proofs.glob.ending.has_name.Goals as goal

pub returns-else-is_empty-clause-yes : goal.returns-else-is_empty-clause-yes
returns-else-is_empty-clause-yes c =
    let rest = c.in-Some.rest.now in
    found_name c.args.name.now c.args.text.now rest c.ends_with.result c.in-Some.ensures.cases c.ends_with.ensures.cases c.utf8.text

pub returns-in-None-clause-same : goal.returns-in-None-clause-same
returns-in-None-clause-same c = λ e. absurd (c.in-None.ensures.cases [] e)

pub returns-in-None-clause-after : goal.returns-in-None-clause-after
returns-in-None-clause-after c = λ front e.
    absurd (c.in-None.ensures.cases (front ++ 47 ∷ []) (e ∙ sym (append_assoc front (47 ∷ []) c.args.name.now)))
