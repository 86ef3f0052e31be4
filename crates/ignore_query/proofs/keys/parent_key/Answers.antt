use Rattle.std.proofs.Common.{◌≡◌, ◌++◌, ℕ, List, length, sym, ap, ◌∙◌}
use Rattle.ignore_base.specs.Paths.{last_component}
use Rattle.ignore_dir.specs.Chains.{slashed}
use Rattle.ignore_query.proofs.KnownLemmas.{last_named, whole_path, without_end}
use Rattle.ignore_query.proofs.keys.parent_key.Goals as goal

pub returns-in-Some : goal.returns-in-Some
returns-in-Some c = λ front name e.
    let last : c.last_component.result.now ≡ name = c.last_component.ensures ∙ (ap last_component e ∙ last_named front name) in
    let found = c.in-Some.ensures.cases in
    found.2 ∙ without_end c.args.path.now (slashed front) name found.0 (whole_path c.args.path.now front name e)
    (found.1.0 ∙ ap (λ (t : List ℕ). length t) last)

pub returns-in-None : goal.returns-in-None
returns-in-None c = λ front name e.
    let last : c.last_component.result.now ≡ name = c.last_component.ensures ∙ (ap last_component e ∙ last_named front name) in
    absurd (c.in-None.ensures.cases (slashed front) (whole_path c.args.path.now front name e ∙ ap (λ t. slashed front ++ t) (sym last)))
