use Rattle.std.proofs.Common.{◌∙◌, ap, true}
use Rattle.std.proofs.lemmas.Result.{IfOk-weaker}
use Rattle.ig_options.specs.Choices.{with_all_chosen}
use Rattle.ig_options.proofs.choices.types_of.Goals as goal

pub returns-clause-value : goal.returns-clause-value
returns-clause-value c =
    let o = c.args.options.now in
    let defined = c.push_definitions.new.builder in
    let draft = c.push_choices-2.new.builder in
    let chosen = c.in_ok-push_choices-2.ensures.chosen ∙ ap (with_all_chosen true o.types_not) c.in_ok-push_choices.ensures.chosen in
    IfOk-weaker c.build.result _ _ (λ types built. (draft, (defined, c.in_ok-push_definitions.ensures.added, chosen), built)) c.build.ensures.built
