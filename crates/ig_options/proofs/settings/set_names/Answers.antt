use Rattle.std.proofs.Common.{◌∙◌, sym}
use Rattle.std.proofs.lemmas.Result.{on_ok_weaker}
use Rattle.ig_options.specs.Settings.{is_unruled}
use Rattle.ig_options.proofs.LoopLemmas.{no_names, some_names}
use Rattle.ig_options.proofs.settings.set_names.Goals as goal

pub returns-then-is_unruled-clause-added : goal.returns-then-is_unruled-clause-added
returns-then-is_unruled-clause-added c =
    let o = c.args.options.now in
    no_names (is_unruled o) o.ignore_names c.args.walk.now (sym c.is_unruled.ensures ∙ c.if-is_unruled.true)

pub returns-clause-added : goal.returns-clause-added
returns-clause-added c =
    let o = c.args.options.now in
    on_ok_weaker c.push_names.result
    (λ added. some_names (is_unruled o) o.ignore_names c.args.walk.now c.push_names.new.walk (sym c.is_unruled.ensures ∙ c.if-is_unruled.false) added)
    c.push_names.ensures.added
