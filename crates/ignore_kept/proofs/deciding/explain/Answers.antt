-- What becomes of an entry, with its reason, is what the guide of the handle says.
use Rattle.std.proofs.Common.{sym, ap, ◌∙◌}
use Rattle.std.specs.Option.{option_copied}
use Rattle.ignore_kept.proofs.Decided.{explains}
use Rattle.ignore_kept.proofs.deciding.explain.Goals as goal

pub returns-in-Ok-explain-clause-explained : goal.returns-in-Ok-explain-clause-explained
returns-in-Ok-explain-clause-explained c =
    let e = c.in-Ok-explain.ensures in
    explains c.args.asked.place c.args.asked.name.now c.in-Ok.name.now c.args.asked.is_dir c.args.asked.size _ c.in-Some.guide.now
    c.size_of.result (sym (ap option_copied c.in-Some.is) ∙ c.guide_in.ensures) c.size_of.ensures c.in-Ok-explain.explanation
    c.in-Ok.ensures.value e.there e.value e.why
