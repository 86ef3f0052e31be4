use Rattle.std.proofs.Common.{sym, ◌∙◌, ap}
use Rattle.std.specs.Option.{option_copied}
use Rattle.ignore_walk.proofs.ChildLemmas.{last_frame, no_last}
use Rattle.ignore_walk.proofs.child.last_path.Goals as goal

pub returns-in-None-clause-at : goal.returns-in-None-clause-at
returns-in-None-clause-at c = λ root b h. no_last c.args.frames.now root b _ h (sym c.last.ensures.value ∙ ap option_copied c.in-None.is)

pub returns-in-Some-clause-at : goal.returns-in-Some-clause-at
returns-in-Some-clause-at c = λ root b h.
    c.as_str.ensures ∙ last_frame c.args.frames.now c.in-Some.frame.now root b h (sym c.last.ensures.value ∙ ap option_copied c.in-Some.is)
