use Rattle.std.proofs.Common.{◌∙◌, string_bytes, subst}
use Rattle.std.specs.Io.KnownBytes.{Appends}
use Rattle.commands.proofs.LineLemmas.{appends_nothing}
use Rattle.ig_commands.specs.Types.{after_comma}
use Rattle.ig_commands.proofs.TurnLemmas.{turn_more, turns_end}
use Rattle.ig_commands.proofs.TypeLemmas.{globs_after, no_globs}
use Rattle.ig_commands.proofs.types.write_globs.Goals as goal

pub returns-in_default-clause-writes : goal.returns-in_default-clause-writes
returns-in_default-clause-writes g c =
    no_globs c.args.globs.now (g.W.Output.contents c.args.out.now) (rw c.in_default.is at c.split_first.ensures.cases)

pub loop-glob-init : goal.loop-glob-init
loop-glob-init g c = appends_nothing (g.W.Output.contents c.write_bytes.new.out)

pub loop-glob-preserved : goal.loop-glob-preserved
loop-glob-preserved g c =
    turn_more (λ glob. after_comma (string_bytes glob)) c.in-Some.rest.now c.loop-glob.glob-index c.glob-item.result _ _ _
    c.loop-glob-test.true c.glob-item.is c.loop-glob.invariant
    (subst (λ text. Appends (g.W.Output.contents c.loop-glob.out) (g.W.Output.contents c.write_after_comma.new.out) (after_comma text))
    c.as_str-in-loop-glob.ensures.value c.in_ok-write_after_comma.ensures.writes)

pub returns-clause-writes : goal.returns-clause-writes
returns-clause-writes g c =
    globs_after c.args.globs.now c.in-Some.first.now c.in-Some.rest.now _ _ _
    (rw c.in-Some.is at c.split_first.ensures.cases).0
    (subst (Appends (g.W.Output.contents c.args.out.now) (g.W.Output.contents c.write_bytes.new.out)) (c.as_bytes.ensures.value ∙ c.as_str.ensures.value)
    c.in_ok-write_bytes.ensures.writes)
    (turns_end (λ glob. after_comma (string_bytes glob)) c.in-Some.rest.now c.loop-glob.glob-index _ _ c.loop-glob-test.false c.loop-glob.invariant)
