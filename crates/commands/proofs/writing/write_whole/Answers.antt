use Rattle.std.proofs.Common.{◌-◌, length, subst, arith, drop, take}
use Rattle.std.specs.Io.KnownBytes.{WriteAppends}
use Rattle.commands.proofs.WriteLemmas.{appends_kept, cut_at, within_rest, written_more, written_none}
use Rattle.commands.proofs.writing.write_whole.Goals as goal

pub returns-in-Ok-eq0-clause-cut : goal.returns-in-Ok-eq0-clause-cut
returns-in-Ok-eq0-clause-cut g c =
    let bs = c.args.bytes.now in
    let w = c.loop-written.written in
    let rest = take (length bs - w) (drop w bs) in
    cut_at _ _ bs w c.loop-written-test.true (
    written_none _ _ _ bs w c.in-Ok-eq0.field-0 (omega (arith, c.in-Ok-eq0.field-0-test)) c.loop-written.invariant.begun (
    subst (λ r. WriteAppends (g.W.Output.contents c.loop-written.out) (g.W.Output.contents c.write.new.self) r rest) c.in-Ok-eq0.is c.write.ensures.bytes
    )
    )

pub loop-written-preserved-in-Ok : goal.loop-written-preserved-in-Ok
loop-written-preserved-in-Ok g c =
    let bs = c.args.bytes.now in
    let w = c.loop-written.written in
    record {
      within = within_rest bs w c.in-Ok.n c.loop-written.invariant.within c.in-Ok.ensures.bound;
      begun = written_more _ _ _ bs w c.in-Ok.n c.loop-written.invariant.begun c.in-Ok.ensures.bytes;
    }

pub returns-then-interrupts-eq0-clause-cut : goal.returns-then-interrupts-eq0-clause-cut
returns-then-interrupts-eq0-clause-cut g c =
    cut_at _ _ c.args.bytes.now c.loop-written.written c.loop-written-test.true
    (appends_kept _ _ _ _ c.loop-written.invariant.begun c.in-Err.ensures.bytes)
