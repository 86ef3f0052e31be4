use Rattle.std.proofs.Common.{◌≡◌, ◌+◌, ◌++◌, ◌∷◌, [], map, length, List, ℕ, subst, refl, arith, Bor}
use Rattle.std.proofs.lemmas.Iterator.Splits.{YieldsList-from_lines}
use Rattle.std.proofs.lemmas.Iterator.Consumers.{YieldsList-so_far, YieldsList-turn, YieldsList-end}
use Rattle.std.proofs.lemmas.Result.{err_from_is_err_and}
use Rattle.std.proofs.lemmas.List.{map-append, length-map, length_push}
use Rattle.std.specs.Io.KnownBytes.{Appends}
use Rattle.std.specs.Str.Lines.{lines}
use Rattle.commands.specs.Matching.{AddsAll}
use Rattle.commands.proofs.LineLemmas.{length-lines, adds_none, adds_one}
use Rattle.commands.proofs.StopLemmas.{ends_lines}
use Rattle.commands.proofs.run.add_lines.Goals as goal

pub loop-line-init : goal.loop-line-init
loop-line-init g c = record { counted = refl; added = λ root is. rw is (adds_none root _) }

pub loop-line-preserved : goal.loop-line-preserved
loop-line-preserved g c =
    let counted : c.loop-line.number + 1 ≡ length (c.loop-line.yielded ++ c.in-Some.line ∷ []) =
    omega (arith, length_push c.loop-line.yielded c.in-Some.line, c.loop-line.invariant.counted) in
    let place : c.loop-line.number + 1 ≡ length (map (λ (x : Bor (List ℕ)). x.now) c.loop-line.yielded) + 1 =
    omega (arith, length-map c.loop-line.yielded (λ (x : Bor (List ℕ)). x.now), c.loop-line.invariant.counted) in
    record {
      counted = counted;
      added = λ root is. rw (map-append (λ (x : Bor (List ℕ)). x.now) c.loop-line.yielded (c.in-Some.line ∷ []))
          (adds_one root _ c.in-Some.line.now _ _ _ _ _ _ c.in_ok-refused.field-0 _ (c.loop-line.invariant.added root is) place
          c.in_ok-refused.ensures.added);
    }

pub overflow_add-number : goal.overflow_add-number
overflow_add-number g c =
    let t = YieldsList-turn (YieldsList-from_lines c.args.rules.now cc) c.loop-line.yielded _ c.loop-line.yielded_by _ _
    c.in-Some.line c.in-Some.is c.next.ensures.steps in
    omega (arith, t.0, length-lines c.args.rules.now, c.loop-line.invariant.counted)

pub returns-clause-added : goal.returns-clause-added
returns-clause-added g c = λ root is.
    let t = YieldsList-end (YieldsList-from_lines c.args.rules.now cc) c.loop-line.yielded _ c.loop-line.yielded_by _ _
    c.in-None.is c.next.ensures.steps in
    subst (λ (ls : List (List ℕ)). AddsAll root ls c.loop-line.builder
    (Appends (g.E.Write.contents c.args.err.now) (g.E.Write.contents c.loop-line.err)) c.loop-line.refused) t.0
    (c.loop-line.invariant.added root is)

pub returns-in_err-refused-clause-ended : goal.returns-in_err-refused-clause-ended
returns-in_err-refused-clause-ended g c = λ root is.
    let l = c.loop-line in
    let t = YieldsList-turn (YieldsList-from_lines c.args.rules.now cc) l.yielded _ l.yielded_by _ _ c.in-Some.line c.in-Some.is
    c.next.ensures.steps in
    let so_far = YieldsList-so_far (YieldsList-from_lines c.args.rules.now cc) l.yielded _ l.yielded_by in
    let p = err_from_is_err_and c.from_residual.result c.from_residual.ensures.1 in
    rw (p.1, p.2) (ends_lines root (lines c.args.rules.now) (map (λ (x : Bor (List ℕ)). x.now) l.yielded) (length l.yielded)
    c.in-Some.line.now l.builder
    (g.E.Write.contents c.args.err.now) (g.E.Write.contents l.err) (g.E.Write.contents c.add_or_report.new.err) l.refused
    c.in_err-refused.field-0.0
    so_far t.0 t.1 (l.invariant.added root is) c.in_err-refused.ensures.ended)
