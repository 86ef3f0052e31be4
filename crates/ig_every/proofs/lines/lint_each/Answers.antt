use Rattle.std.proofs.Common.{◌+◌, ◌++◌, Bool, Bor, List, false, map, subst, sym, true, ℕ}
use Rattle.ig_every.specs.Lines.{AddsWrong, AreWrongFrom, texts_in}
use Rattle.ig_every.specs.declared.diagnostic.Diagnostic.{Diagnostic}
use Rattle.ig_every.proofs.LineLemmas.{all_lines_at, no_text_more_at, text_more_at}
use Rattle.ig_every.proofs.lines.lint_each.Goals as goal

pub loop-index-init : goal.loop-index-init
loop-index-init c = λ after more.
    subst (λ (found : List Diagnostic). AreWrongFrom c.args.how 1 (texts_in (map (λ (line : Bor (List ℕ)). line.now) c.args.lines.now)) (found ++ after)) (sym c.new-found.ensures.items) more

pub loop-index-preserved : goal.loop-index-preserved
loop-index-preserved c =
    let l = c.loop-index in
    let old = l.found.items in
    let new = c.lint_bytes.new.found.items in
    text_more_at c.args.how c.args.lines.now _ l.index old new c.loop-index-test.true
    (subst (λ (line : List ℕ). AddsWrong c.args.how (l.index + 1) line true old new) c.without_return.ensures
    (subst (λ (b : Bool). AddsWrong c.args.how (l.index + 1) c.without_return.result.now b old new) c.if-not-is_text.false c.in_ok-is_text.ensures)) l.invariant

pub returns-then-not-is_text : goal.returns-then-not-is_text
returns-then-not-is_text c =
    let l = c.loop-index in
    let old = l.found.items in
    let new = c.lint_bytes.new.found.items in
    no_text_more_at c.args.how c.args.lines.now _ l.index old new c.loop-index-test.true
    (subst (λ (line : List ℕ). AddsWrong c.args.how (l.index + 1) line false old new) c.without_return.ensures
    (subst (λ (b : Bool). AddsWrong c.args.how (l.index + 1) c.without_return.result.now b old new) c.if-not-is_text.true c.in_ok-is_text.ensures)) l.invariant

pub returns : goal.returns
returns c =
    all_lines_at c.args.how c.args.lines.now c.loop-index.index c.loop-index.found.items c.loop-index-test.false c.loop-index.invariant
