use Rattle.std.proofs.Common.{◌∙◌}
use Rattle.std.specs.Arc.{arc_slice_items}
use Rattle.ignore_glob.proofs.LexemeLemmas.{ClosesBefore-sign}
use Rattle.ignore_glob.proofs.BeginsLemmas.{class_at, disordered_at, literal_at, unclosed_class_at}
use Rattle.ignore_glob.proofs.glob.lexeme.bracket.Goals as goal

pub body-requires : goal.body-requires
body-requires c = ClosesBefore-sign c.args.after_last c.args.text.now c.sign-negated.result.1.now c.sign-negated.ensures.rest c.requires

pub returns-in_ok-shared-in-Some-2-clause-lexeme : goal.returns-in_ok-shared-in-Some-2-clause-lexeme
returns-in_ok-shared-in-Some-2-clause-lexeme c =
    let k = rw c.in-Some-2.is at c.in_ok-ranges.ensures.some in
    class_at c.args.options c.args.depth c.args.text.now c.sign-negated.result.1.now c.sign-negated.ensures.rest c.sign-negated.result.0
    c.in-Some.body.now c.in-Some.rest.now (arc_slice_items c.in_ok-shared-in-Some-2.shared) k.0 c.sign-negated.ensures.negated c.in-Some.ensures.some
    k.1 k.2 (c.in_ok-shared-in-Some-2.ensures ∙ k.3)

pub returns-in-None-clause-fault : goal.returns-in-None-clause-fault
returns-in-None-clause-fault c =
    let k = rw c.in-None.is at c.in_ok-ranges.ensures.none in
    disordered_at c.args.options c.args.depth c.args.text.now c.sign-negated.result.1.now c.sign-negated.ensures.rest c.in-Some.body.now
    c.in-Some.rest.now k.0 c.in-Some.ensures.some k.1 k.2

pub returns-then-options-clause-lexeme : goal.returns-then-options-clause-lexeme
returns-then-options-clause-lexeme c =
    literal_at c.args.options c.args.depth c.args.text.now c.sign-negated.result.1.now c.sign-negated.ensures.rest
    c.in_default.ensures.none c.if-options.true

pub returns-in_default-clause-fault : goal.returns-in_default-clause-fault
returns-in_default-clause-fault c =
    unclosed_class_at c.args.options c.args.depth c.args.text.now c.sign-negated.result.1.now c.sign-negated.ensures.rest
    c.in_default.ensures.none c.if-options.false
