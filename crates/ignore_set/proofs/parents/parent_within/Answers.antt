use Rattle.std.proofs.Common.{◌+◌, Some, None, ap, sym, ◌∙◌, arith}
use Rattle.std.proofs.lemmas.Str.Pattern.{rfind_char}
use Rattle.ignore_set.proofs.ParentLemmas.{no_parent, one_parent, slice_front}
use Rattle.ignore_set.proofs.parents.parent_within.Goals as goal

pub returns-in_err-at : goal.returns-in_err-at
returns-in_err-at c = λ parent has size.
    absurd (no_parent c.args.text.now parent has (rfind_char 47 c.args.text.now None c.in_err-at.ensures.cases (omega arith)))

pub returns : goal.returns
returns c = λ parent has size.
    let text = c.args.text.now in
    let at = c.in_ok-at.at in
    let f = rfind_char 47 text (Some at) c.in_ok-at.ensures.cases (omega arith) in
    ap Some (c.range.ensures.value ∙ slice_front text (at + 1) ∙ sym (one_parent text parent at has f.0 f.1 f.2).0)
