use Rattle.std.proofs.Common.{◌≡◌, ◌≢◌, false, IfSome, string_bytes, sym, subst}
use Rattle.std.specs.Str.{chars}
use Rattle.ignore_every.specs.Questions.{IsAsked}
use Rattle.ignore_every.specs.Verdicts.{IsSaid, counted_as, said_verdict}
use Rattle.ignore_every.proofs.lists.Lists.difference.Goals as goal

pub returns-clause-is : goal.returns-clause-is
returns-clause-is c =
    let lists = c.args.self.now in
    let text = c.args.text.now in
    let bytes = string_bytes c.in-Some.path in
    let old = lists.old.now.rules in
    let before = c.in_ok-old.old in
    let after = c.in_ok-new.new in
    let asked : IsAsked false old (chars bytes) =
    subst (λ o. IfSome o (λ p. IsAsked false old (chars (string_bytes p)))) c.in-Some.is c.in_ok-asked.ensures.asked in
    let same : chars bytes ≡ text = subst (λ o. IfSome o (λ p. chars (string_bytes p) ≡ text)) c.in-Some.is c.in_ok-asked.ensures.same in
    let apart : counted_as lists.counted c.verdict.result ≢ counted_as lists.counted c.verdict-2.result = c.is_alike.ensures.no c.if-is_alike.false in
    let first : counted_as lists.counted (said_verdict before) ≢ counted_as lists.counted c.verdict-2.result =
    subst (λ v. counted_as lists.counted v ≢ counted_as lists.counted c.verdict-2.result) c.verdict.ensures apart in
    record {
      clean = asked;
      said_before = subst (λ t. IsSaid old t c.args.is_dir before) (sym same) c.in_ok-old.ensures;
      said_after = subst (λ t. IsSaid lists.new.now.rules t c.args.is_dir after) (sym same) c.in_ok-new.ensures;
      differ = subst (λ v. counted_as lists.counted (said_verdict before) ≢ counted_as lists.counted v) c.verdict-2.ensures first;
    }
