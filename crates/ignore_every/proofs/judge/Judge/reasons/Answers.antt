use Rattle.std.proofs.Common.{subst}
use Rattle.ignore_every.specs.Findings.{HasAllReasons}
use Rattle.ignore_every.proofs.judge.Judge.reasons.Goals as goal

pub returns : goal.returns
returns c =
    record {
      each = c.in_ok-named.ensures;
      all = subst (λ ns. HasAllReasons c.args.self.now.rules.now.rules c.args.index ns) c.deref.ensures.value
          (c.are_all.ensures c.if-not-are_all.false);
    }
