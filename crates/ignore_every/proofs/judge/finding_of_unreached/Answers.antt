use Rattle.std.proofs.Common.{true, false, IfSome, sym, subst}
use Rattle.ignore_every.specs.Findings.{DecidesNever, IsRightFinding}
use Rattle.ignore_every.specs.Sound.{IsOver}
use Rattle.ignore_every.proofs.judge.finding_of_unreached.Goals as goal

pub returns-in_ok-finding-in-Some : goal.returns-in_ok-finding-in-Some
returns-in_ok-finding-in-Some c = λ never.
    let rules = c.args.reached.now.rules.now.rules in
    let index = c.args.index in
    let over : IsOver false rules c.in-Some.judge.now = subst (λ o. IfSome o (λ other. IsOver false rules other.now)) c.in-Some.is c.requires in
    subst (λ rs. IsRightFinding rs index c.in_ok-finding-in-Some.finding) over.own
    (c.in_ok-finding-in-Some.ensures (subst (λ rs. DecidesNever true rs index) (sym over.own) never))

pub returns-in-None : goal.returns-in-None
returns-in-None c = λ never. never
