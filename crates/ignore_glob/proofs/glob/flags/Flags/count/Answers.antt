use Rattle.std.proofs.Common.{◌≤◌, arith, ◌∙◌, sym}
use Rattle.ignore_glob.proofs.FlagLemmas.{count_after, count_before}
use Rattle.ignore_glob.proofs.glob.flags.Flags.count.Goals as goal

pub loop-p-init : goal.loop-p-init
loop-p-init c =
    let within = c.args.self.now.within in
    (sym (count_after c.args.self.now.all.items c.args.self.now.low (λ q f. (within q f).0)), omega arith)

pub returns : goal.returns
returns c =
    let within = c.args.self.now.within in
    let past : c.args.self.now.high ≤ c.loop-p.p = omega (arith, c.loop-p-test.false) in
    c.loop-p.invariant.0 ∙ count_before c.args.self.now.all.items c.loop-p.p (λ q f. let n = (within q f).1 in omega (arith, n, past))
