use Rattle.std.proofs.Common.{◌<◌, length, ap, ◌∙◌, arith}
use Rattle.std.proofs.lemmas.Grind.{common_steps}
use Rattle.ignore_glob.specs.ParserSteps.{put_branches}
use Rattle.ignore_glob.proofs.ReadLemmas.{put_branches-push, add_some}
use Rattle.ignore_glob.proofs.glob.read.push_branch.Goals as goal

pub returns-in_ok-push : goal.returns-in_ok-push
returns-in_ok-push c bs =
    let some : 0 < length c.args.tokens.items = grind (arith, common_steps) in
    let old = c.args.branches.now.items in
    ap (λ x. put_branches x bs) c.in_ok-push.ensures.items
    ∙ (put_branches-push old c.args.tokens bs ∙ ap (λ x. put_branches old x) (add_some c.args.tokens.items bs some))
