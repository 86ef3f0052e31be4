use Rattle.std.proofs.Common.{◌≡◌, ℕ, List, map, subst}
use Rattle.ignore_every.specs.Findings.{IsRightFinding}
use Rattle.ig_every.specs.Judged.{line_in}
use Rattle.ig_every.proofs.JudgeLemmas.{is_overruled}
use Rattle.ig_every.proofs.dead.found_wrong.Goals as goal

-- it decides in ignored folders alone
pub returns-in_ok-hidden-in-DeadByFolders : goal.returns-in_ok-hidden-in-DeadByFolders
returns-in_ok-hidden-in-DeadByFolders c = λ text.
    let right = subst (IsRightFinding c.args.rules.now c.args.index) c.in-DeadByFolders.is c.requires.right in
    c.in_ok-hidden-in-DeadByFolders.ensures c.args.index text right.0 right.1

-- the rules that are named overrule it
pub returns-in_ok-lines_of-in-Overruled : goal.returns-in_ok-lines_of-in-Overruled
returns-in_ok-lines_of-in-Overruled c = λ text.
    let right = subst (IsRightFinding c.args.rules.now c.args.index) c.in-Overruled.is c.requires.right in
    let lines = c.in_ok-lines_of-in-Overruled.field-0.items in
    c.overruled.ensures c.args.rules.now c.args.index text
    (is_overruled c.args.rules.now c.args.index c.in-Overruled.named.items lines right.0 right.1
    (subst (λ (xs : List ℕ). lines ≡ map (line_in c.args.rules.now) xs) c.deref.ensures.value c.in_ok-lines_of-in-Overruled.ensures))
