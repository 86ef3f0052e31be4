use Rattle.std.proofs.Common.{None, subst}
use Rattle.ignore_every.specs.Agreement.{AgreesBefore}
use Rattle.ignore_every.specs.Scopes.{scope_of}
use Rattle.ignore_every.specs.Verdicts.{SaySame}
use Rattle.ignore_every.proofs.Agreeing.{same_from}
use Rattle.ignore_every.proofs.lists.Lists.first.Goals as goal

pub returns-in_default : goal.returns-in_default
returns-in_default c =
    let lists = c.args.self.now in
    let over = c.requires in
    let scope = scope_of lists.search in
    let agrees : AgreesBefore lists.counted scope lists.trail.places.items None =
    subst (λ ps. AgreesBefore lists.counted scope ps None) c.as_slice-places.ensures.value
    (c.agrees_before.ensures c.if-not-agrees_before.false) in
    let by_scope : SaySame lists.counted lists.search.left.rules.now lists.search.right.rules.now =
    same_from scope lists.trail.places.items over.sound over.reached over.both lists.counted agrees in
    let by_old : SaySame lists.counted lists.old.now.rules lists.search.right.rules.now =
    subst (λ rs. SaySame lists.counted rs lists.search.right.rules.now) over.old by_scope in
    subst (λ rs. SaySame lists.counted lists.old.now.rules rs) over.new by_old
