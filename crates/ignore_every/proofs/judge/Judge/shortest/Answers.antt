use Rattle.std.proofs.Common.{None, subst}
use Rattle.ignore_every.specs.Findings.{DecidesNever, MissesBefore}
use Rattle.ignore_every.specs.Rows.{table_of}
use Rattle.ignore_every.specs.Scopes.{scope_of}
use Rattle.ignore_every.proofs.Missing.{never_from}
use Rattle.ignore_every.proofs.judge.Judge.shortest.Goals as goal

pub returns-in_default : goal.returns-in_default
returns-in_default c =
    let judge = c.args.self.now in
    let table = table_of judge.search.left.rows.now in
    let sound = c.requires in
    let misses : MissesBefore table judge.trail.places.items c.args.index None =
    subst (λ ps. MissesBefore table ps c.args.index None) c.deref.ensures.value (c.all_miss.ensures c.if-not-all_miss.false) in
    let never : DecidesNever judge.search.reached judge.search.left.rules.now c.args.index =
    never_from (scope_of judge.search) judge.trail.places.items sound.sound c.args.index misses in
    subst (λ rs. DecidesNever judge.search.reached rs c.args.index) sound.same never
