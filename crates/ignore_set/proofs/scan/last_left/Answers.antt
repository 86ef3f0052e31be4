use Rattle.std.proofs.Common.{◌≡◌, map, sym, subst, arith}
use Rattle.ignore_set.specs.Others.{IsFoundFrom, IsFoundInTurn}
use Rattle.ignore_set.proofs.OtherLemmas.{bound_all}
use Rattle.ignore_set.proofs.ScanLemmas.{found_count, found_first, found_rest, under_take}
use Rattle.ignore_set.proofs.scan.last_left.Goals as goal

pub returns-then-first-gt0-clause-value : goal.returns-then-first-gt0-clause-value
returns-then-first-gt0-clause-value g c =
    found_first c.args.text.now c.args.is_dir (map g.M.HasPattern.member c.args.members.now) c.args.left.now.needles.now
    c.args.left.now.under.now c.args.best c.in_ok-first.first.after c.in_ok-first.first.left c.requires.candidates
    c.if-first-gt0.true c.in_ok-first.ensures.value

pub returns-then-first-gt0-clause-count : goal.returns-then-first-gt0-clause-count
returns-then-first-gt0-clause-count g c =
    let p = c.in_ok-first.ensures.count in
    omega (arith, p.1, bound_all (map g.M.HasPattern.member c.args.members.now) p.0)

pub last_under-requires : goal.last_under-requires
last_under-requires g c =
    under_take c.args.left.now.under.now (map g.M.HasPattern.member c.args.members.now) c.in_ok-first.first.left c.requires.candidates.under

pub returns-clause-value : goal.returns-clause-value
returns-clause-value g c =
    let ms = map g.M.HasPattern.member c.args.members.now in
    let text = c.args.text.now in
    let others = c.args.left.now.needles.now in
    let under = c.args.left.now.under.now in
    let first = c.in_ok-first.first in
    let none : first.after ≡ 0 = omega (arith, c.if-first-gt0.false) in
    subst (λ n. IsFoundFrom text c.args.is_dir ms c.args.best n) (sym c.max.ensures)
    (found_rest text c.args.is_dir ms others under c.args.best first.left c.in_ok-rest.rest.after c.in_ok-rest.rest.left c.requires.candidates
    (subst (λ a. IsFoundInTurn text c.args.is_dir ms others under c.args.best a first.left) none c.in_ok-first.ensures.value)
    c.in_ok-rest.ensures.value)

pub returns-clause-count : goal.returns-clause-count
returns-clause-count g c =
    let ms = map g.M.HasPattern.member c.args.members.now in
    let first = c.in_ok-first.first in
    let none : first.after ≡ 0 = omega (arith, c.if-first-gt0.false) in
    let p = c.in_ok-first.ensures.count in
    found_count c.args.text.now c.args.is_dir ms c.args.left.now.needles.now c.args.left.now.under.now c.args.best p.0 first.left first.passes
    c.in_ok-rest.rest.passes c.saturating_add.result p.1 (p.2 none) c.in_ok-rest.ensures.count (omega (arith, c.saturating_add.ensures))
