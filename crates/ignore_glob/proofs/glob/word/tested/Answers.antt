use Rattle.std.proofs.Common.{rules, ◌≡◌, ◌<◌, ◌^◌, ℕ, arith, subst}
use Rattle.ignore_glob.specs.Nodes.{Node}
use Rattle.ignore_glob.specs.NodeLists.{node_view, nodes_view}
use Rattle.ignore_glob.specs.Words.{Tests, TestsAt}
use Rattle.ignore_glob.proofs.WordBits.{lowest, lowest_there, dropped_less, dropped_old, found_more, found_same}
use Rattle.ignore_glob.proofs.WordLemmas.{node_at}
use Rattle.ignore_glob.proofs.glob.word.tested.Goals as goal

pub bounds-nodes-p : goal.bounds-nodes-p
bounds-nodes-p c =
    let left = c.loop-left.left in
    let fits : left < 2 ^ 64 = search rules in
    c.requires (lowest left) (c.loop-left.invariant.left (lowest left) (lowest_there left (omega (arith, c.loop-left-test.true)) fits))

pub loop-left-smaller-then-tests : goal.loop-left-smaller-then-tests
loop-left-smaller-then-tests c = dropped_less c.loop-left.left (omega (arith, c.loop-left-test.true)) (search rules)

pub loop-left-smaller : goal.loop-left-smaller
loop-left-smaller c = dropped_less c.loop-left.left (omega (arith, c.loop-left-test.true)) (search rules)

pub loop-left-preserved-then-tests : goal.loop-left-preserved-then-tests
loop-left-preserved-then-tests c =
    let left = c.loop-left.left in
    let some : 0 < left = omega (arith, c.loop-left-test.true) in
    let fits : left < 2 ^ 64 = search rules in
    let there = c.loop-left.invariant.left (lowest left) (lowest_there left some fits) in
    let node = c.index-nodes-p.result in
    let at = node_at c.args.nodes.now (lowest left) node (c.requires (lowest left) there) c.index-nodes-p.is in
    let P : ℕ → Type 0 = λ p. TestsAt c.args.fold (nodes_view c.args.nodes.now) c.args.set c.args.c p in
    record {
      left = λ p h. c.loop-left.invariant.left p (dropped_old left some fits p h);
      found = λ p. found_more left some fits P c.loop-left.found c.loop-left.invariant.found
          (node_view node, there, at, c.tests.ensures.0 c.if-tests.true) p;
    }

pub loop-left-preserved : goal.loop-left-preserved
loop-left-preserved c =
    let left = c.loop-left.left in
    let some : 0 < left = omega (arith, c.loop-left-test.true) in
    let fits : left < 2 ^ 64 = search rules in
    let there = c.loop-left.invariant.left (lowest left) (lowest_there left some fits) in
    let node = c.index-nodes-p.result in
    let at = node_at c.args.nodes.now (lowest left) node (c.requires (lowest left) there) c.index-nodes-p.is in
    let P : ℕ → Type 0 = λ p. TestsAt c.args.fold (nodes_view c.args.nodes.now) c.args.set c.args.c p in
    let fails : P (lowest left) → ⊥ = λ t.
    let same : t.0 ≡ node_view node = cc (at, t.2) in
    let holds = c.tests.ensures.1 (subst (λ (n : Node). Tests c.args.fold n c.args.c) same t.3) in
    absurd (cc (holds, c.if-tests.false)) in
    record {
      left = λ p h. c.loop-left.invariant.left p (dropped_old left some fits p h);
      found = λ p. found_same left some fits P c.loop-left.found c.loop-left.invariant.found fails p;
    }
