use Rattle.std.proofs.Common.{drop, arith, ap, sym, ◌∙◌}
use Rattle.ignore_glob.specs.NodeLists.{node_view, nodes_view}
use Rattle.ignore_glob.specs.Words.{is_tested, is_star, is_inside, is_by_slash, is_middle, is_free, is_start, masks}
use Rattle.ignore_glob.specs.declared.glob.word.Masks.{Masks}
use Rattle.ignore_glob.proofs.WordLemmas.{mask_pair, masks_more, drop_short, nodes_drop_before}
use Rattle.ignore_glob.proofs.glob.word.masks_of.Goals as goal

pub after-masks-requires-clause-tested : goal.after-masks-requires-clause-tested
after-masks-requires-clause-tested c =
    mask_pair is_tested (node_view c.index-nodes-p.result) (drop c.loop-p.p (nodes_view c.args.nodes.now)) _ _
    (ap (λ (m : Masks). m.tested) c.of.ensures) (ap (λ (m : Masks). m.tested) c.loop-p.invariant.rest)
    (drop_short c.args.nodes.now c.loop-p.p c.requires)

pub after-masks-requires-clause-stars : goal.after-masks-requires-clause-stars
after-masks-requires-clause-stars c =
    mask_pair is_star (node_view c.index-nodes-p.result) (drop c.loop-p.p (nodes_view c.args.nodes.now)) _ _
    (ap (λ (m : Masks). m.stars) c.of.ensures) (ap (λ (m : Masks). m.stars) c.loop-p.invariant.rest)
    (drop_short c.args.nodes.now c.loop-p.p c.requires)

pub after-masks-requires-clause-insides : goal.after-masks-requires-clause-insides
after-masks-requires-clause-insides c =
    mask_pair is_inside (node_view c.index-nodes-p.result) (drop c.loop-p.p (nodes_view c.args.nodes.now)) _ _
    (ap (λ (m : Masks). m.insides) c.of.ensures) (ap (λ (m : Masks). m.insides) c.loop-p.invariant.rest)
    (drop_short c.args.nodes.now c.loop-p.p c.requires)

pub after-masks-requires-clause-by_slash : goal.after-masks-requires-clause-by_slash
after-masks-requires-clause-by_slash c =
    mask_pair is_by_slash (node_view c.index-nodes-p.result) (drop c.loop-p.p (nodes_view c.args.nodes.now)) _ _
    (ap (λ (m : Masks). m.by_slash) c.of.ensures) (ap (λ (m : Masks). m.by_slash) c.loop-p.invariant.rest)
    (drop_short c.args.nodes.now c.loop-p.p c.requires)

pub after-masks-requires-clause-middles : goal.after-masks-requires-clause-middles
after-masks-requires-clause-middles c =
    mask_pair is_middle (node_view c.index-nodes-p.result) (drop c.loop-p.p (nodes_view c.args.nodes.now)) _ _
    (ap (λ (m : Masks). m.middles) c.of.ensures) (ap (λ (m : Masks). m.middles) c.loop-p.invariant.rest)
    (drop_short c.args.nodes.now c.loop-p.p c.requires)

pub after-masks-requires-clause-free : goal.after-masks-requires-clause-free
after-masks-requires-clause-free c =
    mask_pair is_free (node_view c.index-nodes-p.result) (drop c.loop-p.p (nodes_view c.args.nodes.now)) _ _
    (ap (λ (m : Masks). m.free) c.of.ensures) (ap (λ (m : Masks). m.free) c.loop-p.invariant.rest)
    (drop_short c.args.nodes.now c.loop-p.p c.requires)

pub after-masks-requires-clause-starts : goal.after-masks-requires-clause-starts
after-masks-requires-clause-starts c =
    mask_pair is_start (node_view c.index-nodes-p.result) (drop c.loop-p.p (nodes_view c.args.nodes.now)) _ _
    (ap (λ (m : Masks). m.starts) c.of.ensures) (ap (λ (m : Masks). m.starts) c.loop-p.invariant.rest)
    (drop_short c.args.nodes.now c.loop-p.p c.requires)

pub loop-p-preserved : goal.loop-p-preserved
loop-p-preserved c =
    let nodes = c.args.nodes.now in
    let node = c.index-nodes-p.result in
    let cut = nodes_drop_before nodes c.loop-p.p node (omega (arith, c.loop-p-test.true)) c.loop-p.invariant.within c.index-nodes-p.is in
    record {
      within = omega (arith, c.loop-p.invariant.within);
      rest =
          c.after-masks.ensures ∙ (masks_more c.of.result c.loop-p.masks (node_view node) (drop c.loop-p.p (nodes_view nodes)) c.of.ensures
          c.loop-p.invariant.rest ∙ ap masks (sym cut));
    }
