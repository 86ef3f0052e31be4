use Rattle.ignore_glob.specs.Nodes.{SteppedTo}
use Rattle.ignore_glob.specs.NodeLists.{nodes_view}
use Rattle.ignore_glob.specs.Words.{Has}
use Rattle.ignore_glob.proofs.Closing.{Reached-mono}
use Rattle.ignore_glob.proofs.WordLemmas.{free_small, start_small}
use Rattle.ignore_glob.proofs.WordClosing.{closed_reached, reached_closed}
use Rattle.ignore_glob.proofs.glob.word.Masks.advance.Goals as goal

pub close-requires-clause-free : goal.close-requires-clause-free
close-requires-clause-free c = free_small (nodes_view c.args.nodes.now) c.args.self c.requires.word

pub close-requires-clause-starts : goal.close-requires-clause-starts
close-requires-clause-starts c = start_small (nodes_view c.args.nodes.now) c.args.self c.requires.word

pub returns : goal.returns
returns c = λ q.
    let nodes = nodes_view c.args.nodes.now in
    let m = c.args.self in
    let stepped = c.step.result in (
      (λ h. Reached-mono nodes (Has stepped) (SteppedTo c.args.fold nodes (Has c.args.set) c.args.c) (λ p s. (c.step.ensures p).0 s) q
          (closed_reached nodes m c.requires.word stepped q ((c.close.ensures q).0 h))),
      (λ r. (c.close.ensures q).1 (reached_closed nodes m c.requires.word stepped q
          (Reached-mono nodes (SteppedTo c.args.fold nodes (Has c.args.set) c.args.c) (Has stepped) (λ p s. (c.step.ensures p).1 s) q r))),
    )
