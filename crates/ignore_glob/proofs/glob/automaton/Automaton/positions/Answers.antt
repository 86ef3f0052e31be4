use Rattle.std.proofs.Common.{◌≡◌, length, ap, arith}
use Rattle.std.proofs.lemmas.List.{length-map}
use Rattle.ignore_glob.specs.Positions.{positions}
use Rattle.ignore_glob.specs.NodeLists.{node_view}
use Rattle.ignore_glob.specs.Reading.{Reading}
use Rattle.ignore_glob.specs.View.{tokens_view}
use Rattle.ignore_glob.proofs.Numbering.{positions_width}
use Rattle.ignore_glob.proofs.NodeListLemmas.{glob_nodes-length}
use Rattle.ignore_glob.proofs.glob.automaton.Automaton.positions.Goals as goal

pub returns : goal.returns
returns c =
    let nodes = c.self.inside.nodes.items in
    let ts = tokens_view c.self.inside.tokens.items in
    let same : ts ≡ c.args.self.now.tokens = ap (λ (r : Reading). r.tokens) c.self.view_is in
    omega (
      arith,
      c.len.ensures,
      length-map nodes node_view,
      ap length c.self.inside.compiled,
      glob_nodes-length ts,
      positions_width ts,
      ap positions same,
    )
