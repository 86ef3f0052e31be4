use Rattle.std.proofs.Common.{◌≡◌, length}
use denote.Text.{Utf8}
use denote.Shadow.{shadow}
use Rattle.ignore_base.specs.Paths.{components}
use Rattle.ignore_files.specs.Memory.{node_below}
use Rattle.ignore_files.proofs.memory.canonical_path.place_of.Given as goal

-- what is left of the path leads, from where its prefix led, to where the path leads
abbrev pub invariant-loop-component : goal.invariant-loop-component
invariant-loop-component l = record {
  text : shadow (Utf8 l.rest);
  same : node_below l.nodes l.here (components l.rest) ≡ node_below l.nodes 0 (components l.path);
}

abbrev pub decreases-loop-component : goal.decreases-loop-component
decreases-loop-component l = length l.rest
