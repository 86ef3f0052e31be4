use Rattle.std.proofs.Common.{◌≡◌, ◌+◌, ◌*◌, ◌≤◌, length}
use denote.Text.{Utf8}
use denote.Shadow.{shadow}
use Rattle.ignore_base.specs.Paths.{components}
use Rattle.ignore_files.specs.Resolve.{walk}
use Rattle.ignore_files.proofs.memory.resolve.+resolve.Given as goal

abbrev pub decreases-step : goal.decreases-step
decreases-step l = 2 * l.links

abbrev pub decreases-walk : goal.decreases-walk
decreases-walk l = 2 * l.links + 1

-- what is left of the text leads, from where its prefix led, to where the text leads
abbrev pub invariant-walk-loop-component : goal.invariant-walk-loop-component
invariant-walk-loop-component l = record {
  text : shadow (Utf8 l.rest);
  same : walk l.nodes l.follow l.reached.links (components l.rest) l.reached.node
      ≡ walk l.nodes l.follow l.links (components l.text) l.start;
  fewer : l.reached.links ≤ l.links;
}

abbrev pub decreases-walk-loop-component : goal.decreases-walk-loop-component
decreases-walk-loop-component l = length l.rest
