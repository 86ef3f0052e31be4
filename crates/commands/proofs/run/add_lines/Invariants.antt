use Rattle.std.proofs.Common.{◌≡◌, List, ℕ, map, length}
use Rattle.std.specs.Io.KnownBytes.{Appends}
use Rattle.ignore_rules.specs.Rules.{begun}
use Rattle.commands.specs.Matching.{AddsAll}
use Rattle.commands.proofs.run.add_lines.Given as goal

abbrev pub invariant-loop-line : goal.invariant-loop-line
invariant-loop-line g l = record {
  counted : l.number ≡ length l.yielded;
  added : (root : List ℕ) → l.fn.builder ≡ begun root → AddsAll root (map (λ x. x.now) l.yielded) l.builder
      (Appends (g.E.Write.contents l.fn.err) (g.E.Write.contents l.err)) l.refused;
}
