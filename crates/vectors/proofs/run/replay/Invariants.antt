-- However the lines that are left are counted, all are counted so.
use Rattle.std.proofs.Common.{ℕ, ◌+◌, ◌==◌, length, option_map, unwrap_or, Bor, List}
use Rattle.std.specs.List.{slice_split}
use Rattle.vectors.specs.Lines.{CountsLines, lines_left}
use Rattle.vectors.specs.Tallies.{Counts}
use Rattle.vectors.proofs.run.replay.Given as goal

abbrev pub invariant-loop-rest : goal.invariant-loop-rest
invariant-loop-rest g l =
    (c : Counts) → CountsLines (g.K.Kinds.gives l.kinds) (g.K.Kinds.waits l.kinds)
    (lines_left (option_map (λ (r : Bor (List ℕ)). r.now) l.rest)) l.tally c
    → CountsLines (g.K.Kinds.gives l.kinds) (g.K.Kinds.waits l.kinds) (slice_split (λ b. b == 10) l.file.bytes.now) l.fn.tally c

abbrev pub decreases-loop-rest : goal.decreases-loop-rest
decreases-loop-rest g l = unwrap_or (option_map (λ (r : Bor (List ℕ)). length r.now + 1) l.rest) 0
