use Rattle.std.proofs.Common.{◌≡◌, ◌++◌, map, drop}
use Rattle.std.specs.List.{filter}
use Rattle.uses.specs.Questions.{is_packed}
use Rattle.uses.proofs.packer.packed.Given as goal

-- what was taken, and what is taken of the paths that are left, is all that is taken
abbrev pub invariant-loop-path : goal.invariant-loop-path
invariant-loop-path l =
    map (λ p. p.now) l.all.items ++ filter (λ p. is_packed l.rules p) (map (λ p. p.now) (drop l.path-index l.paths))
    ≡ filter (λ p. is_packed l.rules p) (map (λ p. p.now) l.paths)
