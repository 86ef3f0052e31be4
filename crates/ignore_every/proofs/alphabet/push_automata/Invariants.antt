use Rattle.std.proofs.Common.{◌≡◌, ◌++◌, map, take}
use Rattle.ignore_rules.specs.Rules.{Rule}
use Rattle.ignore_every.proofs.alphabet.push_automata.Given as goal

-- the automata of the rules before are added
abbrev pub invariant-loop-rule : goal.invariant-loop-rule
invariant-loop-rule l = l.automata.items ≡ l.initial.automata.items ++ map (λ (rule : Rule). rule.reading) (take l.rule-index l.rules)
