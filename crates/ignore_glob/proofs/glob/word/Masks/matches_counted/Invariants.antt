use Rattle.std.proofs.Common.{◌≡◌, ◌-◌, ◌^◌, ◌↔◌, ℕ, length, min}
use Rattle.std.specs.Str.{chars}
use Rattle.ignore_glob.specs.Nodes.{Marked}
use Rattle.ignore_glob.specs.Flags.{Count}
use Rattle.ignore_glob.specs.NodeLists.{nodes_view}
use Rattle.ignore_glob.specs.Words.{Has}
use Rattle.ignore_glob.proofs.glob.word.Masks.matches_counted.Given as goal

abbrev pub invariant-loop-c : goal.invariant-loop-c
invariant-loop-c l = record {
  continues : (goal.iterator-loop-c).can_next l.c-iterator × (goal.iterator-loop-c).is_finite l.c-iterator;
  marks : (q : ℕ) → Has l.here q ↔ Marked l.fold (nodes_view l.nodes) (chars l.text) (length l.yielded) q;
  count : (n : ℕ) × Count l.fold (nodes_view l.nodes) (chars l.text) (length l.yielded) n × (l.count ≡ min n (2 ^ 64 - 1));
}
