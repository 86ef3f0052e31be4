use Rattle.std.proofs.Common.{◌≡◌, take, string_bytes}
use Rattle.std.specs.Str.{chars}
use Rattle.ignore_every.proofs.Walks.{Walked}
use Rattle.ignore_every.proofs.asked.asked_path.Given as goal

-- the path so far is walked, and is what came before in the text
abbrev pub invariant-loop-c : goal.invariant-loop-c
invariant-loop-c l = record {
  walked : Walked l.reached l.rules.rules (chars (string_bytes l.path)) l.name;
  same : chars (string_bytes l.path) ≡ take l.c-index l.text;
}
