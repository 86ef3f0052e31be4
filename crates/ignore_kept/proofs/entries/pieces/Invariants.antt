use denote.Shadow.{shadow}
use denote.Text.{Utf8}
use Rattle.std.proofs.Common.{◌≡◌, ◌++◌, length, map}
use Rattle.ignore_kept.specs.Listings.{pieces}
use Rattle.ignore_kept.proofs.entries.pieces.Given as goal

-- the pieces so far, and those of the rest, are the pieces of the text
abbrev pub invariant-loop-piece : goal.invariant-loop-piece
invariant-loop-piece l = record {
  so : pieces l.text ≡ map (λ p. p.now) l.all.items ++ pieces l.rest;
  text : shadow (Utf8 l.rest);
}

abbrev pub decreases-loop-piece : goal.decreases-loop-piece
decreases-loop-piece l = length l.rest
