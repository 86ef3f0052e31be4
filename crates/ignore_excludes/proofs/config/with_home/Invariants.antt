use denote.Shadow.{shadow}
use denote.Text.{Utf8}
use Rattle.std.proofs.Common.{◌≡◌, ◌++◌, Some, length, string_bytes}
use Rattle.ignore_excludes.specs.ExcludesSearch.{expanded}
use Rattle.ignore_excludes.proofs.config.with_home.Given as goal

-- what was written, and then what the rest gives
abbrev pub invariant-loop-before : goal.invariant-loop-before
invariant-loop-before l = record {
  written : string_bytes l.text ++ expanded (Some l.home) l.rest ≡ expanded (Some l.home) l.value;
  text : shadow (Utf8 l.rest);
}

abbrev pub decreases-loop-before : goal.decreases-loop-before
decreases-loop-before l = length l.rest
