use Rattle.std.proofs.Common.{◌≡◌, take, string_bytes}
use Rattle.std.specs.Str.{chars}
use Rattle.ignore_every.specs.Questions.{HasNoIgnoredAncestor}
use Rattle.ignore_every.proofs.decided.folder_on.Given as goal

-- the folder so far is what came before in the text, and no folder on its way is ignored
abbrev pub invariant-loop-c : goal.invariant-loop-c
invariant-loop-c l =
    (chars (string_bytes l.folder) ≡ take l.c-index l.text) × HasNoIgnoredAncestor l.rules (chars (string_bytes l.folder))
