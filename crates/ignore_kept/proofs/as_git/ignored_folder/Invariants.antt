use Rattle.std.proofs.Common.{◌≡◌, take, drop}
use Rattle.ignore_kept.proofs.AsGit.{ahead}
use Rattle.ignore_kept.specs.AsGit.{first_ignored, folders}
use Rattle.ignore_kept.proofs.as_git.ignored_folder.Given as goal

-- none so far is ignored, so that what comes decides
abbrev pub invariant-loop-byte : goal.invariant-loop-byte
invariant-loop-byte l =
    (l.end ≡ l.byte-index)
    × (first_ignored l.rules.rules (folders l.text) ≡ ahead l.rules.rules (take l.byte-index l.text) (drop l.byte-index l.text))
