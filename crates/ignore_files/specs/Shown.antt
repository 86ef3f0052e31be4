-- What a listing shows of the names in a directory.
use Rattle.std.specs.Prelude.{◌≡◌, true, MatchOption, ⊤}
use Rattle.ignore_base.specs.Text.{Path}
use Rattle.ignore_base.specs.Paths.{join_of}
use Rattle.ignore_files.specs.Tree.{Tree}
use Rattle.ignore_files.specs.Whole.{lacks, is_found, IsAbsent}
use Rattle.ignore_files.specs.declared.shown.Shown.{Shown}

-- in a tree it is so of a directory: nothing is shown, or what the listing lacks is absent
abbrev pub Shows : Tree → Path → Shown → Type 0
Shows tree dir shown =
    MatchOption shown.listing ⊤ (λ listing. (name : Path) → lacks listing.now name ≡ true → IsAbsent (is_found tree) (join_of dir name))
