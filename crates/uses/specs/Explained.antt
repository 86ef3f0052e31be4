-- Why a file is left out.
use Rattle.std.specs.Prelude.{false, Option, None, Some, if◌then◌else◌}
use Rattle.ignore.specs.Words.{Bytes, Path}
use Rattle.ignore.specs.WalkWords.{QueryScene, does_ignore, query, query_why, query_why_text}

-- the text of the reason of a file that a matcher ignores
abbrev pub left_out : QueryScene → Path → Option Bytes
left_out g path = if does_ignore (query g path false).0.verdict then Some (query_why_text (query_why g path false)) else None
