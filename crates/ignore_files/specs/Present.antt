-- Files that read only what is there.
use Rattle.std.specs.Prelude.{Bool, true, Result, Ok}
use Rattle.ignore_base.specs.Text.{Path}
use Rattle.ignore_files.specs.declared.types.Refusal.{Refusal}
use Rattle.ignore_files.specs.declared.types.Metadata.{Metadata}
use Rattle.ignore_files.specs.declared.types.Contents.{Contents}

-- where contents may be returned, so may what a followed `stat` says
abbrev pub ReadWhatIsThere : (Path → Bool → Result Metadata Refusal → Type 0) → (Path → Result Contents Refusal → Type 0) → Type 0
ReadWhatIsThere stat_gives contents_gives =
    (path : Path) (contents : Contents) → contents_gives path (Ok contents) → (metadata : Metadata) × stat_gives path true (Ok metadata)
