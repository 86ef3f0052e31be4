-- What files read is there.
use Rattle.std.proofs.Common.{◌≡◌, true, is_ok, Ok, Err, refl, ap}
use Rattle.ignore_base.specs.Text.{Path}
use Rattle.ignore_files.specs.Disk.{GivesStat, GivesContents}
use Rattle.ignore_files.specs.Gives.{IsHonest}
use Rattle.ignore_files.specs.Present.{ReadWhatIsThere}
use Rattle.ignore_files.specs.Tree.{Tree}
use Rattle.ignore_files.specs.Whole.{is_found}
use Rattle.ignore_files.specs.declared.files.Files.{Ghosts as FilesGhosts}
use Rattle.ignore_files.specs.declared.machine.Machine.{Ghosts}
use Rattle.ignore_files.specs.declared.types.Contents.{Contents}

-- the files of a machine open what `stat` was asked about before
pub stat_first : {R M E D F : Type 0} (machine : Ghosts R M E D F) (r : R)
    → ReadWhatIsThere (GivesStat machine r) (GivesContents machine r)
stat_first machine r path contents (Ok stat, heard, at) = (stat.metadata, (Ok stat, heard, refl))
stat_first machine r path contents (Err refusal, heard, at) = absurd (cc (at))

-- what files return that read only what is there is found in each tree with which they are consistent
pub found_where_read : {F : Type 0} (files : FilesGhosts F) (f : F) (tree : Tree) → IsHonest files f tree
    → ReadWhatIsThere (files.stat_gives f) (files.contents_gives f) → (path : Path) (contents : Contents)
    → files.contents_gives f path (Ok contents) → is_found tree path ≡ true
found_where_read files f tree honest reads path contents given =
    let stat = reads path contents given in
    ap is_ok (honest.stat path true (Ok stat.0) stat.1)
