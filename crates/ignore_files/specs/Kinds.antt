-- Tests of the type of a file.
use Rattle.std.specs.Prelude.{Bool, true, false}
use Rattle.ignore_files.specs.declared.types.FileType.{FileType}
use Rattle.ignore_files.specs.declared.types.FileType.TheVariants.{File, Dir, Symlink}

-- it is a file
abbrev pub is_file : FileType → Bool
is_file File = true
is_file _ = false

-- it is a directory
abbrev pub is_dir : FileType → Bool
is_dir Dir = true
is_dir _ = false

-- it is a link
abbrev pub is_symlink : FileType → Bool
is_symlink Symlink = true
is_symlink _ = false
