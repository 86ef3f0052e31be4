-- The words of clauses on trees of files, in one place.
pub use Rattle.ignore_files.specs.Answers.{tree_of}
pub use Rattle.ignore_files.specs.Dirs.{IsNumbered}
pub use Rattle.ignore_files.specs.Gives.{IsHonest}
pub use Rattle.ignore_files.specs.Kinds.{is_dir, is_file, is_symlink}
pub use Rattle.ignore_files.specs.Memory.{dir_count}
pub use Rattle.ignore_files.specs.Tree.{Answers, Tree}
pub use Rattle.ignore_files.specs.Disk.{machine_of, tree_on}
pub use Rattle.ignore_files.specs.Machine.{Disk, IsTruthful}
pub use Rattle.ignore_files.specs.Table.{disk_of}
pub use Rattle.ignore_files.specs.declared.env.Env.{Env}
pub use Rattle.ignore_files.specs.declared.files.Files.{Ghosts as Files}
pub use Rattle.ignore_files.specs.declared.types.Contents.{Contents}
pub use Rattle.ignore_files.specs.declared.types.FileType.{FileType}
pub use Rattle.ignore_files.specs.declared.types.Refusal.{Refusal}
pub use Rattle.ignore_files.specs.declared.types.Refusal.TheVariants.{Fault, Memory}
pub use Rattle.ignore_files.specs.Changes.{Leaves, LeavesIfRoom, MakesIfRoom, contents_cut, dir_added, file_added, identity_set}
pub use Rattle.ignore_files.specs.Changes.{link_added, list_faulted, made, nameless_added, size_set, stat_faulted}
pub use Rattle.ignore_files.specs.Heard.{AreReported, HasWhole}
pub use Rattle.ignore_files.specs.Present.{ReadWhatIsThere}
pub use Rattle.ignore_files.specs.Removed.{file_written, removed}
pub use Rattle.ignore_files.specs.Variables.{IsToldBy}
pub use Rattle.ignore_files.specs.Whole.{AreWhole}
