-- Trees with so many directories.
use Rattle.std.specs.Prelude.{◌≡◌, ℕ, ◌<◌, true, false, List, Contains, Ok}
use Rattle.ignore_base.specs.Text.{Path}
use Rattle.ignore_base.specs.Paths.{has_slash, is_proper, join_of}
use Rattle.ignore_files.specs.Kinds.{is_dir}
use Rattle.ignore_files.specs.Tree.{Tree}
use Rattle.ignore_files.specs.declared.types.FileType.TheVariants.{Dir}
use Rattle.ignore_files.specs.declared.types.Listed.{Listed}
use Rattle.ignore_files.specs.declared.types.Listed.TheVariants.{Entry}
use Rattle.ignore_files.specs.declared.types.Metadata.{Metadata}

-- a tree has at most n directories: they have numbers below n, and a listed one has a greater
-- number than the directory that lists it. A path has the number of the directory to which it
-- leads, and paths with one number have one identity
pub record IsNumbered (tree : Tree) (n : ℕ) : Type 0 where
  pub number : Path → ℕ
  pub found : (path : Path) (m : Metadata) → tree.stat path true ≡ Ok m → is_dir m.file_type ≡ true → number path < n
  pub listing : (path : Path) (xs : List Listed) → tree.list path ≡ Ok xs → number path < n
  pub listed : (path name : Path) (xs : List Listed) → tree.list path ≡ Ok xs → Contains xs (Entry name Dir)
      → is_proper name ≡ true → has_slash name ≡ false
      → (number path < number (join_of path name)) × (number (join_of path name) < n)
  pub one : (a b : Path) → number a < n → number b ≡ number a → tree.identity b true ≡ tree.identity a true
