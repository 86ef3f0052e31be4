-- Values of a type with `Files` that are consistent with a tree.
use Rattle.std.specs.Prelude.{Bool, List, Result, Option}
use Rattle.ignore_base.specs.Text.{Path}
use Rattle.ignore_files.specs.Tree.{Tree, Answers}
use Rattle.ignore_files.specs.declared.types.Refusal.{Refusal}
use Rattle.ignore_files.specs.declared.types.Metadata.{Metadata}
use Rattle.ignore_files.specs.declared.types.Listed.{Listed}
use Rattle.ignore_files.specs.declared.types.Contents.{Contents}
use Rattle.ignore_files.specs.declared.types.Identity.{Identity}
use Rattle.ignore_files.specs.declared.files.Files.{Ghosts}

-- the value is consistent with the tree: each answer that it may give, other than out of memory, is
-- the tree's
pub record IsHonest {F : Type 0} (files : Ghosts F) (f : F) (tree : Tree) : Type 0 where
  pub stat : (p : Path) (follow : Bool) (r : Result Metadata Refusal) → files.stat_gives f p follow r → Answers (tree.stat p follow) r
  pub list : (p : Path) (r : Result (List Listed) Refusal) → files.list_gives f p r → Answers (tree.list p) r
  pub contents : (p : Path) (r : Result Contents Refusal) → files.contents_gives f p r → Answers (tree.contents p) r
  pub canonical : (p : Path) (r : Result Path Refusal) → files.canonical_gives f p r → Answers (tree.canonical p) r
  pub identity : (p : Path) (follow : Bool) (r : Result (Option Identity) Refusal) → files.identity_gives f p follow r
      → Answers (tree.identity p follow) r
