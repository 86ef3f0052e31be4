-- The answer of the rules one name at a time.
use Rattle.std.specs.Prelude.{Bool, true, List, [], ◌∷◌, ◌++◌, length, reverse, Option, if◌then◌else◌}
use Rattle.ignore_base.specs.Text.{Bytes, Path}
use Rattle.ignore_base.specs.Paths.{join_of}
use Rattle.ignore_base.specs.Problem.{Problem}
use Rattle.ignore_dir.specs.declared.outside.Outside.{Outside}
use Rattle.ignore_dir.specs.declared.settings.Settings.{Settings}
use Rattle.ignore_dir.specs.declared.verdict.Verdict.{Verdict}
use Rattle.ignore_dir.specs.declared.verdict.Verdict.TheVariants.{None, Ignore}
use Rattle.ignore_dir.specs.Above.{directories_along, dirs_above, path_along, paths_above}
use Rattle.ignore_dir.specs.Chains.{placed_along, slashed}
use Rattle.ignore_dir.specs.Lists.{Placed}
use Rattle.ignore_dir.specs.Load.{Loaded}
use Rattle.ignore_dir.specs.Scene.{QueryScene, dirs_at, names_to}
use Rattle.ignore_dir.specs.Verdict.{is_ignore, placed_verdict}

-- how far a query has come: the chain of directories, the text that they are asked about, and the
-- path
pub record Reached : Type 0 where
  pub chain : List Placed
  pub text : Path
  pub path : Path

-- what is reached in the directory with these names below the root, with all on the way loaded
abbrev pub reached_in : QueryScene → List Bytes → Reached
reached_in g front =
    let above = dirs_above g.loads g.settings (paths_above g.tree g.settings g.root) in
    let below = dirs_at g.loads (directories_along g.root front ++ path_along g.root front ∷ []) in
    record {
      chain = reverse (placed_along 1 (above ++ below) (names_to g front));
      text = 47 ∷ slashed (names_to g front);
      path = path_along g.root front;
    }

-- in a directory, its entry of this name
abbrev pub entry : Reached → Bytes → Reached
entry at name = record { chain = at.chain; text = at.text ++ name; path = join_of at.path name }

-- in a directory that is an entry, loaded: it is the nearest, and a slash follows in the text
abbrev pub entered : (Path → Loaded) → Reached → Reached
entered loads at =
    record { chain = ((loads at.path).0, length (at.text ++ 47 ∷ [])) ∷ at.chain; text = at.text ++ 47 ∷ []; path = at.path }

-- the verdict on what is reached
abbrev pub verdict_at : Settings → Outside → Reached → Bool → Verdict
verdict_at s outside at is_dir = placed_verdict s outside at.chain at.text at.path is_dir

-- what the rules say of the path some names below a directory: a directory on the way that is
-- ignored ends it, and any other is loaded
unfoldable pub verdict_from : (Path → Loaded) → Settings → Outside → Bool → Reached → List Bytes → Verdict
verdict_from loads s outside is_dir at [] = None
verdict_from loads s outside is_dir at (n ∷ []) = verdict_at s outside (entry at n) is_dir
verdict_from loads s outside is_dir at (n ∷ m ∷ ms) =
    if is_ignore (verdict_at s outside (entry at n) true) then Ignore
    else verdict_from loads s outside is_dir (entered loads (entry at n)) (m ∷ ms)

-- the problems of the directories that are loaded on this way, if any
unfoldable pub problems_from : (Path → Loaded) → Settings → Outside → Reached → List Bytes → List (Option Problem)
problems_from loads s outside at [] = []
problems_from loads s outside at (n ∷ []) = []
problems_from loads s outside at (n ∷ m ∷ ms) =
    if is_ignore (verdict_at s outside (entry at n) true) then []
    else (loads (entry at n).path).1 ∷ problems_from loads s outside (entered loads (entry at n)) (m ∷ ms)
