-- What was found by the code where a thing was listed, or at a root.
use Rattle.std.specs.Prelude.{◌≡◌, ℕ, Bool, true, List, Option, None, Result, Ok, Err}
use Rattle.ignore_base.specs.Problem.{Problem, problem_of}
use Rattle.ignore_base.specs.Text.{Path}
use Rattle.ignore_base.specs.declared.error.Error.{Error}
use Rattle.ignore_files.specs.Memory.{and_then}
use Rattle.ignore_walk.specs.Branch.{Branch, path_of}
use Rattle.ignore_walk.specs.Child.{is_dir_kind, with_device, without_loop}
use Rattle.ignore_walk.specs.Entry.{Entry, entry_of, problem_in}
use Rattle.ignore_walk.specs.Frames.{device_of}
use Rattle.ignore_walk.specs.Scene.{Scene}
use Rattle.ignore_walk.specs.declared.found.Found.{Found}

-- an entry has to pass the tests of a loop, by the directories that were entered, and of its device
abbrev pub tests : Scene → List Path → Entry → Result Entry Problem
tests g ancestors e = and_then (λ (x : Entry). with_device g (is_dir_kind x.kind) x) (without_loop g.tree ancestors e)

-- an entry passed, and the device of a directory is known as far as it matters; or an error stands
-- in its place
abbrev pub IsTested : Scene → Result Entry Problem → Bool → Entry → Result (Option ℕ) Error → Type 0
IsTested g r is_dir e (Ok device) = (r ≡ Ok e) × (is_dir ≡ true → device ≡ device_of g e.path)
IsTested g r is_dir e (Err error) = r ≡ Err (problem_of error)

-- an entry was found without an error, and the device of a directory is known as far as it matters;
-- or an error was found in its place
abbrev pub IsFound : Scene → (Entry → Bool) → Result Found Error → Result Entry Problem → Type 0
IsFound g is_dir (Ok f) r =
    (r ≡ Ok (entry_of f.entry)) × (problem_in f.entry ≡ None)
    × (is_dir (entry_of f.entry) ≡ true → f.device ≡ device_of g (entry_of f.entry).path)
IsFound g is_dir (Err error) r = r ≡ Err (problem_of error)

-- what was found stands at a place below a root
pub record IsFoundAt (g : Scene) (root : Path) (b : Branch) (f : Found) : Type 0 where
  pub path : (entry_of f.entry).path ≡ path_of root b
  pub sound : problem_in f.entry ≡ None
  pub device : is_dir_kind (entry_of f.entry).kind ≡ true → f.device ≡ device_of g (entry_of f.entry).path
