-- From a root to its entry.
use Rattle.std.proofs.Common.{◌≡◌, Bool, true, false, List, ℕ, refl}
use Rattle.ignore_files.specs.Memory.{and_then}
use Rattle.ignore_dir.specs.Query.{is_dir_there}
use Rattle.ignore_walk.specs.Child.{or_failed, with_device}
use Rattle.ignore_walk.specs.Scene.{Scene}
use Rattle.ignore_walk.specs.Whole.{root_entry, root_of}

pub root_entry-is : (g : Scene) (root : List ℕ) (is_dir : Bool) → is_dir ≡ is_dir_there (g.tree.stat root true)
    → and_then (with_device g is_dir) (or_failed root 0 (root_of g root) (g.tree.stat root false)) ≡ root_entry g root
unfolding root_entry
root_entry-is g root is_dir h = rw h refl
