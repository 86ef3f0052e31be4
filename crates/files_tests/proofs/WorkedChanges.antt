-- Worked examples of a tree in memory after a node is removed, or a file is written anew.
use Rattle.std.proofs.Common.{◌≡◌, ℕ, List, Option, Some, None, Result, Ok, Err, codes, refl}
use Rattle.std.specs.Prelude.{slice_get}
use Rattle.std.specs.Option.{option_map}
use Rattle.ignore_files.specs.Changes.{root_alone, file_added}
use Rattle.ignore_files.specs.Memory.{Memory, and_then, child}
use Rattle.ignore_files.specs.Removed.{file_written, removed}
use Rattle.ignore_files.specs.declared.tree_error.TreeError.{TreeError}
use Rattle.ignore_files.specs.declared.tree_error.TreeError.TheVariants as refusal

-- `/` and in it a file `a` with the byte `x`
abbrev with_a : Result Memory TreeError
with_a = file_added (codes "x") (root_alone (codes "/")) (codes "/a")

-- the place of the node `/a`, if there is one
abbrev place_of_a : Memory → Result (Option ℕ) TreeError
place_of_a tree = Ok (child tree.nodes 0 (codes "a"))

-- the size of the second node
abbrev second_size : Memory → Result (Option ℕ) TreeError
second_size tree = Ok (option_map (λ n. n.len) (slice_get tree.nodes 1))

-- the tree without what was at a path
abbrev without_path : List ℕ → Result Memory TreeError
without_path path = and_then (λ tree. removed tree path) with_a

-- the file has place 1, and none once it is removed
removed_file : (and_then place_of_a with_a ≡ Ok (Some 1)) × (and_then place_of_a (without_path (codes "/a")) ≡ Ok None)
removed_file = (refl, refl)

-- what isn't there can't be removed, nor can `/`, nor what a path leads to that isn't canonical
not_removed : (without_path (codes "/b") ≡ Err refusal.Missing) × (without_path (codes "/") ≡ Err refusal.Missing)
    × (without_path (codes "/a/") ≡ Err refusal.NotClean)
not_removed = (refl, refl, refl)

-- a file that is written anew has the number of its bytes as its size
written_size : (and_then second_size with_a ≡ Ok (Some 1))
    × (and_then second_size (and_then (λ tree. file_written (codes "xyz") tree (codes "/a")) with_a) ≡ Ok (Some 3))
written_size = (refl, refl)
