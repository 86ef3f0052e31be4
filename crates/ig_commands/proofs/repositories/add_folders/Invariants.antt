use Rattle.std.proofs.Common.{◌≡◌, ◌++◌, take}
use Rattle.std.specs.List.{flat_map}
use Rattle.ig_commands.specs.Repositories.{folder_at}
use Rattle.ig_commands.proofs.repositories.add_folders.Given as goal

-- the folders so far were added
abbrev pub invariant-loop-listed : goal.invariant-loop-listed
invariant-loop-listed l =
    l.waiting.items ≡ l.fn.waiting.items ++ flat_map (folder_at l.dir) (take l.listed-index l.listing)
