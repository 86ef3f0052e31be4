-- Where the directories that were entered stand in the list of directories.
use Rattle.std.specs.Prelude.{List, [], ◌∷◌, Option, take}
use Rattle.ignore_base.specs.Text.{Path}
use Rattle.ignore_levels.specs.declared.list.Place.{Place}
use Rattle.ignore_levels.specs.declared.list.Slot.{Slot}
use Rattle.ignore_levels.specs.Levels.{IsChain, counting}
use Rattle.ignore_walk.specs.Branch.{Branch, around, placed_to}
use Rattle.ignore_walk.specs.Scene.{Scene}
use Rattle.ignore_walk.specs.Shared.{AreShared}
use Rattle.ignore_walk.specs.declared.above.Seen.{Seen}
use Rattle.ignore_walk.specs.declared.frame.Frame.{Frame}

-- what stands for the directories around the next one to be entered: the place of the innermost
-- frame; where there is none, of the directories above the root
abbrev pub place_around : Option Place → List Frame → Option Place
place_around above [] = above
place_around above (f ∷ fs) = f.place

-- frames, the innermost first, have their places in a list of directories: that of the first stands
-- for what counts of the directories at and above it, and the list as long as it was before has
-- those of the others. Before all of them it has the directories above roots that were begun
abbrev pub AreOn : Scene → Path → List Seen → Branch → List Slot → List Frame → Type 0
AreOn g root kept b slots [] = AreShared g slots kept
AreOn g root kept b slots (f ∷ fs) =
    IsChain slots f.place (counting (placed_to g root b)) × AreOn g root kept (around b) (take f.len slots) fs
