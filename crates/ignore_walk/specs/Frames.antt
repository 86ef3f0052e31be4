-- The directories that were entered, by place.
use Rattle.std.specs.Prelude.{◌≡◌, ℕ, List, [], ◌∷◌, Option, None, Some, Result, Ok, Err, if◌then◌else◌}
use Rattle.ignore_base.specs.Text.{Bytes, Path}
use Rattle.ignore_base.specs.declared.fault.Fault.{Fault}
use Rattle.ignore_files.specs.declared.types.Identity.{Identity}
use Rattle.ignore_walk.specs.Branch.{Branch, path_of, text_at}
use Rattle.ignore_walk.specs.Child.{identity_at}
use Rattle.ignore_walk.specs.Scene.{Scene}
use Rattle.ignore_walk.specs.declared.frame.Frame.{Frame}

-- a frame is the directory at a place
pub record IsFrame (g : Scene) (root : Path) (b : Branch) (f : Frame) : Type 0 where
  pub path : f.path ≡ path_of root b
  pub text : f.text ≡ text_at g root b

-- frames, the innermost first, are the directory at a place and those around it
pub data AreFrames (g : Scene) (root : Path) : Branch → List Frame → Type 0 where
  outermost : {f : Frame} → IsFrame g root [] f → AreFrames g root [] (f ∷ [])
  inside : {name : Bytes} {b : Branch} {f : Frame} {fs : List Frame} → IsFrame g root (name ∷ b) f → AreFrames g root b fs
      → AreFrames g root (name ∷ b) (f ∷ fs)

-- the device of an identity that is known
abbrev pub known_device : Result Identity Fault → Option ℕ
known_device (Ok id) = Some id.device
known_device (Err fault) = None

-- the device of a root, where it matters and is known
abbrev pub device_of : Scene → Path → Option ℕ
device_of g root = if g.same_file_system then known_device (identity_at g.tree root) else None
