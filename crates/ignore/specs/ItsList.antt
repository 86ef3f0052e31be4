-- What holds of the list of the definition that a builder's walk has in a tree, and of its scenes.
use Rattle.std.specs.Prelude.{ℕ, List}
use Rattle.ignore_dir.specs.declared.outside.Outside.{Outside}
use Rattle.ignore_files.specs.declared.env.Env.{Env}
use Rattle.ignore_files.specs.Tree.{Tree}
use Rattle.ignore_walk.specs.Entry.{Item}
use Rattle.ignore_walk.specs.Scene.{Scene}
use Rattle.ignore_walk.specs.Whole.{Whole}
use Rattle.ignore.specs.declared.options.WalkOptions.{WalkOptions}
use Rattle.ignore.specs.Asked.{IsOutside}

-- `Holds` is true of the list of the definition and of the number of its steps, in a tree: there
-- are rules from outside, as they were read, and by these it is true of whatever the roots give in
-- each scene that is an `IsScene` (an argument, as `Holds` is)
abbrev pub ForItsList : (Outside → Scene → Type 0) → Env → WalkOptions → Tree → (Scene → List Item → ℕ → Type 0) → Type 0
ForItsList IsScene env b tree Holds =
    (o : Outside) × IsOutside tree env b o
    × ((g : Scene) (items : List Item) (n : ℕ) → IsScene o g → Whole g b.roots items n → Holds g items n)

-- `Holds` is so of each scene of a builder's walk in a tree, by rules from outside as they were read
abbrev pub InItsScenes : (Outside → Scene → Type 0) → Env → WalkOptions → Tree → (Scene → Type 0) → Type 0
InItsScenes IsScene env b tree Holds = (o : Outside) × IsOutside tree env b o × ((g : Scene) → IsScene o g → Holds g)
