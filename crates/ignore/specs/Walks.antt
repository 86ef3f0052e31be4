-- What a walk of a builder is a walk of.
use Rattle.std.specs.Prelude.{◌≡◌}
use Rattle.ignore_files.specs.declared.env.Env.{Env}
use Rattle.ignore_files.specs.declared.files.Files.{Ghosts as Files}
use Rattle.ignore_files.specs.Gives.{IsHonest}
use Rattle.ignore_files.specs.Tree.{Tree}
use Rattle.ignore_walk.specs.Below.{KeepsBelow}
use Rattle.ignore_walk.specs.Nexts.{Remaining, Starts}
use Rattle.ignore_walk.specs.Paces.{work_at, work_of}
use Rattle.ignore_walk.specs.Suits.{Suits}
use Rattle.ignore_walk.specs.declared.callbacks.Callbacks.{Ghosts as Callbacks}
use Rattle.ignore_walk.specs.declared.callbacks.Order.{Order}
use Rattle.ignore_walk.specs.declared.walk.Walk.{Walk}
use Rattle.ignore.specs.declared.options.WalkOptions.{WalkOptions}
use Rattle.ignore.specs.Asked.{IsOutsideBy}
use Rattle.ignore.specs.ItsList.{ForItsList, InItsScenes}
use Rattle.ignore.specs.Closures.{options_of}

-- a walk is one by these options, over files and in an environment, with this order and an owner of
-- the filter and the comparison: for each tree that the files are consistent with there are rules
-- from outside, as they were read, by which the list of the definition remains of the walk
abbrev pub IsWalkBy : {F S : Type 0} → Files F → Callbacks S → F → S → Env → WalkOptions → Order → Walk F S → Type 0
IsWalkBy files calls f owner env b order w =
    (tree : Tree) → IsHonest files f tree
    → ForItsList (λ o. Suits files calls f owner b.settings o (options_of b order)) env b tree (λ g. Remaining files calls g w)

-- a walk is a new one by these options, over files and in an environment, with this order and an
-- owner of the filter and the comparison: for each tree that the files are consistent with there are
-- rules from outside, as they were read, by which what remains of the walk is what the roots give
abbrev pub IsNewWalkBy : {F S : Type 0} → Files F → Callbacks S → F → S → Env → WalkOptions → Order → Walk F S → Type 0
IsNewWalkBy files calls f owner env b order w =
    (tree : Tree) → IsHonest files f tree
    → InItsScenes (λ o. Suits files calls f owner b.settings o (options_of b order)) env b tree (λ g. Starts files calls g w b.roots)

-- over any files, a walk goes by these: the files, the owner of the filter and the comparison, the
-- settings and the order, the rules from outside by answers that the files may give, and at first
-- the roots; and all that it has in hand is at or below these
pub record GoesBy {F S : Type 0} (files : Files F) (f : F) (owner : S) (env : Env) (b : WalkOptions) (order : Order) (w : Walk F S) : Type 0 where
  pub over : w.ground.files.now ≡ f
  pub closures : w.ground.owner ≡ owner
  pub settings : w.ground.settings ≡ b.settings
  pub options : w.ground.options ≡ options_of b order
  pub outside : IsOutsideBy (files.contents_gives f) env b w.ground.outside
  pub roots : work_of w.stack ≡ work_at b.roots
  pub below : KeepsBelow b.roots w.stack
