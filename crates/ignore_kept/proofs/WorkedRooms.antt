-- Worked rooms, items and numbers, as C is told them, and what a call isn't refused for.
use Rattle.std.proofs.Common.{◌≡◌, ◌∙◌, ◌<◌, ℕ, Bool, true, [], ◌∷◌, codes, None, Some, Ok, Err, length, refl, sym, ap, inl, inr, arith}
use Rattle.ignore.specs.WalkWords.{Item}
use Rattle.ignore.specs.declared.options.WalkOptions.{WalkOptions}
use Rattle.ignore_base.specs.Problem.{io, memory}
use Rattle.ignore_base.specs.Text.{Bytes, Path}
use Rattle.ignore_base.specs.declared.fault.Fault.TheVariants.{StepLimit}
use Rattle.ignore_base.specs.declared.match_result.Match.{Match}
use Rattle.ignore_files.specs.Memory.{Memory}
use Rattle.ignore_files.specs.declared.env.Env.{Env}
use Rattle.ignore_rules.specs.Parents.{is_under_root}
use Rattle.ignore_rules.specs.Rules.{Building, Rule, Ruleset}
use Rattle.ignore_kept.specs.Asks.{Asks}
use Rattle.ignore_kept.specs.Matching.{IsBuilt}
use Rattle.ignore_kept.specs.Rooms.{put_in}
use Rattle.ignore_kept.specs.declared.ask.Manner.{Manner}
use Rattle.ignore_kept.specs.declared.ask.Manner.TheVariants.{Alone, WithParents, AsGit}
use Rattle.ignore_kept.specs.Walking.{TellsNext, end_of, text_told}
use Rattle.ignore_kept.specs.Wishes.{IsEarly}
use Rattle.ignore_kept.specs.declared.kept.Kept.TheVariants as keeps
use Rattle.ignore_kept.specs.declared.setup.Setup.{Setup}
use Rattle.ignore_kept.specs.declared.stopped.Stopped.TheVariants as stopped
use Rattle.ignore_kept.specs.declared.walked.WalkEntry.{WalkEntry}
use Rattle.ignore_kept.specs.declared.walked.Walked.{Walked}
use Rattle.ignore_kept.specs.declared.wish.Wish.TheVariants as wish

-- `ab` makes `abz` of the room `xyz`, `a` of the room `x`, and nothing of no room; no text leaves it
pub rooms : (put_in (codes "ab") (codes "xyz") ≡ codes "abz") × (put_in (codes "ab") (codes "x") ≡ codes "a")
    × (put_in (codes "ab") (codes "") ≡ codes "") × (put_in (codes "") (codes "xyz") ≡ codes "xyz")
rooms = (refl, refl, refl, refl)

-- out of memory ends a walk as that, and any other problem as its limit
pub ends : (end_of memory ≡ stopped.Memory) × (end_of (io StepLimit) ≡ stopped.Limit)
ends = (refl, refl)

-- an item is withheld only where its texts don't fit into the room
pub withheld : (room : ℕ) (old new : Walked) (item : Item) (entry : WalkEntry) (text : Bytes) → TellsNext room old (Some item) 15 entry text new
    → room < length (text_told item)
withheld room old new item entry text (inl given) = absurd (omega (arith, given.0))
withheld room old new item entry text (inr (inl kept)) = omega (arith, kept.3, ap length kept.2)
withheld room old new item entry text (inr (inr none)) = absurd (omega (arith, none.0))

-- rules aren't refused as misused, nor as outside where a path is asked about alone or as git asks; and
-- with its parents only a path below the root has an answer
pub not_misused : (rules : Ruleset) (manner : Manner) (is_dir : Bool) (path : Path) → ¬ Asks (keeps.Rules rules) manner path is_dir (Err stopped.Misused)
not_misused rules manner is_dir path h = cc h

pub not_outside : (rules : Ruleset) (is_dir : Bool) (path : Path) → ¬ Asks (keeps.Rules rules) Alone path is_dir (Err stopped.Outside)
not_outside rules is_dir path (others, is, manner, outside) = cc manner

pub not_outside_as_git : (rules : Ruleset) (is_dir : Bool) (path : Path) → ¬ Asks (keeps.Rules rules) AsGit path is_dir (Err stopped.Outside)
not_outside_as_git rules is_dir path (others, is, manner, outside) = cc manner

pub only_below : (rules : Ruleset) (is_dir : Bool) (path : Path) (found : Match Rule)
    → Asks (keeps.Rules rules) WithParents path is_dir (Ok found)
    → is_under_root rules path ≡ true
only_below rules is_dir path found (others, is, below, said) =
    let same : rules ≡ others = cc is in
    rw same (below refl)

-- a glob isn't refused as early where globs were begun, and a type never is
pub not_early : (setup : Setup) (globs : Building) → setup.globs ≡ Some globs
    → ¬ IsEarly wish.SetOverrides setup
not_early setup globs begun early = let e : Some globs ≡ None = sym begun ∙ early in cc e

pub types_never_early : (setup : Setup) → ¬ IsEarly wish.SetTypes setup
types_never_early setup early = early

-- a builder with one root isn't misused
pub one_root : (tree : Memory) (env : Env) (b : WalkOptions) (root : Path) → b.roots ≡ root ∷ [] → ¬ IsBuilt tree env b (Err stopped.Misused)
one_root tree env b root one refused = refused (ap length one)
