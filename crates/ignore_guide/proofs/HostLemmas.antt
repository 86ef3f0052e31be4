-- Any call may be out of memory.
use Rattle.ignore_guide.specs.Hosted.{CallRefused, Comes, IsNewPlace, IsPlaced}
use Rattle.ignore_guide.specs.Places.{KeepsOthers, entered_at}
use Rattle.ignore_guide.specs.declared.error.GuideError.TheVariants.{Memory}
use Rattle.ignore_guide.specs.declared.hosted.Call.{Call}
use Rattle.ignore_guide.specs.declared.hosted.Call.TheVariants as call
use Rattle.ignore_guide.specs.declared.places.Places.{Places}
use Rattle.ignore_guide.specs.declared.places.Place.{Place}
use Rattle.ignore_guide.specs.declared.told.Told.{Told}
use Rattle.ignore_guide.specs.declared.guide.Guide.{Guide}
use Rattle.ignore_guide.specs.declared.guide.Arrived.{Arrived}
use Rattle.ignore_guide.specs.declared.error.GuideError.{GuideError}
use Rattle.ignore_guide.specs.Guide.{StandsFor, holding}
use Rattle.ignore_files.specs.declared.files.Files.{Ghosts as Files}
use Rattle.ignore_dir.specs.LoadsBy.{LoadsBy, reads_of, stats_of}
use Rattle.ignore_dir.specs.Steps.{Reached, entry}
use Rattle.ignore_dir.specs.declared.dir.Dir.{Dir}
use Rattle.ignore_base.specs.Paths.{join_of}
use Rattle.ignore_base.specs.Problem.{problem_of}
use Rattle.std.proofs.Common.{◌+◌, ℕ, List, None, Result, Ok, Err, IfOk, option_map, refl, sym, subst, ◌≡◌}

pub memory_refuses : (places : Places) (c : Call) → CallRefused places c Memory
memory_refuses places (call.Root root) = refl
memory_refuses places (call.Enter parent name) = tt

-- a directory that was entered has come
pub enter-comes : (files : Files Told) (told : Told) (asked : Call) (parent : Place) (name text : List ℕ) (old : Guide)
    (r : Result Arrived GuideError) (new : Guide) → asked ≡ call.Enter parent name → text ≡ name
    → ((depth : ℕ) (at : Reached) → StandsFor old parent depth at → IfOk r (λ a. (dir : Dir)
    × LoadsBy (stats_of files told) (reads_of files told) old.settings (join_of at.path text) dir (option_map problem_of a.error)
    × StandsFor new a.place (depth + 1) (holding dir (entry at text))))
    → IfOk r (λ a. Comes files told asked old a new)
enter-comes files told asked parent name text old (Ok a) new is t h =
    subst (λ (c : Call). Comes files told c old a new) (sym is)
    (subst (λ (n : List ℕ). Comes files told (call.Enter parent n) old a new) t h)
enter-comes files told asked parent name text old (Err e) new is t h = tt

-- its place is new, and where the call says
pub new-place : (asked c : Call) → asked ≡ c → (r : Result Arrived GuideError) (old new : Places) → IfOk r (λ a. entered_at old a.place ≡ None)
    → IfOk r (λ a. IsPlaced c new a.place) → IfOk r (λ a. KeepsOthers a.place old new) → IfOk r (λ a. IsNewPlace asked old a.place new)
new-place asked c is (Ok a) old new vacant within stay =
    record { vacant = vacant; within = subst (λ (x : Call). IsPlaced x new a.place) (sym is) within; stay = stay }
new-place asked c is (Err e) old new vacant within stay = tt
