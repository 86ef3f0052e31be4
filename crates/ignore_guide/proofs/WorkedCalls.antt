-- Worked calls that wait: with what was told, for what wasn't; and a place that is gone.
use Rattle.std.proofs.Common.{◌≡◌, ◌∙◌, true, Option, None, Some, Result, Ok, Err, inl, inr, sym, subst}
use Rattle.ignore_base.specs.Text.{Bytes, Path}
use Rattle.ignore_excludes.specs.ExcludesSearch.{AnswerGives, FilesGive, IsFirstValue, configurations}
use Rattle.ignore_files.specs.Tree.{Tree}
use Rattle.ignore_files.specs.declared.env.Env.{Env}
use Rattle.ignore_files.specs.declared.files.Files.{Ghosts as Files}
use Rattle.ignore_files.specs.declared.types.Contents.{Contents}
use Rattle.ignore_files.specs.declared.types.Refusal.{Refusal}
use Rattle.ignore_files.specs.declared.types.Refusal.TheVariants.{Memory}
use Rattle.ignore_files.specs.declared.types.Refusal.TheVariants.{Fault as Refused}
use Rattle.ignore_guide.specs.Asking.{AsksOutside, is_told}
use Rattle.ignore_guide.specs.Hosted.{StepGives}
use Rattle.ignore_guide.specs.Places.{IsGone, entered_at}
use Rattle.ignore_guide.specs.Told.{AreOf, IsFresh, ReadTold}
use Rattle.ignore_guide.specs.declared.guide.Guide.{Guide}
use Rattle.ignore_guide.specs.declared.hosted.Call.{Call}
use Rattle.ignore_guide.specs.declared.hosted.Step.TheVariants as step
use Rattle.ignore_guide.specs.declared.hosted.Waiting.{Waiting}
use Rattle.ignore_guide.specs.declared.places.Entered.{Entered}
use Rattle.ignore_guide.specs.declared.places.Place.{Place}
use Rattle.ignore_guide.specs.declared.places.Places.{Places}
use Rattle.ignore_guide.specs.declared.told.Told.{Told}
use Rattle.ignore_guide.proofs.GivenLemmas.{nothing_lacked}

-- at a place that is gone no directory is
gone_is_not_entered : (places : Places) (place : Place) (dir : Entered) → IsGone places place → entered_at places place ≡ Some dir → ⊥
gone_is_not_entered places place dir gone there = cc (sym gone.1 ∙ there)

-- a call for which nothing was told waits with nothing: with what each tree has
waits_with_what_was_told : (files : Files Told) (asked : Call) (tree : Tree) (told : Told) (old new : Guide) (w : Waiting) → IsFresh told
    → StepGives files asked told old (step.Wants w) new → AreOf tree w.told
waits_with_what_was_told files asked tree told old new w fresh (same, call, with, anew) = subst (AreOf tree) (sym with) (nothing_lacked tree told fresh)

-- nothing is asked twice
asked_twice : (files : Files Told) (asked : Call) (told : Told) (old new : Guide) (w : Waiting) → is_told told w.question ≡ true
    → StepGives files asked told old (step.Wants w) new → ⊥
asked_twice files asked told old new w is (same, call, with, anew) = cc (sym anew ∙ is)

-- where nothing was told, no file gives a value, nor says that it has none
nothing_says : (told : Told) → IsFresh told → (path : Path) (found : Option Bytes) → FilesGive (ReadTold told) path found → ⊥
nothing_says told fresh path found (answer, is, gives) = go answer is gives
  where
    go : (a : Result Contents Refusal) → ReadTold told path a → AnswerGives a found → ⊥
    go (Ok contents) is gives = cc (sym (fresh.reads path) ∙ is)
    go (Err (Refused fault)) is gives = cc (sym (fresh.reads path) ∙ is)
    go (Err Memory) is gives = gives

-- an environment of which nothing is known
abbrev bare : Env
bare = record { current_dir = None; home = None; xdg_config_home = None; git_config_global = None; git_config_system = None }

-- where nothing was told, something is asked in it: git's file for the whole system
system_file_is_asked : (told : Told) → IsFresh told → AsksOutside told bare None → ⊥
system_file_is_asked told fresh (found, (value, first, leads), read) = go value first
  where
    go : (v : Option Bytes) → IsFirstValue (FilesGive (ReadTold told)) (configurations bare) v → ⊥
    go None (global, (home, (user, (system, none)))) = nothing_says told fresh _ None system
    go (Some v) (inl global) = cc global
    go (Some v) (inr (global, inl home)) = cc home
    go (Some v) (inr (global, inr (home, inl user))) = cc user
    go (Some v) (inr (global, inr (home, inr (user, inl system)))) = nothing_says told fresh _ (Some v) system
    go (Some v) (inr (global, inr (home, inr (user, inr (system, none))))) = cc none
