-- Loads by answers, worked: answers that no tree gives, the way of a `.git` file, and marks.
use Rattle.std.proofs.Common.{◌≡◌, ℕ, Bool, true, false, List, [], ◌∷◌, Option, None, Some, Result, Ok, Err, refl, codes}
use Rattle.ignore_base.specs.declared.fault.Fault.{Fault}
use Rattle.ignore_base.specs.declared.fault.Fault.TheVariants.{NotFound, PermissionDenied}
use Rattle.ignore_base.specs.Problem.{at_path, io}
use Rattle.ignore_files.specs.declared.types.FileType.TheVariants.{File}
use Rattle.ignore_files.specs.declared.types.Metadata.{Metadata}
use Rattle.ignore_files.specs.declared.types.Refusal.{Refusal}
use Rattle.ignore_files.specs.declared.types.Refusal.TheVariants.{Memory}
use Rattle.ignore_rules.specs.Rules.{Building}
use Rattle.ignore_dir.specs.Exclude.{Place}
use Rattle.ignore_dir.specs.LoadsBy.{Stats, Reads, AddAllBy, FirstLineLeads, IsMarkBy, as_answer}

-- each answer may be as_answer to each question
abbrev any_stat : Stats
any_stat path found = Unit {0}

abbrev any_read : Reads
any_read path read = Unit {0}

-- nothing is anywhere
abbrev no_stat : Stats
no_stat path found = found ≡ Err NotFound

abbrev thing : Metadata
thing = record { file_type = File; len = 0 }

-- a path is asked about twice: first it is there, and can't be opened; then it isn't there
pub asked_twice : (b : Building) (path : List ℕ) → AddAllBy any_stat any_read (path ∷ (path ∷ [])) b b []
asked_twice b path = (
  b,
  None,
  [],
  (Ok thing, tt, (Err PermissionDenied, Some (at_path path (io PermissionDenied)), tt, (refl, refl), refl)),
  (b, None, [], (Err NotFound, tt, (refl, refl)), (refl, refl), refl),
  refl,
)

-- the line `gitdir: /g/w` leads nowhere where `/g/w/commondir` can't be opened, and nowhere else
pub leads_nowhere : FirstLineLeads any_read (codes "/r/.git") (Ok (Some (codes "gitdir: /g/w"))) (Ok None)
leads_nowhere = (Err NotFound, tt, refl)

-- each other line leads nowhere
pub other_line : (place : Place) → FirstLineLeads any_read (codes "/r/.git") (Ok (Some (codes "gitdir /g"))) place → place ≡ Ok None
other_line place h = h

-- a `.jj` makes a mark where there is no `.git`, and where neither is there is none
pub marked_by_jj : (jj : List ℕ) → IsMarkBy true any_stat false jj true
marked_by_jj jj = (Ok thing, tt, refl)

pub unmarked : (jj : List ℕ) (mark : Bool) → IsMarkBy true no_stat false jj mark → mark ≡ false
unmarked jj mark (Err fault, is, same) = same
unmarked jj mark (Ok metadata, is, same) = absurd (cc (is))

-- no answer of these is out of memory
pub never_memory : {A : Type 0} (r : Result A Fault) → as_answer r ≡ Err Memory → ⊥
never_memory (Ok value) h = cc
never_memory (Err fault) h = cc
