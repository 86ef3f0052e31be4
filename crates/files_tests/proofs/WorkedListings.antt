-- Worked examples of what is heard of a directory that was opened, of what a listing lacks, and of
-- trees whose listings are whole.
use Rattle.std.proofs.Common.{◌≡◌, inl, inr, true, false, List, [], ◌∷◌, Option, Result, Ok, Err, codes, refl, subst}
use Rattle.std.specs.Iterator.{Drains}
use Rattle.std.specs.Prelude.{IsErrAnd}
use Rattle.std.specs.Fs.{IsDir, IsFile}
use Rattle.std.specs.IoError.{error_kind}
use Rattle.std.specs.declared.fs.FileType.{FileType as MachineType}
use Rattle.std.specs.declared.io.Error.{Error}
use Rattle.std.specs.declared.io.ErrorKind.TheVariants.{NotFound}
use Rattle.ignore_files.specs.Machine.{AreReported, IsListingOf, IsReported}
use Rattle.ignore_files.specs.declared.machine.Machine.{Ghosts}
use Rattle.ignore_base.specs.Text.{Path}
use Rattle.ignore_base.specs.declared.fault.Fault.{Fault}
use Rattle.ignore_base.specs.declared.fault.Fault.TheVariants as fault
use Rattle.ignore_files.specs.Whole.{IsWhole, lacks}
use Rattle.ignore_files.specs.declared.types.FileType.TheVariants as kind
use Rattle.ignore_files.specs.declared.types.Listed.{Listed}
use Rattle.ignore_files.specs.declared.types.Listed.TheVariants as listed

-- where nothing was given, nothing is reported
none_reported : {R M E D F : Type 0} (machine : Ghosts R M E D F) (listing : List Listed) → AreReported machine [] listing → listing ≡ []
none_reported machine [] h = refl
none_reported machine (item ∷ items) h = absurd h

-- a directory that gives nothing has an empty listing
empty_listing : {R M E D F : Type 0} (machine : Ghosts R M E D F) (next : D → Option (Result E Error) → D → Type 0) (dir : D)
    (listing : List Listed) → ((all : List (Result E Error)) → Drains next dir all → all ≡ []) → IsListingOf machine next dir listing
    → listing ≡ []
empty_listing machine next dir listing empty (all, drains, reports) =
    none_reported machine listing (subst (λ given. AreReported machine given listing) (empty all drains) reports)

-- of a file `a`, an entry that is gone and a directory `b`, the listing has the first and the last
module _ {R M E D F : Type 0} (machine : Ghosts R M E D F) (a gone b : E) (file dir : MachineType) (missing : Error)
    (a_is : machine.entry_type_gives a (Ok file)) (is_file : IsFile file) (a_named : machine.file_name_gives a (codes "a"))
    (b_is : machine.entry_type_gives b (Ok dir)) (is_dir : IsDir dir) (b_named : machine.file_name_gives b (codes "b"))
    (gone_is : machine.entry_type_gives gone (Err missing)) (is_missing : error_kind missing ≡ NotFound) where
  without_the_gone : AreReported machine (Ok a ∷ Ok gone ∷ Ok b ∷ []) (listed.Entry (codes "a") kind.File
      ∷ listed.Entry (codes "b") kind.Dir ∷ [])
  without_the_gone = inl (
    (Ok file, a_is, (a_named, is_file)),
    inr ((missing, gone_is, is_missing), inl ((Ok dir, b_is, (b_named, is_dir)), tt)),
  )

  -- a directory of which all is gone has an empty listing
  all_gone : AreReported machine (Ok gone ∷ Ok gone ∷ []) []
  all_gone = ((missing, gone_is, is_missing), ((missing, gone_is, is_missing), tt))

-- an entry that is found isn't left out, and one that isn't isn't reported
module _ {R M E D F : Type 0} (machine : Ghosts R M E D F) (a : E)
    (found : (error : Error) → machine.entry_type_gives a (Err error) → error_kind error ≡ NotFound → ⊥) where
  not_left_out : AreReported machine (Ok a ∷ []) [] → ⊥
  not_left_out ((error, gives, missing), rest) = found error gives missing

gone_unreported : {R M E D F : Type 0} (machine : Ghosts R M E D F) (a : E)
    → ((answer : Result MachineType Error) → machine.entry_type_gives a answer → IsErrAnd answer (λ error. error_kind error ≡ NotFound))
    → (item : Listed) → IsReported machine (Ok a) item → ⊥
gone_unreported machine a gone item (Ok t, gives, h) = absurd (gone (Ok t) gives)
gone_unreported machine a gone item (Err error, gives, h) = h.0 (gone (Err error) gives)

-- a file `a` and a directory `.GIT`
abbrev two : List Listed
two = listed.Entry (codes "a") kind.File ∷ listed.Entry (codes ".GIT") kind.Dir ∷ []

-- they lack `.jj` and `b`
lacked : (lacks two (codes ".jj") ≡ true) × (lacks two (codes "b") ≡ true)
lacked = (refl, refl)

-- they don't lack `A` and `.git`, whatever the case of the letters, nor what isn't a plain name: `é`,
-- the empty name, `..` and `b/c`
not_lacked : (lacks two (codes "A") ≡ false) × (lacks two (codes ".git") ≡ false) × (lacks two (codes "é") ≡ false)
    × (lacks two (codes "") ≡ false) × (lacks two (codes "..") ≡ false) × (lacks two (codes "b/c") ≡ false)
not_lacked = (refl, refl, refl, refl, refl, refl)

-- with a fault among the things that are listed, nothing is lacked
fault_lacks_nothing : lacks (listed.Fault fault.NotFound ∷ two) (codes "b") ≡ false
fault_lacks_nothing = refl

-- something is where a directory `/t` lists nothing: its listings aren't whole
not_whole : IsWhole (λ path. true) (λ path. Ok []) → ⊥
not_whole whole = apart (whole (codes "/t") (codes "b") [] refl refl).here
  where
    apart : true ≡ false → ⊥
    apart same = cc

-- where nothing is, listings are whole
nothing_is_whole : (list : Path → Result (List Listed) Fault) → IsWhole (λ path. false) list
nothing_is_whole list dir name listing answers lacking = record { here = refl; below = λ rest relative. refl }
