-- Worked reports of names that aren't UTF-8: of places, of a walk and of a survey.
use Rattle.std.proofs.Common.{◌≡◌, ℕ, false, [], ◌∷◌, ◌++◌, codes, None, Some, Ok, Err, refl}
use Rattle.std.specs.Fmt.{decimal}
use Rattle.ignore_base.specs.Problem.{at_depth, at_path, io}
use Rattle.ignore_base.specs.Text.{Bytes, Path}
use Rattle.ignore_base.specs.declared.fault.Fault.TheVariants.{BadName, PermissionDenied}
use Rattle.ignore_walk.specs.Entry.{Item}
use Rattle.ig_options.specs.declared.options.Options.{Options}
use Rattle.ig_commands.specs.Names.{first_name, names_line, still, told_at, told_before, with_name}
use Rattle.ig_commands.specs.Reports.{fault_line, first_reports, name_depth, place_of, whole_reports}
use Rattle.ig_commands.specs.Surveys.{Seen, begun_in, name_place, told_in}

-- the line of so many names at a place
abbrev line : Path → ℕ → Bytes
line place count = codes "ig: " ++ (place ++ (codes ": " ++ (decimal count ++ (codes " names aren't UTF-8" ++ 10 ∷ []))))

-- one name, and three at one place
pub lines : (names_line (first_name (codes "./d") 2) ≡ codes "ig: ./d: 1 name isn't UTF-8" ++ 10 ∷ [])
    × (names_line (with_name (codes "./d") 2 (Some (with_name (codes "./d") 2 (Some (first_name (codes "./d") 2))))) ≡ line (codes "./d") 3)
lines = (refl, refl)

-- a name elsewhere tells those before it, and an entry those of a folder that it isn't in
pub told : (told_before (codes "./e") (Some (first_name (codes "./d") 2)) ≡ names_line (first_name (codes "./d") 2))
    × (told_before (codes "./d") (Some (first_name (codes "./d") 2)) ≡ [])
    × (with_name (codes "./e") 2 (Some (first_name (codes "./d") 2)) ≡ first_name (codes "./e") 2)
    × (told_at 1 (Some (first_name (codes "./d") 2)) ≡ names_line (first_name (codes "./d") 2))
    × (still 1 (Some (first_name (codes "./d") 2)) ≡ None)
    × (told_at 2 (Some (first_name (codes "./d") 2)) ≡ []) × (told_at 3 (Some (first_name (codes "./d") 2)) ≡ [])
told = (refl, refl, refl, refl, refl, refl, refl)

-- which problems are such names, and where they are
pub bad_names : (name_depth (at_depth 2 (io BadName)) ≡ Some 2) × (name_depth (at_depth 2 (io PermissionDenied)) ≡ None)
    × (name_place (at_path (codes "./d") (io BadName)) ≡ Some (codes "./d"))
    × (name_place (at_path (codes "./d") (io PermissionDenied)) ≡ None) × (place_of None 2 ≡ codes "depth " ++ decimal 2)
bad_names = (refl, refl, refl, refl, refl)

-- an entry of a walk, a name in it, and something else that can't be listed there
abbrev entry : Path → ℕ → Item
entry path depth = Ok (record { path = path; depth = depth; kind = None; followed = false }, None)

abbrev bad : Item
bad = Err (at_depth 2 (io BadName))

abbrev denied : Item
denied = Err (at_depth 2 (io PermissionDenied))

-- a name in `./d`, after something that is denied and before `./d/c`, is told at `./f`
pub walked : (o : Options) → o.no_ignore_messages ≡ false
    → first_reports o (entry (codes "./d") 1 ∷ (denied ∷ (bad ∷ (entry (codes "./d/c") 2 ∷ (entry (codes "./f") 1 ∷ [])))))
    ≡ fault_line (λ depth. Some (codes "./d")) (at_depth 2 (io PermissionDenied)) ++ names_line (first_name (codes "./d") 2)
walked o h = rw h refl

-- or at the end
pub walked_to_the_end : (o : Options) → o.no_ignore_messages ≡ false
    → (first_reports o (entry (codes "./d") 1 ∷ (bad ∷ (bad ∷ []))) ≡ [])
    × (whole_reports o (entry (codes "./d") 1 ∷ (bad ∷ (bad ∷ []))) ≡ line (codes "./d") 2)
walked_to_the_end o h = (rw h refl, rw h refl)

-- of a survey, a name in `d` is told at one in `e`, and that at the end
abbrev in_folder : Path → Seen
in_folder folder = (Err (at_path folder (io BadName)), None)

pub surveyed : (o : Options) → (begun_in o (in_folder (codes "d") ∷ (in_folder (codes "e") ∷ [])) ≡ names_line (first_name (codes "d") 1))
    × (told_in o (in_folder (codes "d") ∷ (in_folder (codes "e") ∷ []))
    ≡ names_line (first_name (codes "d") 1) ++ names_line (first_name (codes "e") 1))
surveyed o = (refl, refl)
