-- What a guide decides on entries, as C is told it.
use Rattle.std.specs.Prelude.{◌≡◌, ◌⊎◌, ◌+◌, ℕ, Bool, false, List, Option, Some, None, Result, Ok, Err, IsSome, map, if◌then◌else◌}
use Rattle.std.specs.Str.{IsUtf8}
use Rattle.ignore.specs.WalkWords.{IncrementalMatch}
use Rattle.ignore_base.specs.Text.{Bytes}
use Rattle.ignore_dir.specs.Steps.{Reached}
use Rattle.ignore_guide.specs.Guide.{StandsFor, decided, decided_listed}
use Rattle.ignore_guide.specs.Names.{IsAsked, is_name}
use Rattle.ignore_guide.specs.Places.{entered_at}
use Rattle.ignore_guide.specs.Reasons.{decided_why}
use Rattle.ignore_guide.specs.declared.guide.Guide.{Guide}
use Rattle.ignore_guide.specs.declared.judge.Entry.{Entry}
use Rattle.ignore_guide.specs.declared.places.Place.{Place}
use Rattle.ignore_kept.specs.Explained.{Explained, TellsReason}
use Rattle.ignore_kept.specs.Kinds.{guided_in}
use Rattle.ignore_kept.specs.Listings.{ListsEntries, size_of}
use Rattle.ignore_kept.specs.Matching.{found_in, match_code, verdict_code}
use Rattle.ignore_kept.specs.Rooms.{put_in}
use Rattle.ignore_kept.specs.declared.asker.Found.{Found}
use Rattle.ignore_kept.specs.declared.explained.Why.{Why}
use Rattle.ignore_kept.specs.declared.guided.Guided.{Guided}
use Rattle.ignore_kept.specs.declared.guided.Stage.{Stage}
use Rattle.ignore_kept.specs.declared.guided.Stage.TheVariants as stage
use Rattle.ignore_kept.specs.declared.kept.Kept.{Kept}
use Rattle.ignore_kept.specs.declared.stopped.Stopped.{Stopped}
use Rattle.ignore_kept.specs.declared.stopped.Stopped.TheVariants.{NotUtf8, Memory as Full, Limit, Invalid, Misused, Tree}

-- the guide at a stage, once its first root was begun
abbrev pub guide_at : Stage → Option Guide
guide_at stage.Fresh = None
guide_at (stage.Reading reading) = None
guide_at (stage.Begun begun) = Some begun.guide

abbrev pub guide_of : Option Guided → Option Guide
guide_of None = None
guide_of (Some guided) = guide_at guided.stage

-- the guide that a handle keeps, once its first root was begun
abbrev pub guide_in : Kept → Option Guide
guide_in kept = guide_of (guided_in kept)

-- a guide was asked about a name in the directory at a place, and answers so; or says why not
abbrev pub AsksIn : {A : Type 0} → (Guide → ℕ → Reached → A) → Place → Bytes → Option Guide → Result A Stopped → Type 0
AsksIn answer place name None given = given ≡ Err Misused
AsksIn answer place name (Some g) (Ok found) =
    IsAsked g.places place name × ((depth : ℕ) (at : Reached) → StandsFor g place depth at → found ≡ answer g depth at)
AsksIn answer place name (Some g) (Err NotUtf8) = ¬ (IsUtf8 name)
AsksIn answer place name (Some g) (Err Misused) = (entered_at g.places place ≡ None) ⊎ (is_name name ≡ false)
AsksIn answer place name (Some g) (Err Full) = Unit {0}
AsksIn answer place name (Some g) (Err other) = ⊥

-- what becomes of an entry, where it stands
abbrev pub decision : Bytes → Bool → ℕ → Guide → ℕ → Reached → IncrementalMatch
decision name is_dir size g depth at = decided g.settings g.outside depth at name is_dir (size_of size)

-- asking a handle's guide what becomes of an entry
abbrev pub Decides : Place → Bytes → Bool → ℕ → Kept → Result IncrementalMatch Stopped → Type 0
Decides place name is_dir size kept given = AsksIn (decision name is_dir size) place name (guide_in kept) given

-- the same, by the numbers that C is told
abbrev pub DecidesTold : Place → Bytes → Bool → ℕ → Kept → ℕ → Found → Type 0
DecidesTold place name is_dir size kept code found =
    (given : Result IncrementalMatch Stopped) × Decides place name is_dir size kept given × (code ≡ match_code given) × (found ≡ found_in given)

-- a bit of a number
abbrev pub flag : Bool → ℕ → ℕ
flag is_set value = if is_set then value else 0

-- the number of what becomes of an entry: that of the verdict, 4 where a walk descends, and 8 where it
-- is within depth
abbrev pub listed_code : IncrementalMatch → ℕ
listed_code m = (verdict_code m.verdict + flag m.descends 4) + flag m.is_within 8

-- what becomes of entries as they are listed, where their directory stands
abbrev pub decisions : List Entry → Guide → ℕ → Reached → List ℕ
decisions entries g depth at = map (λ e. listed_code (decided_listed g.settings g.outside depth at e)) entries

-- asking a guide what becomes of each entry of a listing
abbrev pub ListsIn : Place → Bytes → List ℕ → List ℕ → Option Guide → Result (List ℕ) Stopped → Type 0
ListsIn place names kinds sizes None given = given ≡ Err Misused
ListsIn place names kinds sizes (Some g) (Ok codes) =
    IsSome (entered_at g.places place)
    × ((entries : List Entry) × ListsEntries names kinds sizes (Ok entries)
    × ((depth : ℕ) (at : Reached) → StandsFor g place depth at → codes ≡ decisions entries g depth at))
ListsIn place names kinds sizes (Some g) (Err NotUtf8) = ¬ (IsUtf8 names)
ListsIn place names kinds sizes (Some g) (Err Misused) =
    (entered_at g.places place ≡ None) ⊎ ListsEntries names kinds sizes (Err Misused)
ListsIn place names kinds sizes (Some g) (Err Full) = Unit {0}
ListsIn place names kinds sizes (Some g) (Err other) = ⊥

abbrev pub DecidesAll : Place → Bytes → List ℕ → List ℕ → Kept → Result (List ℕ) Stopped → Type 0
DecidesAll place names kinds sizes kept given = ListsIn place names kinds sizes (guide_in kept) given

-- the room for the codes of a listing: the codes, or as it was
abbrev pub codes_put : Result (List ℕ) Stopped → List ℕ → List ℕ
codes_put (Ok codes) room = put_in codes room
codes_put (Err stopped) room = room

-- what becomes of an entry and why, where it stands
abbrev pub explanation : Bytes → Bool → ℕ → Guide → ℕ → Reached → Explained
explanation name is_dir size g depth at =
    record {
      answer = decision name is_dir size g depth at;
      why = decided_why g.settings g.outside depth at name is_dir (size_of size);
    }

-- asking a handle's guide what becomes of an entry and why
abbrev pub Reasons : Place → Bytes → Bool → ℕ → Kept → Result Explained Stopped → Type 0
Reasons place name is_dir size kept given = AsksIn (explanation name is_dir size) place name (guide_in kept) given

-- the same, by what C is told
abbrev pub ReasonsTold : Place → Bytes → Bool → ℕ → Kept → ℕ → Found → Why → Bytes → Type 0
ReasonsTold place name is_dir size kept code found why text =
    (given : Result Explained Stopped) × Reasons place name is_dir size kept given × TellsReason given code found why text
