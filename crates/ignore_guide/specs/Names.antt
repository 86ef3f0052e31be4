-- When a guide does nothing.
use Rattle.std.specs.Prelude.{◌≡◌, Bool, true, false, not, ◌&&◌, IsSome, None, codes}
use Rattle.ignore_base.specs.Paths.{has_slash, is_proper}
use Rattle.ignore_base.specs.Text.{Bytes}
use Rattle.ignore_guide.specs.Places.{IsIn, entered_at}
use Rattle.ignore_guide.specs.declared.error.GuideError.{GuideError}
use Rattle.ignore_guide.specs.declared.error.GuideError.TheVariants as error
use Rattle.ignore_guide.specs.declared.places.Place.{Place}
use Rattle.ignore_guide.specs.declared.places.Places.{Places}

-- a text is the name of an entry: it isn't empty, `.` or `..`, and has no slash
abbrev pub is_name : Bytes → Bool
is_name name = is_proper name && not (has_slash name)

-- a call may be for a name in the directory at a place: the place is one, and so is the name
abbrev pub IsAsked : Places → Place → Bytes → Type 0
IsAsked places place name = IsSome (entered_at places place) × (is_name name ≡ true)

-- why a call for a name in the directory at a place did nothing, but for memory: the place is none;
-- it is one, and the name is none
abbrev pub IsRefused : Places → Place → Bytes → GuideError → Type 0
IsRefused places place name error.Memory = Unit {0}
IsRefused places place name error.NoPlace = entered_at places place ≡ None
IsRefused places place name error.NoName = is_name name ≡ false
IsRefused places place name error.HasChildren = ⊥

-- why a call for what is listed at a place did nothing, but for memory: the place is none
abbrev pub IsNoPlace : Places → Place → GuideError → Type 0
IsNoPlace places place error.Memory = Unit {0}
IsNoPlace places place error.NoPlace = entered_at places place ≡ None
IsNoPlace places place error.NoName = ⊥
IsNoPlace places place error.HasChildren = ⊥

-- a directory may be left: the place is one, and no directory in it was entered and not left
abbrev pub IsLeft : Places → Place → Type 0
IsLeft places place = IsSome (entered_at places place) × ((child : Place) → IsIn places place child → ⊥)

-- why a directory wasn't left: the place is none, or a directory in it was entered and not left
abbrev pub IsNotLeft : Places → Place → GuideError → Type 0
IsNotLeft places place error.Memory = ⊥
IsNotLeft places place error.NoPlace = entered_at places place ≡ None
IsNotLeft places place error.NoName = ⊥
IsNotLeft places place error.HasChildren = (child : Place) × IsIn places place child

-- the text of each
abbrev pub error_text : GuideError → Bytes
error_text error.Memory = codes "out of memory"
error_text error.NoPlace = codes "no such place"
error_text error.NoName = codes "not a name"
error_text error.HasChildren = codes "directories in it were not left"
