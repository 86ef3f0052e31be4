-- What is found of a rule: questions on which it decides, or that there are none.
use Rattle.std.specs.Prelude.{◌≡◌, ◌≢◌, ◌≤◌, ℕ, Bool, true, false, List, ◌∷◌, ◌++◌, Option, None, Some, slice_get, length, nat_lt, not, ◌||◌, ⊤}
use Rattle.std.specs.Prelude.{string_bytes}
use Rattle.std.specs.Str.{chars}
use Rattle.ignore_base.specs.Text.{Chars, slash}
use Rattle.ignore_rules.specs.Answer.{does_apply}
use Rattle.ignore_rules.specs.Rules.{Rule}
use Rattle.ignore_every.specs.declared.findings.Example.{Example}
use Rattle.ignore_every.specs.declared.findings.Finding.{Finding}
use Rattle.ignore_every.specs.declared.findings.Finding.TheVariants.{Live, DeadByFolders, Overruled, Unreached}
use Rattle.ignore_every.specs.declared.place.Place.{Place}
use Rattle.ignore_every.specs.Machines.{IsIn, Table, ignores}
use Rattle.ignore_every.specs.Names.{is_named}
use Rattle.ignore_every.specs.Questions.{IsClean, IsAsked, Decides, HasNoIgnoredAncestor}

-- the rule decides on no question of these
abbrev pub DecidesNever : Bool → List Rule → ℕ → Type 0
DecidesNever reached rules index = (path : Chars) (is_dir : Bool) → IsAsked reached rules path → Decides rules index path is_dir → ⊥

-- a question on which the rule decides, and of these none is shorter
pub record IsShortest (reached : Bool) (rules : List Rule) (index : ℕ) (path : Chars) (is_dir : Bool) : Type 0 where
  pub asked : IsAsked reached rules path
  pub decided : Decides rules index path is_dir
  pub least : (other : Chars) (kind : Bool) → IsAsked reached rules other → Decides rules index other kind → length path ≤ length other

-- the folder is the first on the way to the path that the rules ignore, and this rule decides on it
pub record IsInFolder (rules : List Rule) (path folder : Chars) (index : ℕ) : Type 0 where
  pub below : Chars
  pub way : path ≡ folder ++ slash ∷ below
  pub reached : HasNoIgnoredAncestor rules folder
  pub decided : Decides rules index folder true
  pub ignored : ignores rules (Some index) ≡ true

-- a question on which the rule decides, with a folder on its way that the rules ignore
abbrev pub IsExample : List Rule → ℕ → Example → Type 0
IsExample rules index example =
    IsShortest false rules index (chars (string_bytes example.question.path)) example.question.is_dir
    × IsInFolder rules (chars (string_bytes example.question.path)) (chars (string_bytes example.folder)) example.rule

-- the rule with this index is there and applies
abbrev pub AppliesAt : List Rule → ℕ → Chars → Bool → Type 0
AppliesAt rules index path is_dir = (rule : Rule) × (slice_get rules index ≡ Some rule) × (does_apply path is_dir rule ≡ true)

-- at some question the one rule applies and the other decides
pub record IsReason (rules : List Rule) (index other : ℕ) : Type 0 where
  pub path : Chars
  pub is_dir : Bool
  pub clean : IsClean path
  pub applies : AppliesAt rules index path is_dir
  pub decided : Decides rules other path is_dir

-- at each question where the rule applies, one of these decides
abbrev pub HasAllReasons : List Rule → ℕ → List ℕ → Type 0
HasAllReasons rules index named =
    (path : Chars) (is_dir : Bool) (other : ℕ) → IsClean path → AppliesAt rules index path is_dir → Decides rules other path is_dir
    → IsIn named other

-- each of these decides at some question where the rule applies, and no other does
pub record AreReasons (rules : List Rule) (index : ℕ) (named : List ℕ) : Type 0 where
  pub each : (other : ℕ) → IsIn named other → IsReason rules index other
  pub all : HasAllReasons rules index named

-- where the rule may apply at this place of a name, one of these decides
abbrev pub IsNamedAt : Table → Bool → ℕ → List ℕ → Place → Bool → Type 0
IsNamedAt table only_dir index named place is_dir =
    (state : ℕ) → place.left ≡ Some state → is_named place.name ≡ true → (not only_dir || is_dir) ≡ true
    → (known : List ℕ) × (table.taking state ≡ Some known)
    × (IsIn known index → (other : ℕ) × (table.decider state is_dir ≡ Some (Some other)) × IsIn named other)

-- so it is at each place
abbrev pub AreNamed : Table → List Place → Bool → ℕ → List ℕ → Type 0
AreNamed table places only_dir index named =
    (i : ℕ) (place : Place) → slice_get places i ≡ Some place → (is_dir : Bool) → IsNamedAt table only_dir index named place is_dir

-- what is found of the rule with this index is so
abbrev pub IsRightFinding : List Rule → ℕ → Finding → Type 0
IsRightFinding rules index (Live question) = IsShortest true rules index (chars (string_bytes question.path)) question.is_dir
IsRightFinding rules index (DeadByFolders example) = DecidesNever true rules index × IsExample rules index example
IsRightFinding rules index (Overruled named) = DecidesNever false rules index × AreReasons rules index named.items
IsRightFinding rules index Unreached = DecidesNever true rules index

-- what is found of each rule, in their order
pub record AreRightFindings (rules : List Rule) (findings : List Finding) : Type 0 where
  pub each : length findings ≡ length rules
  pub right : (index : ℕ) (finding : Finding) → slice_get findings index ≡ Some finding → IsRightFinding rules index finding

-- where there is a state, the table knows a decider there, and it is another
abbrev pub Misses : Table → Option ℕ → Bool → ℕ → Type 0
Misses table None is_dir index = ⊤
Misses table (Some state) is_dir index = (k : Option ℕ) × (table.decider state is_dir ≡ Some k) × (k ≢ Some index)

-- the depth is below the bound, where there is one
abbrev pub is_before : ℕ → Option ℕ → Bool
is_before depth None = true
is_before depth (Some bound) = nat_lt depth bound

-- at this place, where it is of a name and before the bound, another rule decides, or none
abbrev pub MissesAt : Table → List Place → ℕ → Option ℕ → ℕ → Type 0
MissesAt table places index bound i =
    (place : Place) → slice_get places i ≡ Some place → is_named place.name ≡ true → is_before place.depth bound ≡ true
    → (is_dir : Bool) → Misses table place.left is_dir index

-- so it is at each place
abbrev pub MissesBefore : Table → List Place → ℕ → Option ℕ → Type 0
MissesBefore table places index bound = (i : ℕ) → MissesAt table places index bound i
