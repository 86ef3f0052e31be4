-- Which rules of a handle can't decide, over all paths, as C is told it.
use Rattle.std.specs.Prelude.{◌≡◌, ◌⊎◌, ◌<◌, ℕ, Bool, true, false, List, [], ◌∷◌, ◌++◌, Option, Some, None, Result, Ok, Err, length, slice_get, string_bytes}
use Rattle.ignore_base.specs.Text.{Bytes}
use Rattle.ignore_every.specs.Findings.{AreRightFindings, DecidesNever, IsRightFinding}
use Rattle.ignore_every.specs.Machines.{IsIn}
use Rattle.ignore_every.specs.declared.findings.Example.{Example}
use Rattle.ignore_every.specs.declared.findings.Finding.{Finding}
use Rattle.ignore_every.specs.declared.findings.Finding.TheVariants.{Live, DeadByFolders, Overruled, Unreached}
use Rattle.ignore_rules.specs.Rules.{Rule, Ruleset}
use Rattle.ignore_kept.specs.Asks.{KeepsRules, rules_of}
use Rattle.ignore_kept.specs.Stops.{stop_code}
use Rattle.ignore_kept.specs.declared.findings.Dead.{Dead}
use Rattle.ignore_kept.specs.declared.findings.Findings.{Findings}
use Rattle.ignore_kept.specs.declared.findings.Parts.{Parts}
use Rattle.ignore_kept.specs.declared.kept.Kept.{Kept}
use Rattle.ignore_kept.specs.declared.kept.Kept.TheVariants as keeps
use Rattle.ignore_kept.specs.declared.stopped.Stopped.{Stopped}
use Rattle.ignore_kept.specs.declared.stopped.Stopped.TheVariants.{Memory, Invalid, Misused, TooLarge}

-- these indices, which grow, are those of the rules that decide on no question which the rules reach
pub record AreDead (rules : List Rule) (dead : List ℕ) : Type 0 where
  pub each : (i index : ℕ) → slice_get dead i ≡ Some index → (index < length rules) × DecidesNever true rules index
  pub all : (index : ℕ) → index < length rules → DecidesNever true rules index → IsIn dead index
  pub order : (i j index other : ℕ) → i < j → slice_get dead i ≡ Some index → slice_get dead j ≡ Some other → index < other

-- what is found of each rule is so, and these are the dead ones
pub record AreFindings (rules : List Rule) (found : Findings) : Type 0 where
  pub right : AreRightFindings rules found.all.items
  pub dead : AreDead rules found.dead.items

-- looking for dead rules gives what a handle keeps, or says why not
abbrev pub Finds : Kept → Result Kept Stopped → Type 0
Finds old (Ok kept) =
    (rules : Ruleset) × (found : Findings) × (rules_of old ≡ Some rules) × AreFindings rules.rules found × (kept ≡ keeps.Findings found)
Finds old (Err Misused) = rules_of old ≡ None
Finds old (Err Memory) = Unit {0}
Finds old (Err Invalid) = KeepsRules old
Finds old (Err TooLarge) = KeepsRules old
Finds old (Err other) = ⊥

-- another thing was found of a rule than a question on which it decides and that is reached
abbrev pub is_dead : Option Finding → Bool
is_dead None = false
is_dead (Some (Live question)) = false
is_dead (Some (DeadByFolders example)) = true
is_dead (Some (Overruled named)) = true
is_dead (Some Unreached) = true

-- these indices, which grow, are those of such findings below a bound
pub record AreDeadBelow (findings : List Finding) (bound : ℕ) (dead : List ℕ) : Type 0 where
  pub each : (i index : ℕ) → slice_get dead i ≡ Some index → (index < bound) × (is_dead (slice_get findings index) ≡ true)
  pub all : (index : ℕ) → index < bound → is_dead (slice_get findings index) ≡ true → IsIn dead index
  pub order : (i j index other : ℕ) → i < j → slice_get dead i ≡ Some index → slice_get dead j ≡ Some other → index < other

-- the parts of a finding: its kind, how many rules overrule the rule, the path of an example and the
-- folder in it, which rule ignores the folder, and whether the path is a directory's
pub record FindingParts : Type 0 where
  pub kind : ℕ
  pub overruling : ℕ
  pub path : Bytes
  pub folder : Bytes
  pub folder_rule : ℕ
  pub is_dir : Bool

-- a kind alone; 0 is that of a rule that isn't dead
abbrev pub alone : ℕ → FindingParts
alone kind = record { kind = kind; overruling = 0; path = []; folder = []; folder_rule = 0; is_dir = false }

-- a rule that decides on no question at all: those that overrule it, or that it applies to nothing
abbrev pub overruled_parts : List ℕ → FindingParts
overruled_parts [] = alone 2
overruled_parts (rule ∷ rules) = record (alone 1) { overruling = length (rule ∷ rules) }

-- a rule that decides in ignored folders alone
abbrev pub example_parts : Example → FindingParts
example_parts example =
    record (alone 3) {
      path = string_bytes example.question.path;
      folder = string_bytes example.folder;
      folder_rule = example.rule;
      is_dir = example.question.is_dir;
    }

abbrev pub parts_of : Finding → FindingParts
parts_of (Live question) = alone 0
parts_of (Overruled named) = overruled_parts named.items
parts_of (DeadByFolders example) = example_parts example
parts_of Unreached = alone 4

-- parts that are lent, as plain data
abbrev pub parts_in : Parts → FindingParts
parts_in p =
    record {
      kind = p.kind;
      overruling = p.overruling;
      path = p.path.now;
      folder = p.folder.now;
      folder_rule = p.folder_rule;
      is_dir = p.is_dir;
    }

-- how the parts of what is found of a rule are told: numbers, and the lengths of texts
abbrev pub told_as : ℕ → FindingParts → Dead
told_as rule p =
    record {
      kind = p.kind;
      rule = rule;
      overruling = p.overruling;
      path = length p.path;
      folder = length p.folder;
      folder_rule = p.folder_rule;
      is_dir = p.is_dir;
    }

-- and their texts, one after the other
abbrev pub texts_of : FindingParts → Bytes
texts_of p = p.path ++ p.folder

-- where there is no dead rule
abbrev pub no_dead : Dead
no_dead = record { kind = 0; rule = 0; overruling = 0; path = 0; folder = 0; folder_rule = 0; is_dir = false }

-- what is found of a rule is told, or there is nothing, or memory ran out
abbrev pub TellsRule : ℕ → Option Finding → ℕ → Dead → Bytes → Type 0
TellsRule rule None code dead text = (code ≡ 1) × (dead ≡ no_dead) × (text ≡ [])
TellsRule rule (Some finding) code dead text =
    ((code ≡ 0) × (dead ≡ told_as rule (parts_of finding)) × (text ≡ texts_of (parts_of finding)))
    ⊎ ((code ≡ stop_code Memory) × (dead ≡ no_dead) × (text ≡ []))

-- the same of the dead rule with this index, if there is one
abbrev pub TellsDead : List Finding → Option ℕ → ℕ → Dead → Bytes → Type 0
TellsDead findings None code dead text = (code ≡ 1) × (dead ≡ no_dead) × (text ≡ [])
TellsDead findings (Some rule) code dead text = TellsRule rule (slice_get findings rule) code dead text

-- the same of the dead rule at an index of a handle's findings
abbrev pub TellsFinding : Option Findings → ℕ → ℕ → Dead → Bytes → Type 0
TellsFinding None index code dead text = (code ≡ stop_code Misused) × (dead ≡ no_dead) × (text ≡ [])
TellsFinding (Some found) index code dead text =
    TellsDead found.all.items (slice_get found.dead.items index) code dead text

-- the rules that overrule one
abbrev pub named_in : Finding → List ℕ
named_in (Live question) = []
named_in (DeadByFolders example) = []
named_in (Overruled named) = named.items
named_in Unreached = []

abbrev pub named_by : Option Finding → ℕ → Option ℕ
named_by None number = None
named_by (Some finding) number = slice_get (named_in finding) number

abbrev pub named_at : List Finding → Option ℕ → ℕ → Option ℕ
named_at findings None number = None
named_at findings (Some rule) number = named_by (slice_get findings rule) number

-- of the rules that overrule the dead rule at an index, the one with a number
abbrev pub overruling_at : Findings → ℕ → ℕ → Option ℕ
overruling_at found index number = named_at found.all.items (slice_get found.dead.items index) number

-- an index is told, or there is none
abbrev pub TellsIndex : Option ℕ → ℕ → ℕ → Type 0
TellsIndex None code rule = (code ≡ 1) × (rule ≡ 0)
TellsIndex (Some other) code rule = (code ≡ 0) × (rule ≡ other)

abbrev pub TellsOverruling : Option Findings → ℕ → ℕ → ℕ → ℕ → Type 0
TellsOverruling None index number code rule = (code ≡ stop_code Misused) × (rule ≡ 0)
TellsOverruling (Some found) index number code rule = TellsIndex (overruling_at found index number) code rule

-- what is told of a dead rule is so: it decides on no question that is reached, and what is told is a
-- finding of it that is right
pub record IsToldRight (rules : List Rule) (dead : Dead) (text : Bytes) : Type 0 where
  pub finding : Finding
  pub never : DecidesNever true rules dead.rule
  pub right : IsRightFinding rules dead.rule finding
  pub told : dead ≡ told_as dead.rule (parts_of finding)
  pub texts : text ≡ texts_of (parts_of finding)
