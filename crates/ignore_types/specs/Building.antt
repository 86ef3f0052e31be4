-- Building a matcher of file types, and the errors of building.
use Rattle.std.specs.Prelude.{◌≡◌, ◌⊎◌, ℕ, false, List, ◌∷◌, ◌++◌, Some, None}
use Rattle.std.specs.List.{AllZip}
use Rattle.std.specs.Str.{chars}
use Rattle.ignore_base.specs.Text.{Bytes}
use Rattle.ignore_glob.specs.declared.glob.options.Options.{Options}
use Rattle.ignore_glob.specs.declared.glob.fault.GlobFault.{GlobFault}
use Rattle.ignore_glob.specs.GlobFaults.{glob_fault_text}
use Rattle.ignore_base.specs.Problem.{Problem, glob, unrecognized}
use Rattle.ignore_glob.specs.Reading.{Reading}
use Rattle.ignore_glob.specs.Row.{Reads, IsFaulty}
use Rattle.ignore_types.specs.Types.{Definition, Choice, Draft, definition_of, IsSortedCopy, IsAscending}
use Rattle.ignore_types.specs.TypeMatch.{Chosen, Matcher}

-- the globs of types are parsed with both options off
abbrev pub plain : Options
plain = record { case_insensitive = false; allow_unclosed_class = false }

-- a glob parses to this reading
pub record IsReadAs (text : Bytes) (reading : Reading) : Type 0 where
  pub reads : Reads plain (chars text) reading.tokens
  pub case : reading.case_insensitive ≡ false

-- a choice becomes this one of a matcher: the definition with its name, and its parsed globs
pub record IsChosen (definitions : List Definition) (choice : Choice) (chosen : Chosen) : Type 0 where
  pub defined : definition_of choice.name definitions ≡ Some chosen.definition
  pub readings : AllZip IsReadAs chosen.definition.globs chosen.readings
  pub negated : chosen.negated ≡ choice.negated

-- a draft becomes this matcher: its definitions sorted by name, the globs of each sorted, and each
-- choice in its place
pub record IsBuilt (draft : Draft) (matcher : Matcher) : Type 0 where
  pub definitions : AllZip IsSortedCopy draft.definitions matcher.definitions
  pub by_name : IsAscending matcher.definitions
  pub choices : AllZip (IsChosen draft.definitions) draft.choices matcher.choices

-- one of the list is bad, and each before it is good with some value
pub record FirstBad {A B : Type 0} (Good : A → B → Type 0) (Bad : A → Type 0) (xs : List A) : Type 0 where
  pub before : List A
  pub goods : List B
  pub bad : A
  pub after : List A
  pub split : xs ≡ before ++ bad ∷ after
  pub good : AllZip Good before goods
  pub fails : Bad bad

-- the problem is that of an invalid glob
abbrev pub IsGlobProblem : Problem → Bytes → Type 0
IsGlobProblem p text = (f : GlobFault) × IsFaulty plain (chars text) f × (p ≡ glob (Some text) (glob_fault_text f))

-- a choice is rejected with this problem: no type has its name, or the problem is that of the first
-- invalid glob of its type
abbrev pub IsChoiceProblem : List Definition → Problem → Choice → Type 0
IsChoiceProblem definitions p choice =
    ((definition_of choice.name definitions ≡ None) × (p ≡ unrecognized choice.name))
    ⊎ ((d : Definition) × (definition_of choice.name definitions ≡ Some d) × FirstBad IsReadAs (IsGlobProblem p) d.globs)

-- a draft is rejected with the problem of the first choice that has one
abbrev pub IsRefusedWith : Draft → Problem → Type 0
IsRefusedWith draft p = FirstBad (IsChosen draft.definitions) (IsChoiceProblem draft.definitions p) draft.choices
