-- The answer of a matcher of file types for a path.
use Rattle.std.specs.Prelude.{◌≡◌, ◌⊎◌, ℕ, zero, suc, Bool, true, false, not, List, [], ◌∷◌, ◌++◌, length, get_or, Option, if◌then◌else◌}
use Rattle.std.specs.Prelude as std
use Rattle.std.specs.List.{list_any}
use Rattle.std.specs.Option.{option_map_or}
use Rattle.std.specs.Str.{chars}
use Rattle.ignore_base.specs.Text.{Bytes, Chars}
use Rattle.ignore_glob.specs.DoesMatch.{does_match}
use Rattle.ignore_base.specs.Match.{match_or}
use Rattle.ignore_glob.specs.Reading.{Reading, Matches}
use Rattle.ignore_base.specs.declared.match_result.Match.{Match}
use Rattle.ignore_base.specs.declared.match_result.Match.TheVariants.{None, Ignore, Whitelist}
use Rattle.ignore_types.specs.Types.{Definition}

-- a chosen type of a matcher: its definition with the globs in the order of adding, what each
-- parses to, and whether the type was negated
pub record Chosen : Type 0 where
  pub definition : Definition
  pub readings : List Reading
  pub negated : Bool

-- a matcher: all types, and those chosen, in the order of choosing
pub record Matcher : Type 0 where
  pub definitions : List Definition
  pub choices : List Chosen

-- the matcher without types
abbrev pub no_types : Matcher
no_types = record { definitions = []; choices = [] }

-- a type and one of its globs: what decided
pub record TypeGlob : Type 0 where
  pub definition : Definition
  pub glob : Bytes

abbrev pub type_glob : Definition → Bytes → TypeGlob
type_glob definition glob = record { definition = definition; glob = glob }

-- the place of the last of the globs that matches the name
abbrev pub last_place : Chars → List Reading → Option ℕ
last_place name [] = std.None
last_place name (r ∷ rs) =
    option_map_or (λ i. std.Some (suc i)) (last_place name rs) (if does_match r name then std.Some zero else std.None)

-- the glob of a chosen type in a place
abbrev pub glob_at : Chosen → ℕ → TypeGlob
glob_at c i = type_glob c.definition (get_or c.definition.globs i [])

-- the match of a chosen type by its glob in a place: whitelist, or ignore where the type was negated
abbrev pub match_by_glob : Chosen → ℕ → Match (Option TypeGlob)
match_by_glob c i = if c.negated then Ignore (std.Some (glob_at c i)) else Whitelist (std.Some (glob_at c i))

-- the match of a choice by the last of its globs that matches the name; none where none does
abbrev pub choice_answer : Chars → Chosen → Match (Option TypeGlob)
choice_answer name c = option_map_or (match_by_glob c) (last_place name c.readings) None

-- the match of the last choice that matches the name: a later choice overrides an earlier one
abbrev pub choices_answer : List Chosen → Chars → Match (Option TypeGlob)
choices_answer [] name = None
choices_answer (c ∷ cs) name = match_or (choices_answer cs name) (choice_answer name c)

-- the match of a file that no glob matches: ignore where some type was selected, else none
abbrev pub unmatched : List Chosen → Match (Option TypeGlob)
unmatched choices = if list_any (λ c. not c.negated) choices then Ignore std.None else None

-- the answer for a path that is a directory or not, by its file name alone: a directory has no
-- match, and no glob matches a file without a name
abbrev pub type_answer : List Chosen → Bool → Option Bytes → Match (Option TypeGlob)
type_answer choices true name = None
type_answer choices false std.None = unmatched choices
type_answer choices false (std.Some name) = match_or (choices_answer choices (chars name)) (unmatched choices)

-- The same in other words, without an order in which choices are tried.

-- some of the globs matches the name
abbrev pub SomeMatches : Chars → List Reading → Type 0
SomeMatches name [] = ⊥
SomeMatches name (r ∷ rs) = Matches r name ⊎ SomeMatches name rs

-- no glob of these choices matches the name
abbrev pub NoneMatches : Chars → List Chosen → Type 0
NoneMatches name [] = Unit {0}
NoneMatches name (c ∷ cs) = ¬ SomeMatches name c.readings × NoneMatches name cs

-- the glob in this place is the last that matches the name
pub record IsLastGlob (name : Chars) (readings : List Reading) (place : ℕ) : Type 0 where
  pub before : List Reading
  pub reading : Reading
  pub after : List Reading
  pub split : readings ≡ before ++ reading ∷ after
  pub there : length before ≡ place
  pub matches : Matches reading name
  pub later : ¬ SomeMatches name after

-- the last choice with a glob that matches the name, and the place of its last such glob: no glob
-- of a later choice matches
pub record IsDeciding (name : Chars) (choices : List Chosen) (choice : Chosen) (place : ℕ) : Type 0 where
  pub before : List Chosen
  pub after : List Chosen
  pub split : choices ≡ before ++ choice ∷ after
  pub last : IsLastGlob name choice.readings place
  pub later : NoneMatches name after

-- the answer for a file of this name, a list of characters
abbrev pub IsNameAnswer : List Chosen → Chars → Match (Option TypeGlob) → Type 0
IsNameAnswer choices name m =
    ((c : Chosen) × (i : ℕ) × IsDeciding name choices c i × (m ≡ match_by_glob c i)) ⊎ (NoneMatches name choices × (m ≡ unmatched choices))

-- the answer for a path that is a directory or not, by its file name
abbrev pub IsTypeAnswer : List Chosen → Bool → Option Bytes → Match (Option TypeGlob) → Type 0
IsTypeAnswer choices true name m = m ≡ None
IsTypeAnswer choices false std.None m = m ≡ unmatched choices
IsTypeAnswer choices false (std.Some name) m = IsNameAnswer choices (chars name) m

-- for all choices, kinds and names, the answer is that of the last choice that matches, by the last
-- of its globs that does
abbrev pub AnswersByTheLastChoice : Type 0
AnswersByTheLastChoice =
    (choices : List Chosen) (is_dir : Bool) (name : Option Bytes) → IsTypeAnswer choices is_dir name (type_answer choices is_dir name)
