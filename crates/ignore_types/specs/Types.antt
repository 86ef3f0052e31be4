-- File types as plain data: what a builder collects.
use Rattle.std.specs.Prelude.{◌≡◌, ℕ, Bool, List, [], ◌∷◌, ◌++◌, Option, Some, None, is_some, map, filter, find, not, ◌==◌, ◌&&◌, length}
use Rattle.std.specs.Prelude.{codes, IsPermutation, IsSorted, if◌then◌else◌}
use Rattle.std.specs.List.{slice_split, list_all}
use Rattle.std.specs.Option.{option_map_or}
use Rattle.std.specs.Str.{bytes_eq}
use Rattle.std.specs.Ordering.{nat_cmp, on, eq_of_both}
use Rattle.std.specs.Cmp.Lexicographic.{slice_cmp, pointwise, lists_equiv}
use Rattle.std.specs.Cmp.{IsEquivalence, and_equiv, on_equiv, nat_eq_equiv}
use Rattle.std.specs.declared.cmp.Ordering.{Ordering}
use Rattle.std.specs.declared.cmp.Ordering.TheVariants.{Less, Equal, Greater}
use Rattle.ignore_base.specs.Text.{Bytes}
use Rattle.ignore_types.specs.TypeNames.{is_type_name, every_type}

-- a file type: its name, and its globs in the order of adding
pub record Definition : Type 0 where
  pub name : Bytes
  pub globs : List Bytes

-- a choice: the name of a type, and whether it is negated
pub record Choice : Type 0 where
  pub name : Bytes
  pub negated : Bool

-- a builder: its types in text order of their names, and its choices in the order of choosing
pub record Draft : Type 0 where
  pub definitions : List Definition
  pub choices : List Choice

-- two definitions have the same name and the same globs
abbrev pub same_definition : Definition → Definition → Bool
same_definition = eq_of_both (on (λ d. d.name) bytes_eq) (on (λ d. d.globs) (pointwise bytes_eq))

-- this test is an equivalence, as `==` has to be
pub same_definition-equiv : IsEquivalence same_definition
same_definition-equiv =
    and_equiv (on_equiv (λ d. d.name) (lists_equiv nat_eq_equiv)) (on_equiv (λ d. d.globs) (lists_equiv (lists_equiv nat_eq_equiv)))

-- the order of texts: that of their bytes
abbrev pub text_cmp : Bytes → Bytes → Ordering
text_cmp = slice_cmp nat_cmp

-- each of these has a name after the given one
abbrev pub AllAfter : Bytes → List Definition → Type 0
AllAfter name [] = Unit {0}
AllAfter name (d ∷ ds) = (text_cmp name d.name ≡ Less) × AllAfter name ds

-- each name comes before those of all later ones
abbrev pub IsAscending : List Definition → Type 0
IsAscending [] = Unit {0}
IsAscending (d ∷ ds) = AllAfter d.name ds × IsAscending ds

-- the definition with a name
abbrev pub definition_of : Bytes → List Definition → Option Definition
definition_of name ds = find (λ d. bytes_eq d.name name) ds

-- the first definition comes before the name, has it, or comes after it
abbrev pub inserted : Ordering → Bytes → Bytes → Definition → List Definition → List Definition → List Definition
inserted Less name glob d ds more = d ∷ more
inserted Equal name glob d ds more = record { name = d.name; globs = d.globs ++ glob ∷ [] } ∷ ds
inserted Greater name glob d ds more = record { name = name; globs = glob ∷ [] } ∷ (d ∷ ds)

-- the glob appended to those of the name; a new name is inserted in text order
abbrev pub with_glob : Bytes → Bytes → List Definition → List Definition
with_glob name glob [] = record { name = name; globs = glob ∷ [] } ∷ []
with_glob name glob (d ∷ ds) = inserted (text_cmp d.name name) name glob d ds (with_glob name glob ds)

-- the globs of a type; none where the type is unknown
abbrev pub globs_of : Bytes → List Definition → List Bytes
globs_of name ds = option_map_or (λ d. d.globs) (definition_of name ds) []

-- each of the globs, in turn, appended to those of the name
abbrev pub with_globs : Bytes → List Bytes → List Definition → List Definition
with_globs name [] ds = ds
with_globs name (glob ∷ globs) ds = with_globs name globs (with_glob name glob ds)

-- the globs of each of the sources, in turn, appended to those of the name
abbrev pub with_sources : Bytes → List Bytes → List Definition → List Definition
with_sources name [] ds = ds
with_sources name (source ∷ sources) ds = with_sources name sources (with_globs name (globs_of source ds) ds)

-- each of the names has a definition
abbrev pub has_all : List Bytes → List Definition → Bool
has_all names ds = list_all (λ name. is_some (definition_of name ds)) names

-- the definitions without that of a name
abbrev pub without : Bytes → List Definition → List Definition
without name ds = filter (λ d. not (bytes_eq d.name name)) ds

-- the same name, with the globs sorted as texts
pub record IsSortedCopy (d sorted : Definition) : Type 0 where
  pub same_name : sorted.name ≡ d.name
  pub same_globs : IsPermutation d.globs sorted.globs
  pub in_order : IsSorted text_cmp sorted.globs

-- what the text of a definition parses to: one glob for a name, or the globs of other types for a
-- name; other texts are unreadable
pub data Request : Type 0 where
  one_glob : (name glob : Bytes) → Request
  included : (name : Bytes) (sources : List Bytes) → Request
  unreadable : Request

-- the text is not empty
abbrev pub is_filled : Bytes → Bool
is_filled text = not (length text == 0)

-- two nonempty fields are a name and a glob; three fields, `include` between two nonempty ones, are
-- a name and a list of types, separated by commas; all else is unreadable
abbrev pub request_of_fields : List Bytes → Request
request_of_fields [] = unreadable
request_of_fields (name ∷ []) = unreadable
request_of_fields (name ∷ (glob ∷ [])) = if is_filled name && is_filled glob then one_glob name glob else unreadable
request_of_fields (name ∷ (word ∷ (sources ∷ []))) =
    if is_filled name && bytes_eq word (codes "include") && is_filled sources
    then included name (slice_split (λ b. b == 44) sources) else unreadable
request_of_fields (name ∷ (word ∷ (sources ∷ (field ∷ fields)))) = unreadable

-- the fields of a definition are separated by colons
abbrev pub request_of : Bytes → Request
request_of text = request_of_fields (slice_split (λ b. b == 58) text)

-- the definitions after a request, where it is allowed: its name is valid, and each type that it
-- includes exists
abbrev pub after_request : Request → List Definition → Option (List Definition)
after_request (one_glob name glob) ds = if is_type_name name then Some (with_glob name glob ds) else None
after_request (included name sources) ds = if is_type_name name && has_all sources ds then Some (with_sources name sources ds) else None
after_request unreadable ds = None

-- the definitions become these, and the choices stay
abbrev pub Becomes : Draft → Option (List Definition) → Draft → Type 0
Becomes old definitions new = (definitions ≡ Some new.definitions) × (new.choices ≡ old.choices)

-- the choices that choosing a name adds: the word for all types stands for each type that exists,
-- in text order
abbrev pub chosen : Bool → Bytes → List Definition → List Choice
chosen negated name ds =
    if bytes_eq name every_type then map (λ d. record { name = d.name; negated = negated }) ds
    else record { name = name; negated = negated } ∷ []

-- the draft with the choices that choosing a name adds
abbrev pub with_chosen : Bool → Bytes → Draft → Draft
with_chosen negated name draft =
    record { definitions = draft.definitions; choices = draft.choices ++ chosen negated name draft.definitions }

-- each of the globs appended to those of each of the names, in turn
abbrev pub with_names : List Bytes → List Bytes → List Definition → List Definition
with_names [] globs ds = ds
with_names (name ∷ names) globs ds = with_names names globs (with_globs name globs ds)
