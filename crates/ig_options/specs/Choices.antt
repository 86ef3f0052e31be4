-- File types of the command line, and which types are chosen.
use Rattle.std.specs.Prelude.{◌≡◌, ◌⊎◌, Bool, true, false, List, [], ◌∷◌, None}
use Rattle.ignore_base.specs.Text.{Bytes}
use Rattle.ignore_base.specs.Problem.{Problem, invalid_definition}
use Rattle.ignore_types.specs.Building.{IsRefusedWith}
use Rattle.ignore_types.specs.Types.{Becomes, Draft, after_request, request_of, with_chosen}
use Rattle.ig_options.specs.declared.options.Options.{Options}

-- adding these definitions in turn leads from the old draft to the new one
abbrev pub AddsTypes : List Bytes → Draft → Draft → Type 0
AddsTypes [] old new = new ≡ old
AddsTypes (text ∷ texts) old new =
    (next : Draft) × Becomes old (after_request (request_of text) old.definitions) next × AddsTypes texts next new

-- one of these definitions isn't allowed, and that is the problem: the first, or a later one after
-- the first was added
abbrev pub RefusesDefinitions : List Bytes → Draft → Problem → Type 0
RefusesDefinitions [] old problem = ⊥
RefusesDefinitions (text ∷ texts) old problem =
    ((after_request (request_of text) old.definitions ≡ None) × (problem ≡ invalid_definition))
    ⊎ ((next : Draft) × Becomes old (after_request (request_of text) old.definitions) next × RefusesDefinitions texts next problem)

-- the draft with the choices of each of these names in turn
abbrev pub with_all_chosen : Bool → List Bytes → Draft → Draft
with_all_chosen negated [] draft = draft
with_all_chosen negated (name ∷ names) draft = with_all_chosen negated names (with_chosen negated name draft)

-- the draft of which these names are selected, and then those negated
abbrev pub with_choices : Options → Draft → Draft
with_choices o draft = with_all_chosen true o.types_not (with_all_chosen false o.types draft)

-- the draft is the first one with the definitions and the choices that are asked for
abbrev pub IsDraft : Options → Draft → Draft → Type 0
IsDraft o first draft = (defined : Draft) × AddsTypes o.type_add first defined × (draft ≡ with_choices o defined)

-- a definition isn't allowed, or the matcher can't be built of the draft, and that is the problem
abbrev pub RefusesTypes : Options → Draft → Problem → Type 0
RefusesTypes o first problem =
    RefusesDefinitions o.type_add first problem ⊎ ((draft : Draft) × IsDraft o first draft × IsRefusedWith draft problem)
