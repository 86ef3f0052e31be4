-- Numbers as items of an array.
use Rattle.std.proofs.Common.{◌≡◌, ◌<◌, ◌+◌, ◌++◌, ◌||◌, ◌∙◌, ℕ, List, [], ◌∷◌, ap, false, get_or, length, map, refl, sym, take}
use Rattle.std.proofs.lemmas.List.{map-append, take_more}
use Rattle.ignore_base.specs.Text.{Path}
use Rattle.serde_json.specs.Data.{number, unsigned}
use Rattle.serde_json.specs.View.{items_of, view}
use Rattle.serde_json.specs.Written.{has_float, items_have_float}
use Rattle.serde_json.specs.declared.value.Value.{Value}
use Rattle.ig_every.specs.Texts.{finding_data, lines_named, number_data}
use Rattle.ig_every.specs.declared.diagnostic.Diagnostic.{Diagnostic}

-- one number more
pub numbers_more : (lines : List ℕ) (i : ℕ) (old new : List Value) (v : Value) → i < length lines → new ≡ old ++ v ∷ []
    → view v ≡ number (unsigned (get_or lines i 0)) → map view old ≡ map number_data (take i lines)
    → map view new ≡ map number_data (take (i + 1) lines)
numbers_more lines i old new v within grown is so_far =
    ap (map view) grown
    ∙ (map-append view old (v ∷ [])
    ∙ (ap (λ l. l ++ view v ∷ []) so_far
    ∙ (ap (λ d. map number_data (take i lines) ++ d ∷ []) is
    ∙ sym (ap (map number_data) (take_more lines i 0 within) ∙ map-append number_data (take i lines) (get_or lines i 0 ∷ [])))))

-- none is a float
no_float_in : (ns : List ℕ) → items_have_float (items_of (map number_data ns)) ≡ false
no_float_in [] = refl
no_float_in (n ∷ ns) = no_float_in ns

-- what is wrong with a line has no float
pub no_float : (file : Path) (d : Diagnostic) → has_float (finding_data file d) ≡ false
no_float file d = ap (λ b. b || false) (no_float_in (lines_named d.wrong))
