-- Lines of rules added in turn.
use Rattle.std.proofs.Common.{◌≡◌, ◌<◌, ◌+◌, ◌∙◌, ℕ, zero, suc, add-one, IfSome, List, [], ◌∷◌, ◌++◌, None, Option, Some, ap, get_or, length, refl, sym, subst, take}
use Rattle.std.proofs.lemmas.List.{append-nil, take_more}
use Rattle.std.specs.Option.{option_to_list}
use Rattle.ignore_rules.specs.Rules.{AddsLine, Building, Rule}
use Rattle.ig_every.specs.Notes.{AddsTexts, AreNotes, IsNote, none_yet, noted, passed}
use Rattle.ig_every.specs.declared.diagnostic.Diagnostic.{Diagnostic}
use Rattle.ig_every.specs.declared.reading.HowRead.{HowRead}

-- some lines, and then others
pub texts_then : (rules more : List Rule) (old between new : Building) → AddsTexts rules old between → AddsTexts more between new
    → AddsTexts (rules ++ more) old new
texts_then [] more old between new same h = subst (λ (b : Building). AddsTexts more b new) same h
texts_then (rule ∷ rules) more old between new (first, line, rest) h = (first, line, texts_then rules more first between new rest h)

-- one line more
pub texts_more : (rules : List Rule) (rule : Rule) (old between new : Building) → AddsTexts rules old between
    → AddsLine between None rule.original new → AddsTexts (rules ++ rule ∷ []) old new
texts_more rules rule old between new h line = texts_then rules (rule ∷ []) old between new h (new, line, refl)

-- the lines of the rules up to one more
pub text_at : (rules : List Rule) (i : ℕ) (rule : Rule) (text : List ℕ) (old between new : Building) → i < length rules → rule ≡ get_or rules i rule
    → text ≡ rule.original → AddsTexts (take i rules) old between → AddsLine between None text new → AddsTexts (take (i + 1) rules) old new
text_at rules i rule text old between new within here is h line =
    let more : take (i + 1) rules ≡ take i rules ++ rule ∷ [] = take_more rules i rule within ∙ ap (λ x. take i rules ++ x ∷ []) (sym here) in
    subst (λ (rs : List Rule). AddsTexts rs old new) (sym more)
    (texts_more (take i rules) rule old between new h (subst (λ (t : List ℕ). AddsLine between None t new) is line))

-- one note more, or none
pub note_more : (how : HowRead) (rules : List Rule) (found : List (Option Diagnostic)) (index : ℕ) (note : Option Diagnostic) (old new : List Diagnostic)
    → AreNotes how rules found index old → IfSome note (IsNote how rules found index) → new ≡ old ++ option_to_list note
    → AreNotes how rules found (index + 1) new
note_more how rules found index None old new h is same =
    subst (AreNotes how rules found (index + 1)) (sym (same ∙ append-nil old)) (passed index old h)
note_more how rules found index (Some d) old new h is same =
    subst (AreNotes how rules found (index + 1)) (sym same) (noted index old d h is)

-- no notes
pub no_notes : (how : HowRead) (rules : List Rule) (found : List (Option Diagnostic)) (n : ℕ) → AreNotes how rules found n []
no_notes how rules found zero = none_yet
no_notes how rules found (suc n) = subst (λ k. AreNotes how rules found k []) (add-one n) (passed n [] (no_notes how rules found n))
