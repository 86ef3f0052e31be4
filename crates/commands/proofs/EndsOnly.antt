-- What a list, a check and an early end pin: one status, and what is written and reported.
use Rattle.std.proofs.Common.{◌≡◌, ◌∙◌, ◌⊎◌, ℕ, List, [], ◌++◌, Option, None, Some, append_assoc, ap, inl, inr, refl, sym}
use Rattle.std.proofs.lemmas.List.{append-nil}
use Rattle.std.specs.List.{flat_map}
use Rattle.std.specs.Prelude.{option_to_list}
use Rattle.std.specs.Str.Lines.{lines}
use Rattle.ignore_walk.specs.Entry.{Item}
use Rattle.commands.specs.declared.stop.Stop.{Stop}
use Rattle.commands.specs.declared.stop.Stop.TheVariants.{Usage, Memory, Write, Silence}
use Rattle.commands.specs.Checking.{Checked, Checks}
use Rattle.commands.specs.Listing.{Lists}
use Rattle.commands.specs.Stops.{BreaksOff, Ends, EndsAfter, EndsReportedAfter, EndsUnreportedAfter, HasRefused, reason}
use Rattle.commands.specs.Words.{Question}

-- a list of some items has one status
pub Lists-one : (items : List Item) (a b : ℕ) (out err over there : List ℕ → Type 0) → Lists items a out err
    → Lists items b over there → a ≡ b
Lists-one items a b out err over there h k = h.ends ∙ sym k.ends

-- so has a check with some answers
pub Checks-one : (paths others : List (List ℕ)) (all : List Checked) (a b : ℕ) (out err over there : List ℕ → Type 0)
    → Checks paths all a out err → Checks others all b over there → (a ≡ b) × (paths ≡ others)
Checks-one paths others all a b out err over there h k = (h.ends ∙ sym k.ends, sym h.asked ∙ k.asked)

-- a run of a question that ends in silence has written nothing, and a line of its rules is rejected
pub ends_in_silence : (question : Question) (out err : List ℕ → Type 0) → Ends question out err Silence
    → out [] × HasRefused question.root (lines question.rules)
ends_in_silence question out err h = h

-- no list and no check ends for wrong arguments
pub never_for_usage : {T : Type 0} (line report : T → List ℕ) (all : List T) (next : Option T) (out err : List ℕ → Type 0)
    → EndsAfter line report all next out err Usage → ⊥
never_for_usage line report all next out err h = h

-- one that ends out of memory has written and reported what came before, and nothing else
pub ends_out_of_memory : {T : Type 0} (line report : T → List ℕ) (all : List T) (next : Option T) (out err : List ℕ → Type 0)
    → EndsAfter line report all next out err Memory → out (flat_map line all) × err (flat_map report all)
ends_out_of_memory line report all next out err h = h

-- whatever ends it, what is written is a beginning of the lines of the things before and of the next one
pub written_is_begun : {T : Type 0} (line report : T → List ℕ) (all : List T) (next : Option T) (out err : List ℕ → Type 0) (stop : Stop)
    → EndsAfter line report all next out err stop
    → (part rest : List ℕ) × (flat_map line all ++ flat_map line (option_to_list next) ≡ part ++ rest) × out part
written_is_begun line report all next out err Usage h = absurd h
written_is_begun line report all next out err Memory h = (flat_map line all, flat_map line (option_to_list next), refl, h.0)
written_is_begun line report all None out err Write h = absurd h
written_is_begun line report all (Some x) out err Write h = (
  flat_map line all ++ h.0.0,
  h.0.1,
  ap (λ ys. flat_map line all ++ ys) (append-nil (line x) ∙ h.0.2) ∙ sym (append_assoc (flat_map line all) h.0.0 h.0.1),
  h.0.4,
)
written_is_begun line report all None out err Silence h = absurd h
written_is_begun line report all (Some x) out err Silence h = (
  flat_map line all ++ line x,
  [],
  ap (λ ys. flat_map line all ++ ys) (append-nil (line x)) ∙ sym (append-nil (flat_map line all ++ line x)),
  h.0,
)

-- where the reason is reported, it comes after the reports before it, which are all the others
pub reason_is_last : (said : Stop → Type 0) {T : Type 0} (line report : T → List ℕ) (all : List T) (next : Option T) (out err : List ℕ → Type 0)
    → EndsReportedAfter said line report all next out err → (stop : Stop) × err (flat_map report all ++ reason stop)
reason_is_last said line report all next out err (Usage, can, h, why) = absurd h
reason_is_last said line report all next out err (Memory, can, h, why) = (Memory, h.1)
reason_is_last said line report all None out err (Write, can, h, why) = absurd h
reason_is_last said line report all (Some x) out err (Write, can, h, why) = (Write, h.1)
reason_is_last said line report all next out err (Silence, can, h, why) = absurd (can refl)

-- where it can't be reported, a beginning of it comes there, and not all of it; or a report before it
-- couldn't be written
pub reason_is_cut : {T : Type 0} (line report : T → List ℕ) (all : List T) (next : Option T) (out err : List ℕ → Type 0) (stop : Stop)
    → EndsUnreportedAfter line report all next out err stop
    → (stop ≡ Silence) ⊎ BreaksOff (flat_map report all) (reason stop) err
reason_is_cut line report all next out err Usage h = absurd h
reason_is_cut line report all next out err Memory h = inr h.1
reason_is_cut line report all None out err Write h = absurd h
reason_is_cut line report all (Some x) out err Write h = inr h.1
reason_is_cut line report all next out err Silence h = inl refl
