-- What stands on a writer after a buffer before it was flushed.
use Rattle.std.proofs.Common.{◌≡◌, ◌∙◌, ℕ, List, [], ◌++◌, Option, Some, ap, subst}
use Rattle.std.proofs.Common.{None as Nothing}
use Rattle.std.proofs.lemmas.List.{append-nil}
use Rattle.std.specs.Io.KnownBytes.{append_known, Appends, Keeps}
use Rattle.commands.specs.declared.stop.Stop.{Stop}
use Rattle.commands.specs.declared.stop.Stop.TheVariants.{Usage, Memory, Write, Silence}
use Rattle.commands.specs.Checking.{Checked, Checks}
use Rattle.commands.specs.Listing.{Lists}
use Rattle.commands.specs.Matching.{Prints}
use Rattle.commands.specs.Stops.{EndsAfter, EndsReported, EndsReportedAfter, Wrote, reason}
use Rattle.commands.specs.Words.{Question}
use Rattle.ignore_walk.specs.Entry.{Item}

-- what is kept by two steps
pub keeps_on : (a b c : Option (List ℕ)) → Keeps a b → Keeps b c → Keeps a c
keeps_on Nothing b c h k = tt
keeps_on (Some a) Nothing c h k = absurd h
keeps_on (Some a) (Some b) Nothing h k = absurd k
keeps_on (Some a) (Some b) (Some c) h k = k ∙ h

grown : (before middle after : Option (List ℕ)) (first bs : List ℕ) → first ≡ [] → Keeps middle after
    → Appends (append_known before first) middle bs → Appends before after bs
grown Nothing middle after first bs none k h = tt
grown (Some a) Nothing after first bs none k h = absurd h
grown (Some a) (Some m) Nothing first bs none k h = absurd k
grown (Some a) (Some m) (Some z) first bs none k h =
    k ∙ (h ∙ ap (λ f. f ++ bs) (ap (λ f. a ++ f) none ∙ append-nil a))

-- what was appended to an empty buffer stands on the writer after it, once that keeps all
pub written_on : {T : Type 0} (contents : T → Option (List ℕ)) (before inner : T) (first : List ℕ) (middle after : Option (List ℕ))
    (bs : List ℕ) → inner ≡ before → first ≡ [] → Keeps middle after → Appends (append_known (contents inner) first) middle bs
    → Appends (contents before) after bs
written_on contents before inner first middle after bs is none k h =
    grown (contents before) middle after first bs none k (subst (λ w. Appends (append_known (contents w) first) middle bs) is h)

-- what holds of an output holds of another one that has the same
pub prints_over : (question : Question) (status : ℕ) (out over err : List ℕ → Type 0) → ((bs : List ℕ) → out bs → over bs)
    → Prints question status out err → Prints question status over err
prints_over question status out over err same h =
    record { builder = h.builder; refused = h.refused; adds = h.adds; answers = same _ h.answers; ends = h.ends }

pub lists_over : (items : List Item) (status : ℕ) (out over err : List ℕ → Type 0) → ((bs : List ℕ) → out bs → over bs)
    → Lists items status out err → Lists items status over err
lists_over items status out over err same h =
    record { lists = same _ h.lists; reports = h.reports; ends = h.ends; enough = h.enough }

pub checks_over : (paths : List (List ℕ)) (all : List Checked) (status : ℕ) (out over err : List ℕ → Type 0)
    → ((bs : List ℕ) → out bs → over bs) → Checks paths all status out err → Checks paths all status over err
checks_over paths all status out over err same h =
    record { asked = h.asked; answers = same _ h.answers; reports = h.reports; ends = h.ends }

wrote_over : (out over : List ℕ → Type 0) (stop : Stop) → ((bs : List ℕ) → out bs → over bs) → Wrote out stop → Wrote over stop
wrote_over out over Usage same h = same _ h
wrote_over out over Memory same h = same _ h
wrote_over out over Write same h = h
wrote_over out over Silence same h = same _ h

pub ends_over : (said : Stop → Type 0) (question : Question) (out over err : List ℕ → Type 0) → ((bs : List ℕ) → out bs → over bs)
    → EndsReported said question out err → EndsReported said question over err
ends_over said question out over err same h = (h.0, h.1, wrote_over out over h.0 same h.2, h.3, h.4)

ended_over : {T : Type 0} (line report : T → List ℕ) (all : List T) (next : Option T) (out over err : List ℕ → Type 0) (stop : Stop)
    → ((bs : List ℕ) → out bs → over bs) → EndsAfter line report all next out err stop → EndsAfter line report all next over err stop
ended_over line report all next out over err Usage same h = absurd h
ended_over line report all next out over err Memory same h = (same _ h.0, h.1)
ended_over line report all Nothing out over err Write same h = absurd h
ended_over line report all (Some x) out over err Write same h = ((h.0.0, h.0.1, h.0.2, h.0.3, same _ h.0.4), h.1)
ended_over line report all Nothing out over err Silence same h = absurd h
ended_over line report all (Some x) out over err Silence same h = (same _ h.0, h.1)

pub ends_after_over : (said : Stop → Type 0) {T : Type 0} (line report : T → List ℕ) (all : List T) (next : Option T) (out over err : List ℕ → Type 0)
    → ((bs : List ℕ) → out bs → over bs) → EndsReportedAfter said line report all next out err
    → EndsReportedAfter said line report all next over err
ends_after_over said line report all next out over err same h =
    (h.0, h.1, ended_over line report all next out over (λ bs. err (bs ++ reason h.0)) h.0 same h.2, h.3)
