-- What ended a run, and what was written and reported by then.
use Rattle.std.proofs.Common.{◌≡◌, ◌≢◌, ℕ, ◌<◌, suc, zero, Bool, List, [], ◌∷◌, ◌++◌, length, take, drop, get_or, Option, None, Some, refl, sym, ap}
use Rattle.std.proofs.Common.{◌∙◌, subst, append_assoc, arith, take-append-drop}
use Rattle.std.proofs.lemmas.List.{append-nil}
use Rattle.std.specs.Io.KnownBytes.{Appends}
use Rattle.std.specs.List.{flat_map}
use Rattle.ignore_rules.specs.Rules.{Building}
use Rattle.commands.specs.declared.stop.Stop.{Stop}
use Rattle.commands.specs.declared.stop.Stop.TheVariants.{Usage, Memory, Write, Silence}
use Rattle.commands.specs.Matching.{AddsAll}
use Rattle.commands.specs.Words.{Question}
use Rattle.commands.specs.Stops.{BreaksOff, Ends, EndsAfter, EndsLine, EndsLines, EndsReported, EndsReportedAfter, EndsUnreported, EndsUnreportedAfter, IsUnreported, reason}
use Rattle.commands.proofs.LineLemmas.{appends_on}

-- a list around one of its members
pub around : {A : Type 0} (xs : List A) (n : ℕ) (x : A) → n < length xs → x ≡ get_or xs n x → xs ≡ take n xs ++ x ∷ drop (suc n) xs
around [] n x h e = absurd (omega (arith, h))
around (y ∷ ys) zero x h e = ap (λ z. z ∷ ys) (sym e)
around (y ∷ ys) (suc n) x h e = ap (λ zs. y ∷ zs) (around ys n x (omega (arith, h)) e)

-- what ended the adding of lines, from the lines that were added and the one that ended it
pub ends_lines : (root : List ℕ) (all first : List (List ℕ)) (n : ℕ) (line : List ℕ) (builder : Building)
    (before middle after : Option (List ℕ)) (any : Bool) (stop : Stop)
    → first ≡ take n all → n < length all → line ≡ get_or all n line → AddsAll root first builder (Appends before middle) any
    → EndsLine builder.options line (Appends middle after) stop → EndsLines root all (Appends before after) stop
ends_lines root all first n line builder before middle after any Usage is within here so h = absurd h
ends_lines root all first n line builder before middle after any Memory is within here so h = (
  first,
  drop n all,
  sym (take-append-drop n all) ∙ ap (λ xs. xs ++ drop n all) (sym is),
  (builder, so.0, so.1, subst (Appends before after) (append-nil so.0) (appends_on before middle after so.0 [] so.2 h)),
)
ends_lines root all first n line builder before middle after any Write is within here so h = absurd h
ends_lines root all first n line builder before middle after any Silence is within here so h = (
  first,
  drop (suc n) all,
  line,
  builder,
  so.0,
  h.0,
  around all n line within here
      ∙ ap (λ xs. xs ++ line ∷ drop (suc n) all) (sym is),
  so.1,
  h.1,
)

-- the reason is reported after what was reported before
pub ends_reported : (said : Stop → Type 0) (question : Question) (out : List ℕ → Type 0) (before middle after : Option (List ℕ)) (stop : Stop)
    → Ends question out (Appends before middle) stop → said stop → stop ≢ Silence → Appends middle after (reason stop)
    → EndsReported said question out (Appends before after)
ends_reported said question out before middle after Usage h why reported more = absurd h.1
ends_reported said question out before middle after Memory h why reported more =
    let so = h.1.3 in (
      Memory,
      reported,
      h.0,
      (h.1.0, h.1.1, h.1.2, (so.0, so.1, so.2, appends_on before middle after so.1 (reason Memory) so.3 more)),
      why,
    )
ends_reported said question out before middle after Write h why reported more =
    let so = h.1 in (Write, reported, h.0, (so.0, so.1, so.2, appends_on before middle after so.1 (reason Write) so.3 more), why)
ends_reported said question out before middle after Silence h why reported more = absurd (reported refl)

-- something before a list doesn't make it empty
append_some : {A : Type 0} (xs ys : List A) → xs ≢ [] → xs ++ ys ≢ []
append_some [] ys some = λ e. some refl
append_some (x ∷ xs) ys some = λ e. cc e

-- what is written of a beginning of a line is written of the line
pub cut_first : (xs ys : List ℕ) (out : List ℕ → Type 0) → BreaksOff [] xs out → BreaksOff [] (xs ++ ys) out
cut_first xs ys out h = (
  h.0,
  h.1 ++ ys,
  ap (λ zs. zs ++ ys) h.2 ∙ append_assoc h.0 h.1 ys,
  append_some h.1 ys h.3,
  h.4,
)

-- the rest of a line was cut, after its beginning was written
pub cut_on : (a b c : Option (List ℕ)) (xs ys : List ℕ) → Appends a b xs → BreaksOff [] ys (Appends b c) → BreaksOff [] (xs ++ ys) (Appends a c)
cut_on a b c xs ys h k = (
  xs ++ k.0,
  k.1,
  ap (λ zs. xs ++ zs) k.2 ∙ sym (append_assoc xs k.0 k.1),
  k.3,
  appends_on a b c xs k.0 h k.4,
)

-- a line was cut after others were written
pub cut_after : (a b c : Option (List ℕ)) (written line : List ℕ) → Appends a b written → BreaksOff [] line (Appends b c)
    → BreaksOff written line (Appends a c)
cut_after a b c written line h k = (k.0, k.1, k.2, k.3, appends_on a b c written k.0 h k.4)

-- the reason is the last report of a list or a check
pub ends_reported_after : (said : Stop → Type 0) {T : Type 0} (line report : T → List ℕ) (all : List T) (next : Option T) (out : List ℕ → Type 0)
    (before middle after : Option (List ℕ)) (stop : Stop) → EndsAfter line report all next out (Appends before middle) stop → said stop
    → stop ≢ Silence → Appends middle after (reason stop) → EndsReportedAfter said line report all next out (Appends before after)
ends_reported_after said line report all next out before middle after Usage h why can more = absurd h
ends_reported_after said line report all next out before middle after Memory h why can more =
    (Memory, can, (h.0, appends_on before middle after (flat_map report all) (reason Memory) h.1 more), why)
ends_reported_after said line report all None out before middle after Write h why can more = absurd h
ends_reported_after said line report all (Some x) out before middle after Write h why can more =
    (Write, can, (h.0, appends_on before middle after (flat_map report all) (reason Write) h.1 more), why)
ends_reported_after said line report all next out before middle after Silence h why can more = absurd (can refl)

-- what ended it at the next thing, before anything else, ended it after the things before
pub ends_after : {T : Type 0} (line report : T → List ℕ) (all : List T) (next : Option T) (a b c x y z : Option (List ℕ)) (stop : Stop)
    → Appends a b (flat_map line all) → Appends x y (flat_map report all)
    → EndsAfter line report [] next (Appends b c) (Appends y z) stop → EndsAfter line report all next (Appends a c) (Appends x z) stop
ends_after line report all next a b c x y z Usage out err h = absurd h
ends_after line report all next a b c x y z Memory out err h = (
  subst (Appends a c) (append-nil (flat_map line all)) (appends_on a b c (flat_map line all) [] out h.0),
  subst (Appends x z) (append-nil (flat_map report all)) (appends_on x y z (flat_map report all) [] err h.1),
)
ends_after line report all None a b c x y z Write out err h = absurd h
ends_after line report all (Some q) a b c x y z Write out err h = (
  cut_after a b c (flat_map line all) (line q) out h.0,
  subst (Appends x z) (append-nil (flat_map report all)) (appends_on x y z (flat_map report all) [] err h.1),
)
ends_after line report all None a b c x y z Silence out err h = absurd h
ends_after line report all (Some q) a b c x y z Silence out err h = (appends_on a b c (flat_map line all) (line q) out h.0, h.1)

-- the reason was cut, after the other reports
pub ends_unreported_after : {T : Type 0} (line report : T → List ℕ) (all : List T) (next : Option T) (out : List ℕ → Type 0)
    (before middle after : Option (List ℕ)) (stop : Stop) → EndsAfter line report all next out (Appends before middle) stop
    → IsUnreported (Appends middle after) stop → EndsUnreportedAfter line report all next out (Appends before after) stop
ends_unreported_after line report all next out before middle after Usage h cut = absurd h
ends_unreported_after line report all next out before middle after Memory h cut =
    (h.0, cut_after before middle after (flat_map report all) (reason Memory) h.1 cut)
ends_unreported_after line report all None out before middle after Write h cut = absurd h
ends_unreported_after line report all (Some x) out before middle after Write h cut =
    (h.0, cut_after before middle after (flat_map report all) (reason Write) h.1 cut)
ends_unreported_after line report all None out before middle after Silence h cut = absurd h
ends_unreported_after line report all (Some x) out before middle after Silence h cut = h

-- and after the rejected lines
pub ends_unreported : (question : Question) (out : List ℕ → Type 0) (before middle after : Option (List ℕ)) (stop : Stop)
    → Ends question out (Appends before middle) stop → IsUnreported (Appends middle after) stop
    → EndsUnreported question out (Appends before after) stop
ends_unreported question out before middle after Usage h cut = absurd h.1
ends_unreported question out before middle after Memory h cut =
    let so = h.1.3 in
    (h.0, (h.1.0, h.1.1, h.1.2, (so.0, so.1, so.2, cut_after before middle after so.1 (reason Memory) so.3 cut)))
ends_unreported question out before middle after Write h cut =
    let so = h.1 in (h.0, (so.0, so.1, so.2, cut_after before middle after so.1 (reason Write) so.3 cut))
ends_unreported question out before middle after Silence h cut = h
