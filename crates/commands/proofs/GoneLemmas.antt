-- What was reported by a run whose output is gone.
use Rattle.std.proofs.Common.{◌≡◌, ◌≢◌, ◌⊎◌, ℕ, ◌≤◌, ◌<◌, Bool, true, false, cond, List, [], ◌++◌, ◌∙◌, Option, None, Some, map, refl, sym, ap, subst, arith, inl, inr}
use Rattle.std.proofs.lemmas.List.{append-nil}
use Rattle.std.specs.Io.KnownBytes.{Appends}
use Rattle.std.specs.List.{list_any}
use Rattle.std.specs.Str.Lines.{lines}
use Rattle.ignore_files.specs.Tree.{Tree}
use Rattle.ignore_files.specs.declared.env.Env.{Env}
use Rattle.ignore_rules.specs.Rules.{begun}
use Rattle.ignore_walk.specs.Entry.{Item}
use Rattle.commands.specs.declared.stop.Stop.{Stop}
use Rattle.commands.specs.declared.stop.Stop.TheVariants.{Usage, Memory, Write, Silence}
use Rattle.commands.specs.Checking.{AreAnswers, AreAnswersSoFar, AreFirst, Checked, Checks, is_wrong, with_next}
use Rattle.commands.specs.Listing.{Lists, is_reported}
use Rattle.commands.specs.Matching.{Prints, no_line}
use Rattle.commands.specs.Stops.{BreaksOff, EndsAfter, EndsReported, EndsReportedAfter, GoneAfter, GoneReported, GoneReportedAfter, GoneUnreported, ReportedOf, reason}
use Rattle.commands.specs.Words.{Question}
use Rattle.commands.proofs.LineLemmas.{appends_on}
use Rattle.commands.proofs.StopLemmas.{cut_after}

at_most_one : (b : Bool) (status : ℕ) → status ≡ cond b 1 0 → status ≤ 1
at_most_one true status e = omega (arith, e)
at_most_one false status e = omega (arith, e)

-- a run that isn't begun has reported no line
pub question_none : (question : Question) (err : List ℕ → Type 0) → err [] → ReportedOf question err Memory
question_none question err h = ([], lines question.rules, refl, (begun question.root, [], no_line, h))

-- a whole run of a question has reported its rejected lines
pub question_whole : (said : Stop → Type 0) (question : Question) (status : ℕ) (out before after : List ℕ → Type 0)
    → Prints question status out before ⊎ ((status ≡ 2) × EndsReported said question out before) → status < 2
    → ((bs : List ℕ) → before bs → after bs) → ReportedOf question after Write
question_whole said question status out before after (inl h) low more = (h.builder, h.adds.0, h.adds.1, more h.adds.0 h.adds.2)
question_whole said question status out before after (inr h) low more = absurd (omega (arith, h.0, low))

-- one with status 2 has reported why it ended
pub question_ended : (said : Stop → Type 0) (question : Question) (status : ℕ) (out err : List ℕ → Type 0)
    → Prints question status out err ⊎ ((status ≡ 2) × EndsReported said question out err) → 2 ≤ status → GoneReported question err
question_ended said question status out err (inl h) high = absurd (omega (arith, at_most_one h.refused status h.ends, high))
question_ended said question status out err (inr h) high = (h.1.0, h.1.1, h.1.3)

-- no whole list has status 2, and no whole check
pub list_low : (items : List Item) (status : ℕ) (out err : List ℕ → Type 0) → Lists items status out err → 2 ≤ status → ⊥
list_low items status out err h high = omega (arith, at_most_one (list_any is_reported items) status h.ends, high)

pub check_low : (paths : List (List ℕ)) (all : List Checked) (status : ℕ) (out err : List ℕ → Type 0) → Checks paths all status out err
    → 2 ≤ status → ⊥
check_low paths all status out err h high = omega (arith, at_most_one (list_any is_wrong all) status h.ends, high)

-- what ended a list or a check ended it whatever was written
pub after_gone : {T : Type 0} (line report : T → List ℕ) (all : List T) (next : Option T) (out err : List ℕ → Type 0) (stop : Stop)
    → EndsAfter line report all next out err stop → GoneAfter report all next err stop
after_gone line report all next out err Usage h = absurd h
after_gone line report all next out err Memory h = h.1
after_gone line report all None out err Write h = absurd h
after_gone line report all (Some x) out err Write h = h.1
after_gone line report all None out err Silence h = absurd h
after_gone line report all (Some x) out err Silence h = h.1

pub after_reported : (said : Stop → Type 0) {T : Type 0} (line report : T → List ℕ) (all : List T) (next : Option T) (out err : List ℕ → Type 0)
    → EndsReportedAfter said line report all next out err → GoneReportedAfter report all next err
after_reported said line report all next out err h =
    (h.0, h.1, after_gone line report all next out (λ bs. err (bs ++ reason h.0)) h.0 h.2)

-- a whole check has answered its paths
pub check_first : (paths : List (List ℕ)) (all : List Checked) (status : ℕ) (out err : List ℕ → Type 0) → Checks paths all status out err
    → AreFirst paths (with_next all None)
check_first paths all status out err h = (
  [],
  sym h.asked ∙ (ap (map (λ (c : Checked). c.path)) (sym (append-nil all)) ∙ sym (append-nil (map (λ (c : Checked). c.path) (with_next all None)))),
)

pub check_so_far : (tree : Tree) (env : Env) (root : List ℕ) (all : List Checked) → AreAnswers tree env root all
    → AreAnswersSoFar tree env root (with_next all None)
check_so_far tree env root all are = inr (subst (λ (xs : List Checked). AreAnswers tree env root xs) (sym (append-nil all)) are)

-- a run without memory for its buffer has reported that alone
pub gone_none : (question : Question) (err : List ℕ → Type 0) → Memory ≢ Silence → err (reason Memory) → GoneReported question err
gone_none question err can h = (Memory, can, question_none question (λ reported. err (reported ++ reason Memory)) h)

pub cut_none : (question : Question) (err : List ℕ → Type 0) → BreaksOff [] (reason Memory) err → GoneUnreported question err Memory
cut_none question err h = question_none question (λ reported. BreaksOff reported (reason Memory) err) h

-- a whole run of a question whose buffer can't be written reports that last
pub gone_whole : (said : Stop → Type 0) (question : Question) (status : ℕ) (out : List ℕ → Type 0) (a b c : Option (List ℕ))
    → Prints question status out (Appends a b) ⊎ ((status ≡ 2) × EndsReported said question out (Appends a b)) → status < 2
    → Write ≢ Silence → Appends b c (reason Write) → GoneReported question (Appends a c)
gone_whole said question status out a b c h low can more = (
  Write,
  can,
  question_whole said question status out (Appends a b) (λ reported. Appends a c (reported ++ reason Write)) h low
      (λ bs so. appends_on a b c bs (reason Write) so more),
)

pub cut_whole : (said : Stop → Type 0) (question : Question) (status : ℕ) (out : List ℕ → Type 0) (a b c : Option (List ℕ))
    → Prints question status out (Appends a b) ⊎ ((status ≡ 2) × EndsReported said question out (Appends a b)) → status < 2
    → BreaksOff [] (reason Write) (Appends b c) → GoneUnreported question (Appends a c) Write
cut_whole said question status out a b c h low cut =
    question_whole said question status out (Appends a b) (λ reported. BreaksOff reported (reason Write) (Appends a c)) h low
    (λ bs so. cut_after a b c bs (reason Write) so cut)
