-- How an early end goes on from what was written before.
use Rattle.std.proofs.Common.{◌≡◌, ◌≢◌, ◌⊎◌, ℕ, List, [], ◌++◌, Option, Result, Ok, Err, IfOk, IfErr, OnOk, inl, inr, subst, sym}
use Rattle.std.proofs.lemmas.List.{append-nil}
use Rattle.std.specs.Io.KnownBytes.{Appends}
use Rattle.std.specs.declared.io.ErrorKind.{ErrorKind}
use Rattle.ignore_base.specs.Problem.{Problem, memory}
use Rattle.commands.proofs.LineLemmas.{appends_nothing, appends_on}
use Rattle.ig_commands.specs.declared.stop.Stop.{Stop}
use Rattle.ig_commands.specs.declared.stop.Stop.TheVariants.{Memory, Read, Write, Closed, Silence}
use Rattle.ig_commands.specs.Stops.{EndsAfter, EndsReading, IsOther, IsUnwritten, SaidBy, write_stop}

-- what ended it before anything of one more thing was written ended it after the things before
pub ends_after : (written reported : List ℕ) (a b c x y z : Option (List ℕ)) (stop : Stop) → Appends a b written → Appends x y reported
    → EndsAfter [] [] (Appends b c) (Appends y z) stop → EndsAfter written reported (Appends a c) (Appends x z) stop
ends_after written reported a b c x y z Memory out err h = (
  subst (Appends a c) (append-nil written) (appends_on a b c written [] out h.0),
  subst (Appends x z) (append-nil reported) (appends_on x y z reported [] err h.1),
)
ends_after written reported a b c x y z Read out err h = absurd h
ends_after written reported a b c x y z (Write why) out err h =
    subst (Appends x z) (append-nil reported) (appends_on x y z reported [] err h)
ends_after written reported a b c x y z Closed out err h =
    subst (Appends x z) (append-nil reported) (appends_on x y z reported [] err h)
ends_after written reported a b c x y z Silence out err h = tt

-- the same of reports that came before all others
pub ends_after_reports : (written first reported : List ℕ) (out : List ℕ → Type 0) (x y z : Option (List ℕ)) (stop : Stop)
    → Appends x y first → EndsAfter written reported out (Appends y z) stop
    → EndsAfter written (first ++ reported) out (Appends x z) stop
ends_after_reports written first reported out x y z Memory h k = (k.0, appends_on x y z first reported h k.1)
ends_after_reports written first reported out x y z Read h k = absurd k
ends_after_reports written first reported out x y z (Write why) h k = appends_on x y z first reported h k
ends_after_reports written first reported out x y z Closed h k = appends_on x y z first reported h k
ends_after_reports written first reported out x y z Silence h k = tt

-- a problem of the options that isn't out of memory is one of those by which they are rejected
pub refused : (r : Result ℕ Stop) (problem : Problem) (Refuses : Problem → Type 0) (Reports : ℕ → Type 0) (Goal : ℕ → Type 0)
    → (problem ≡ memory) ⊎ Refuses problem → OnOk r (problem ≢ memory) → IfOk r (λ status. (status ≡ 2) × Reports status)
    → ((status : ℕ) → Refuses problem → status ≡ 2 → Reports status → Goal status) → IfOk r Goal
refused (Ok status) problem Refuses Reports Goal (inl m) enough h so = absurd (enough m)
refused (Ok status) problem Refuses Reports Goal (inr other) enough h so = so status other h.0 h.1
refused (Err stop) problem Refuses Reports Goal one enough h so = tt

-- before anything is written, a command ends out of memory, or in silence
pub ends_at_once : (r : Result ℕ Stop) (o x y : Option (List ℕ)) → IfErr r (λ stop. (stop ≡ Memory) ⊎ (stop ≡ Silence))
    → IfErr r (λ stop. stop ≡ Memory → Appends x y []) → (Goal : Stop → Type 0)
    → ((stop : Stop) → EndsAfter [] [] (Appends o o) (Appends x y) stop → Goal stop) → IfErr r Goal
ends_at_once (Ok status) o x y ended kept Goal so = tt
ends_at_once (Err stop) o x y (inl m) kept Goal so =
    so stop (subst (λ (s : Stop). EndsAfter [] [] (Appends o o) (Appends x y) s) (sym m) (appends_nothing o, kept m))
ends_at_once (Err stop) o x y (inr s) kept Goal so =
    so stop (subst (λ (t : Stop). EndsAfter [] [] (Appends o o) (Appends x y) t) (sym s) tt)

pub appends_none : (a : Option (List ℕ)) → Appends a a []
appends_none a = appends_nothing a

-- a failed read after all this, or no memory for it
pub ends_read : (written reported : List ℕ) (out err : List ℕ → Type 0) (stop : Stop) → (stop ≡ Read) ⊎ (stop ≡ Memory) → out written
    → err reported → EndsReading written reported out err stop
ends_read written reported out err stop (inl read) h k = inr (read, h, k)
ends_read written reported out err stop (inr no_memory) h k = inl (subst (EndsAfter written reported out err) (sym no_memory) (h, k))

-- a failed write after these reports
pub ends_unwritten : (written reported : List ℕ) (out err : List ℕ → Type 0) (stop : Stop) → IsUnwritten stop → err reported
    → EndsAfter written reported out err stop
ends_unwritten written reported out err stop (inl (why, is)) h = subst (EndsAfter written reported out err) (sym is) h
ends_unwritten written reported out err stop (inr is) h = subst (EndsAfter written reported out err) (sym is) h

-- the same of reports that came before all others, of what reads standard input
pub ends_reading_reports : (written first reported : List ℕ) (out : List ℕ → Type 0) (x y z : Option (List ℕ)) (stop : Stop)
    → Appends x y first → EndsReading written reported out (Appends y z) stop
    → EndsReading written (first ++ reported) out (Appends x z) stop
ends_reading_reports written first reported out x y z stop h (inl k) = inl (ends_after_reports written first reported out x y z stop h k)
ends_reading_reports written first reported out x y z stop h (inr (read, k, more)) = inr (read, k, appends_on x y z first reported h more)

-- a write that failed by an error of a kind ends a command for what its output said
pub said_as : (fails : ErrorKind → Type 0) (stop : Stop) (kind : ErrorKind) → stop ≡ write_stop kind → fails kind → SaidBy fails stop
said_as fails Memory kind is h = tt
said_as fails Read kind is h = tt
said_as fails (Write why) kind is h = (kind, h, sym is)
said_as fails Closed kind is h = (kind, h, sym is)
said_as fails Silence kind is h = tt

-- what ends it besides is said by no output
pub other_said : (fails : ErrorKind → Type 0) (stop : Stop) → IsOther stop → SaidBy fails stop
other_said fails Memory h = tt
other_said fails Read h = tt
other_said fails (Write why) h = absurd h
other_said fails Closed h = absurd h
other_said fails Silence h = tt
