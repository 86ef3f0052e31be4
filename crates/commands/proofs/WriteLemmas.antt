-- What is written of some bytes, one write more at a time.
use Rattle.std.proofs.Common.{◌≡◌, ◌≢◌, ◌∙◌, ℕ, ◌+◌, ◌-◌, ◌<◌, ◌≤◌, List, [], length, take, drop, Option, Some, sym, ap, subst, arith, take-append-drop}
use Rattle.std.proofs.Common.{None as Nothing}
use Rattle.std.proofs.Math.Seq.{take-add}
use Rattle.std.proofs.lemmas.List.{length-drop, take_rest}
use Rattle.std.specs.Io.KnownBytes.{Appends, Keeps}
use Rattle.commands.specs.Stops.{BreaksOff}
use Rattle.commands.proofs.LineLemmas.{appends_on}

-- nothing is appended by a write that fails
pub appends_kept : (a b c : Option (List ℕ)) (xs : List ℕ) → Appends a b xs → Keeps b c → Appends a c xs
appends_kept Nothing b c xs h k = tt
appends_kept (Some a) Nothing c xs h k = absurd h
appends_kept (Some a) (Some b) Nothing xs h k = absurd k
appends_kept (Some a) (Some b) (Some c) xs h k = k ∙ h

-- the first bytes, and some of the others
pub written_more : (a b c : Option (List ℕ)) (bs : List ℕ) (w n : ℕ) → Appends a b (take w bs)
    → Appends b c (take n (take (length bs - w) (drop w bs))) → Appends a c (take (w + n) bs)
written_more a b c bs w n h k =
    subst (Appends a c) (sym (take-add w n bs)) (
    appends_on a b c (take w bs) (take n (drop w bs)) h (subst (λ xs. Appends b c (take n xs)) (take_rest bs w) k)
    )

-- nothing more
pub written_none : (a b c : Option (List ℕ)) (bs : List ℕ) (w n : ℕ) → n ≡ 0 → Appends a b (take w bs)
    → Appends b c (take n (take (length bs - w) (drop w bs))) → Appends a c (take w bs)
written_none a b c bs w n none h k = subst (λ m. Appends a c (take m bs)) (omega (arith, none)) (written_more a b c bs w n h k)

-- what a write takes of the others is no more than these
pub within_rest : (bs : List ℕ) (w n : ℕ) → w ≤ length bs → n ≤ length (take (length bs - w) (drop w bs)) → w + n ≤ length bs
within_rest bs w n within bound = omega (arith, within, bound, ap length (take_rest bs w), length-drop w bs)

some_left : (bs : List ℕ) (w : ℕ) → w < length bs → drop w bs ≢ []
some_left bs w within = λ none. omega (arith, within, length-drop w bs, ap length none)

-- the first bytes are not all
pub cut_at : (a c : Option (List ℕ)) (bs : List ℕ) (w : ℕ) → w < length bs → Appends a c (take w bs) → BreaksOff [] bs (Appends a c)
cut_at a c bs w within h = (take w bs, drop w bs, sym (take-append-drop w bs), some_left bs w within, h)
