-- The keys of what is kept, in a map that has changed.
use Rattle.std.proofs.Common.{◌≡◌, ℕ, Bool, true, false, cond, List, Option, Some, None, String, Global, refl, sym, ◌∙◌, subst}
use Rattle.std.proofs.lemmas.Slice.Eq.{bytes_eq-Decides}
use Rattle.std.specs.BTreeMap.{BTreeMap, get_by_text}
use Rattle.std.specs.Str.{bytes_eq}
use Rattle.ignore_query.specs.declared.kept.Kept.{Kept}
use Rattle.ignore_query.specs.Forget.{is_key_in}
use Rattle.ignore_query.specs.Keys.{AreKeys, IsKey}

abbrev pub Map : Type 0
Map = BTreeMap (String Global) Kept

pub keys-same : (m n : Map) → ((cs : List ℕ) → get_by_text n cs ≡ get_by_text m cs) → AreKeys m → AreKeys n
keys-same m n same are key k h = are key k (sym (same key) ∙ h)

put-step : (key cs : List ℕ) (w o : Option Kept) (k : Kept) (b : Bool) → bytes_eq key cs ≡ b → cond b w o ≡ Some k → IsKey key
    → (o ≡ Some k → IsKey cs) → IsKey cs
put-step key cs w o k true e h new old = subst IsKey ((bytes_eq-Decides key cs).0 e) new
put-step key cs w o k false e h new old = old h

pub keys-put : (m n : Map) (key : List ℕ) (w : Kept) → ((cs : List ℕ) → get_by_text n cs ≡ cond (bytes_eq key cs) (Some w) (get_by_text m cs))
    → IsKey key → AreKeys m → AreKeys n
keys-put m n key w put new are cs k h =
    put-step key cs (Some w) (get_by_text m cs) k (bytes_eq key cs) refl (sym (put cs) ∙ h) new (are cs k)

left-step : (cs : List ℕ) (o : Option Kept) (k : Kept) (b : Bool) → cond b None o ≡ Some k → (o ≡ Some k → IsKey cs) → IsKey cs
left-step cs o k true h old = absurd (cc (h))
left-step cs o k false h old = old h

pub keys-left : (m n : Map) (dir : List ℕ) → ((cs : List ℕ) → get_by_text n cs ≡ cond (is_key_in dir cs) None (get_by_text m cs))
    → AreKeys m → AreKeys n
keys-left m n dir left are cs k h = left-step cs (get_by_text m cs) k (is_key_in dir cs) (sym (left cs) ∙ h) (are cs k)
