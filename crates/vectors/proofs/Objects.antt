-- A value that has members is the object of them, and of no others.
use Rattle.std.proofs.Common.{◌≡◌, Some, is_some, unwrap_or, true≢false, sym, ap}
use Rattle.serde_json.specs.Data.{Data, null, boolean, number, string, array, object, Members, no_members}
use Rattle.serde_json.specs.Find.{as_object}

pub is_object : (d : Data) (ms : Members) → Some ms ≡ as_object d → d ≡ object ms
is_object null ms h = absurd (true≢false (ap is_some h))
is_object (boolean b) ms h = absurd (true≢false (ap is_some h))
is_object (number n) ms h = absurd (true≢false (ap is_some h))
is_object (string s) ms h = absurd (true≢false (ap is_some h))
is_object (array ds) ms h = absurd (true≢false (ap is_some h))
is_object (object ns) ms h = ap (λ o. object (unwrap_or o no_members)) (sym h)

pub same_members : (ms ns : Members) → object ms ≡ object ns → ms ≡ ns
same_members ms ns h = ap (λ d. unwrap_or (as_object d) no_members) h
