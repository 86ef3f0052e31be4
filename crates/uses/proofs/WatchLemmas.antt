-- What is still kept after a changed folder was forgotten.
use Rattle.std.proofs.Common.{◌≡◌, ◌≢◌, Bool, true, false, All, List, Option, None, Some, cond, refl, sym, ap, ◌∙◌}
use Rattle.ignore.specs.Words.{Bytes, Path}
use Rattle.ignore.specs.WalkWords.{Cache, IsName, IsSameKept, Kept, QueryScene, is_at_or_below, kept_at, names_of}
use Rattle.uses.specs.Watched.{IsChangedWithin}

left : {A : Type 0} (b : Bool) (o : Option A) (k : A) → cond b None o ≡ Some k → b ≡ false
left true o k h = absurd (cc)
left false o k h = refl

pub same_kept : (g h : QueryScene) (old new : Cache) (dir : Path) → IsChangedWithin g h dir
    → ((names : List Bytes) → All IsName names
    → kept_at new names ≡ cond (is_at_or_below (names_of dir) names) None (kept_at old names)) → IsSameKept g h new
same_kept g h old new dir changed forgotten = record {
  root = λ has. changed.root;
  canonical = λ has. changed.canonical;
  above = λ has. changed.above;
  dirs = λ names d clean kept.
      changed.dirs names clean (left (is_at_or_below (names_of dir) names) (kept_at old names) _ (sym (forgotten names clean) ∙ kept));
}

pub stays_outside : (asked : Bool) (old new : Cache) (front names : List Bytes) (k : Kept)
    → (asked ≡ true → kept_at new names ≡ cond (is_at_or_below front names) None (kept_at old names))
    → (asked ≢ true → new ≡ old) → is_at_or_below front names ≡ false → kept_at old names ≡ Some k → kept_at new names ≡ Some k
stays_outside true old new front names k forgotten unchanged out kept =
    forgotten refl ∙ (ap (λ b. cond b None (kept_at old names)) out ∙ kept)
stays_outside false old new front names k forgotten unchanged out kept = ap (λ c. kept_at c names) (unchanged (λ e. cc)) ∙ kept
