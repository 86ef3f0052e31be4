-- A matcher, a walk or a guide of what handles keep.
use Rattle.std.proofs.Common.{◌≡◌, ℕ, Result, Ok, Err, refl, subst}
use Rattle.ignore_kept.specs.Guides as guides
use Rattle.ignore_kept.specs.Matching as matching
use Rattle.ignore_kept.specs.Stops.{ended_code, stop_code}
use Rattle.ignore_kept.specs.Walking as walking
use Rattle.ignore_kept.specs.declared.kept.Kept.{Kept}
use Rattle.ignore_kept.specs.declared.stopped.Stopped.{Stopped}

-- matcher is made of what two handles keep, which were lent
pub matcher_made : (builder files setup told kept : Kept) → setup ≡ builder → told ≡ files → matching.Builds setup told (Ok kept)
    → (given : Result Kept Stopped) × matching.Builds builder files given × (0 ≡ ended_code given)
matcher_made builder files setup told kept s t h =
    (Ok kept, subst (λ (b : Kept). matching.Builds b files (Ok kept)) s (subst (λ (f : Kept). matching.Builds setup f (Ok kept)) t h), refl)

pub matcher_unmade : (builder files setup told : Kept) (stopped : Stopped) (code : ℕ) → setup ≡ builder → told ≡ files
    → matching.Builds setup told (Err stopped) → code ≡ stop_code stopped
    → (given : Result Kept Stopped) × matching.Builds builder files given × (code ≡ ended_code given)
matcher_unmade builder files setup told stopped code s t h is = (
  Err stopped,
  subst (λ (b : Kept). matching.Builds b files (Err stopped)) s (subst (λ (f : Kept). matching.Builds setup f (Err stopped)) t h),
  is,
)

-- walk is made of what two handles keep, which were lent
pub walk_made : (builder files setup told kept : Kept) → setup ≡ builder → told ≡ files → walking.Builds setup told (Ok kept)
    → (given : Result Kept Stopped) × walking.Builds builder files given × (0 ≡ ended_code given)
walk_made builder files setup told kept s t h =
    (Ok kept, subst (λ (b : Kept). walking.Builds b files (Ok kept)) s (subst (λ (f : Kept). walking.Builds setup f (Ok kept)) t h), refl)

pub walk_unmade : (builder files setup told : Kept) (stopped : Stopped) (code : ℕ) → setup ≡ builder → told ≡ files
    → walking.Builds setup told (Err stopped) → code ≡ stop_code stopped
    → (given : Result Kept Stopped) × walking.Builds builder files given × (code ≡ ended_code given)
walk_unmade builder files setup told stopped code s t h is = (
  Err stopped,
  subst (λ (b : Kept). walking.Builds b files (Err stopped)) s (subst (λ (f : Kept). walking.Builds setup f (Err stopped)) t h),
  is,
)

-- guide is made of what a handle keeps, which was lent
pub guide_made : (builder setup kept : Kept) → setup ≡ builder → guides.Starts setup (Ok kept)
    → (given : Result Kept Stopped) × guides.Starts builder given × (0 ≡ ended_code given)
guide_made builder setup kept s h = (Ok kept, subst (λ (b : Kept). guides.Starts b (Ok kept)) s h, refl)

pub guide_unmade : (builder setup : Kept) (stopped : Stopped) (code : ℕ) → setup ≡ builder → guides.Starts setup (Err stopped)
    → code ≡ stop_code stopped → (given : Result Kept Stopped) × guides.Starts builder given × (code ≡ ended_code given)
guide_unmade builder setup stopped code s h is = (Err stopped, subst (λ (b : Kept). guides.Starts b (Err stopped)) s h, is)
