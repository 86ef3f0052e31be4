-- A dot before an extension.
use Rattle.std.proofs.Common.{◌≡◌, ◌≢◌, ℕ, ◌==◌, Bool, true, false, cond, eqb-true, List, [], ◌∷◌, ap, sym, refl}
use Rattle.ig_options.specs.Fd.{without_dot}

pub dot_first : (text rest : List ℕ) → text ≡ 46 ∷ rest → rest ≡ without_dot text
dot_first text rest cut = sym (ap without_dot cut)

-- a text that begins with another byte, by the test of that
other_first : (byte : ℕ) (rest : List ℕ) (test : Bool) → (byte == 46) ≡ test → ((after : List ℕ) → byte ∷ rest ≢ 46 ∷ after)
    → byte ∷ rest ≡ cond test rest (byte ∷ rest)
other_first byte rest true is none = absurd (none rest (ap (λ b. b ∷ rest) (eqb-true byte 46 is)))
other_first byte rest false is none = refl

pub no_dot_first : (text : List ℕ) → ((after : List ℕ) → text ≢ 46 ∷ after) → text ≡ without_dot text
no_dot_first [] none = refl
no_dot_first (byte ∷ rest) none = other_first byte rest (byte == 46) refl none
