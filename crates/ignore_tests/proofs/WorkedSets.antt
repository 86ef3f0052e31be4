-- Worked examples of what a set of patterns promises of its work: the passes that each form may take,
-- and which sets are short.
use Rattle.std.proofs.Common.{◌≡◌, ℕ, true, false, List, [], ◌∷◌, replicate, refl, arith}
use Rattle.std.proofs.lemmas.List.Elements.{All-cons, All-nil}
use Rattle.ignore_glob.specs.Glob.{Tokens, done, then, literal, any, start}
use Rattle.ignore_glob.specs.Forms.{whole, name, ending, other}
use Rattle.ignore_set.specs.Sets.{Member, IsShort, AreShort, form_passes}

-- no pattern of literals takes a pass, however long it is, alone or after `**/` or `**/*`
no_pass : (text : List ℕ) → (form_passes (whole text) ≡ 0) × (form_passes (name text) ≡ 0) × (form_passes (ending text) ≡ 0)
no_pass text = (refl, refl, refl)

-- any other pattern may take one
one_pass : form_passes other ≡ 1
one_pass = refl

-- these letters, and then these tokens
spelled : List ℕ → Tokens → Tokens
spelled [] ts = ts
spelled (c ∷ cs) ts = then (literal c) (spelled cs ts)

-- `**/`, 40 letters and `?`, for directories alone; 61 letters and `?`, with case folded
below : Member
below =
    record {
      reading = record { tokens = then start (spelled (replicate 40 97) (then any done)); case_insensitive = false };
      only_dir = true;
    }

folded : Member
folded =
    record {
      reading = record { tokens = spelled (replicate 61 97) (then any done); case_insensitive = true };
      only_dir = false;
    }

below-short : IsShort below.reading
unfolding below spelled
below-short = (refl, omega arith)

folded-short : IsShort folded.reading
unfolding folded spelled
folded-short = (refl, omega arith)

-- both are short
both-short : AreShort (below ∷ folded ∷ [])
both-short =
    let each : Member → Type 0 = λ m. IsShort m.reading in
    All-cons each below (folded ∷ []) below-short (All-cons each folded [] folded-short (All-nil each))
