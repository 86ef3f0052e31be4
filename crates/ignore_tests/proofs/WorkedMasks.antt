-- Worked examples of the mask of a text, which has a bit for each three bytes in a row, and of masks
-- over a text.
use Rattle.std.proofs.Common.{◌≡◌, ◌^◌, ℕ, List, codes, refl}
use Rattle.ignore_set.specs.Others.{IsMaskOver, mask_of}
use Rattle.ignore_set.proofs.MaskLemmas.{inside_covered}

-- a text of two bytes has none; of three, one bit
small_masks : (mask_of (codes "ab") ≡ 0) × (mask_of (codes "abc") ≡ 2 ^ 30)
small_masks = (refl, refl)

-- a text's own mask is over it
own_mask : (text : List ℕ) → IsMaskOver text (mask_of text)
own_mask text inside within = inside_covered text inside within

-- 0 isn't over a text that holds three bytes in a row
no_mask : IsMaskOver (codes "xabcy") 0 → ⊥
no_mask over = apart (over (codes "abc") (codes "x", codes "y", refl))
  where
    apart : 2 ^ 30 ≡ 0 → ⊥
    apart same = cc
