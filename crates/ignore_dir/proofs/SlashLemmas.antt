-- Offsets after slashes stay so as a text grows.
use Rattle.std.proofs.Common.{◌≡◌, ℕ, ◌+◌, ◌<◌, ◌≤◌, ◌-◌, List, [], ◌∷◌, ◌++◌, length, get_or, ap, ◌∙◌, arith, All}
use Rattle.std.proofs.Math.Seq.{get_or-append_seam}
use Rattle.std.proofs.lemmas.List.{get_or_append_left, length-append}
use Rattle.std.proofs.lemmas.List.Elements.{All-weaker}
use Rattle.ignore_dir.specs.Lists.{IsAfterSlash, Placed}

-- a longer text
pub after_slash-longer : (text more : List ℕ) (offset : ℕ) → IsAfterSlash text offset → IsAfterSlash (text ++ more) offset
after_slash-longer text more offset h =
    let size : length (text ++ more) ≡ length text + length more = length-append text more in
    let low : 0 < offset = h.0 in
    let high : offset ≤ length text = h.1 in
    (low, omega arith, get_or_append_left text more 0 (offset - 1) (omega arith) ∙ h.2)

-- the end of a text that ends with a slash
pub after_slash-end : (text : List ℕ) → IsAfterSlash (text ++ 47 ∷ []) (length (text ++ 47 ∷ []))
after_slash-end text =
    let size : length (text ++ 47 ∷ []) ≡ length text + 1 = length-append text (47 ∷ []) in
    let last : length (text ++ 47 ∷ []) - 1 ≡ length text = omega arith in
    (omega arith, omega arith, ap (λ k. get_or (text ++ 47 ∷ []) k 0) last ∙ get_or-append_seam text 47 [] 0)

-- directories with a longer text
pub placed-longer : (text more : List ℕ) (chain : List Placed) → All (λ p. IsAfterSlash text p.1) chain
    → All (λ p. IsAfterSlash (text ++ more) p.1) chain
placed-longer text more chain h = All-weaker (λ p. IsAfterSlash text p.1) (λ p. IsAfterSlash (text ++ more) p.1)
    (λ p. after_slash-longer text more p.1) chain h
