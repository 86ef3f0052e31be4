-- The part of a text before an offset.
use Rattle.std.proofs.Common.{◌≡◌, ℕ, ◌-◌, ◌≤◌, List, length, take, drop, ap, arith}
use Rattle.std.proofs.lemmas.List.{length-drop}
use Rattle.std.specs.List.{slice_range}

pub take_before : (text : List ℕ) (n : ℕ) → n ≤ length text → slice_range text 0 n ≡ take (length text - length (drop n text)) text
take_before text n le =
    let same : n - 0 ≡ length text - length (drop n text) = omega (arith, length-drop n text, le) in
    ap (λ k. take k text) same
