-- What the calls that look at the end of a text say.
use Rattle.std.proofs.Common.{◌≡◌, ℕ, ◌-◌, ◌≤◌, Bool, true, false, List, [], ◌∷◌, ◌++◌, length, take, get_or, Some, None}
use Rattle.std.proofs.Common.{MatchBool, refl, sym, ap, subst, ◌∙◌, inr, arith, append_assoc}
use Rattle.std.specs.Str.{IsUtf8, IsCharBoundary}
use Rattle.std.specs.Str.Pattern.{HasSuffixMatch, FindsTextSuffix, FindsCharSuffix, StripsSuffix}
use Rattle.std.proofs.lemmas.Bool.{false≢true}
use Rattle.std.proofs.lemmas.List.{length-take-le}
use Rattle.std.proofs.lemmas.Str.{IsUtf8-take, IsCharBoundary-before_ascii}
use Rattle.std.proofs.lemmas.Str.Pattern.{ends_char}
use Rattle.ignore_glob.specs.Ends.{HasEnd, HasName}

-- `ends_with`

pub found_end : (r : Bool) (end text : List ℕ) → MatchBool r (HasSuffixMatch (FindsTextSuffix end) text)
    (FindsTextSuffix end text None) → IsUtf8 text → r ≡ true → HasEnd end text
found_end true end text (n, found, within, fits) utf8 e =
    (take (length text - n) text, IsUtf8-take text (length text - n) utf8 fits, found.1)
found_end false end text h utf8 e = absurd (false≢true e)

-- `strip_suffix`

strips : (name text rest : List ℕ) → StripsSuffix (FindsTextSuffix name) text rest → IsUtf8 text → (text ≡ rest ++ name) × IsUtf8 rest
strips name text rest (n, found, cut, fits) utf8 =
    let size : length text - length name ≡ length text - n = ap (λ k. length text - k) (sym found.0) in (
      found.1 ∙ ap (λ l. l ++ name) (sym cut),
      subst IsUtf8 (sym cut) (IsUtf8-take text (length text - n) utf8 (subst (λ k. IsCharBoundary text k) size found.2)),
    )

get_or_seam : (xs : List ℕ) → get_or (xs ++ 47 ∷ []) (length xs) 0 ≡ 47
get_or_seam [] = refl
get_or_seam (x ∷ xs) = get_or_seam xs

pub found_name : (name text rest : List ℕ) (r : Bool) → StripsSuffix (FindsTextSuffix name) text rest
    → MatchBool r ((n : ℕ) × FindsCharSuffix 47 rest (Some n) × (n ≤ length rest) × IsCharBoundary rest (length rest - n))
    (FindsCharSuffix 47 rest None) → IsUtf8 text → r ≡ true → HasName name text
found_name name text rest r strip ends utf8 e =
    let s = strips name text rest strip utf8 in
    let slash = (ends_char 47 rest r ends (omega arith)).0 e in
    inr (
      take (length rest - 1) rest,
      before_slash rest s.1 slash,
      s.0 ∙ (ap (λ l. l ++ name) slash ∙ append_assoc (take (length rest - 1) rest) (47 ∷ []) name),
    )
  where
    before_slash : (bytes : List ℕ) → IsUtf8 bytes → bytes ≡ take (length bytes - 1) bytes ++ (47 ∷ [])
        → IsUtf8 (take (length bytes - 1) bytes)
    before_slash [] fits cut = fits
    before_slash (b ∷ bs) fits cut =
        let whole = b ∷ bs in
        let k = length whole - 1 in
        let front = take k whole in
        let size : length front ≡ k = length-take-le k whole (omega arith) in
        let last : get_or whole k 0 ≡ 47 = ap (λ l. get_or l k 0) cut
        ∙ (ap (λ i. get_or (front ++ 47 ∷ []) i 0) (sym size) ∙ get_or_seam front) in
        IsUtf8-take whole k fits (IsCharBoundary-before_ascii whole k (omega arith) (omega (arith, last)))
