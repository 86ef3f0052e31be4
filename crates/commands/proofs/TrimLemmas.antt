-- Roots without the slashes at their ends.
use Rattle.std.proofs.Common.{◌≡◌, ◌≢◌, ◌∙◌, ℕ, ◌-◌, List, [], ◌∷◌, ◌++◌, All, Some, None, length, take, refl, sym, ap, arith}
use Rattle.std.proofs.Common.{append_assoc, append-nil, length-append, take-append-drop}
use Rattle.std.proofs.Math.Seq.{drop-length}
use Rattle.std.proofs.lemmas.List.Elements.{All-nil, All-cons, All-head, All-tail}
use Rattle.std.proofs.lemmas.Str.{len_utf8_ascii}
use Rattle.std.proofs.lemmas.Str.Pattern.{drop_at_char, strip_suffix_char}
use Rattle.std.specs.Str.Pattern.{CutsSuffixes, FindsCharSuffix, IsFullyTrimmed, IsTrimEndMatches}
use Rattle.ignore_base.specs.Text.{slash}
use Rattle.commands.specs.Walking.{IsTrimmed}

-- a text that ends in a slash, cut before it
closed : (text : List ℕ) (n : ℕ) → FindsCharSuffix slash text (Some n) → text ≡ take (length text - n) text ++ slash ∷ []
closed text n h = sym (take-append-drop (length text - n) text)
    ∙ ap (λ l. take (length text - n) text ++ l)
    (drop_at_char slash text (length text - n) (length text) h.1 (omega arith) ∙ ap (λ l. slash ∷ l) (drop-length text))

-- what was cut off is slashes alone
cut : (given : List ℕ) (ns : List ℕ) (root : List ℕ) → CutsSuffixes (FindsCharSuffix slash) given ns root
    → (slashes : List ℕ) × All (λ b. b ≡ slash) slashes × (given ≡ root ++ slashes)
cut given [] root h = ([], All-nil (λ b. b ≡ slash), sym h ∙ sym (append-nil root))
cut given (n ∷ ns) root (text, so, found, is) =
    let more = cut given ns text so in
    let one : text ≡ root ++ slash ∷ [] = closed text n found ∙ ap (λ l. l ++ slash ∷ []) (sym is) in (
      slash ∷ more.0,
      All-cons (λ b. b ≡ slash) slash more.0 refl more.1,
      more.2 ∙ (ap (λ l. l ++ more.0) one ∙ append_assoc root (slash ∷ []) more.0),
    )

-- what is left ends in none
no_slash : (root : List ℕ) → IsFullyTrimmed (FindsCharSuffix slash) root → (front : List ℕ) → root ≢ front ++ slash ∷ []
no_slash root (None, h, t) front e = strip_suffix_char slash root None h (omega arith) front e
no_slash root (Some n, h, zero) front e = absurd (omega (arith, zero, h.0, len_utf8_ascii slash (omega arith)))

-- a root of which something is left, or that is empty
pub trims : (given root : List ℕ) → IsTrimEndMatches (FindsCharSuffix slash) given root → (root ≡ [] → given ≡ []) → IsTrimmed given root
trims given root h some =
    let so = cut given h.0.0 root h.0.1 in
    record { slashes = so.0; only = so.1; are = so.2; ends = λ front e. absurd (no_slash root h.1 front e); some = some }

alone : (front : List ℕ) → slash ∷ [] ≡ front ++ slash ∷ [] → front ≡ []
alone [] e = refl
alone (x ∷ xs) e = absurd (omega (arith, ap length e, length-append xs (slash ∷ [])))

first_left : (given slashes : List ℕ) → All (λ b. b ≡ slash) slashes → given ≡ slashes → given ≢ [] → IsTrimmed given (slash ∷ [])
first_left given [] only are some = absurd (some are)
first_left given (b ∷ bs) only are some = record {
  slashes = bs;
  only = All-tail (λ b. b ≡ slash) b bs only;
  are = are ∙ ap (λ c. c ∷ bs) (All-head (λ b. b ≡ slash) b bs only);
  ends = alone;
  some = λ e. absurd (cc e);
}

-- a root of slashes alone
pub trims_all : (given root : List ℕ) → IsTrimEndMatches (FindsCharSuffix slash) given root → root ≡ [] → given ≢ []
    → IsTrimmed given (slash ∷ [])
trims_all given root h none some =
    let so = cut given h.0.0 root h.0.1 in
    first_left given so.0 so.1 (so.2 ∙ ap (λ l. l ++ so.0) none) some
