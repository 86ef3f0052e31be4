-- A text that grows by a character.
use Rattle.std.proofs.Common.{◌≡◌, ◌<◌, ◌+◌, ℕ, suc, List, [], ◌∷◌, ◌++◌, encode_utf8, refl, sym, ap, ◌∙◌, take, drop, drop-cons, get_or, length}
use Rattle.std.specs.Char.{IsScalar}
use Rattle.std.specs.Str.{chars, IsUtf8}
use Rattle.std.proofs.lemmas.List.{append-nil, take_more, take-append-drop}
use Rattle.std.proofs.lemmas.Str.{chars-nil, chars-append, chars_past_char, IsUtf8-encode}

chars_one : (c : ℕ) → IsScalar c → chars (encode_utf8 c) ≡ c ∷ []
chars_one c scalar =
    chars_past_char (encode_utf8 c) [] c (IsUtf8-encode c scalar) (sym (append-nil (encode_utf8 c))) ∙ ap (λ l. c ∷ l) chars-nil

pub chars_push : (bytes : List ℕ) (c : ℕ) → IsUtf8 bytes → IsScalar c → chars (bytes ++ encode_utf8 c) ≡ chars bytes ++ c ∷ []
chars_push bytes c text scalar =
    chars-append bytes (encode_utf8 c) text ∙ ap (λ l. chars bytes ++ l) (chars_one c scalar)

pub take_none : (xs : List ℕ) → take 0 xs ≡ []
take_none [] = refl
take_none (x ∷ xs) = refl

-- the empty text is what comes before in any
pub begun : (bytes xs : List ℕ) → bytes ≡ [] → chars bytes ≡ take 0 xs
begun bytes xs none = ap chars none ∙ (chars-nil ∙ sym (take_none xs))

-- a text that is what comes before in another, and the character there
pub grown : (bytes longer xs : List ℕ) (i c : ℕ) → IsUtf8 bytes → chars bytes ≡ take i xs → i < length xs → c ≡ get_or xs i c → IsScalar c
    → longer ≡ bytes ++ encode_utf8 c → chars longer ≡ take (i + 1) xs
grown bytes longer xs i c text same fits is scalar more =
    ap chars more
    ∙ (chars_push bytes c text scalar
    ∙ (ap (λ l. l ++ c ∷ []) same ∙ (ap (λ d. take i xs ++ d ∷ []) is ∙ sym (take_more xs i c fits))))

-- a text is what comes before a place in it, the character there, and what follows
pub cut_at : (xs : List ℕ) (i c mark : ℕ) → i < length xs → c ≡ get_or xs i c → c ≡ mark → xs ≡ take i xs ++ mark ∷ drop (suc i) xs
cut_at xs i c mark fits is same =
    sym (take-append-drop i xs) ∙ ap (λ l. take i xs ++ l) (drop-cons xs i c fits ∙ ap (λ d. d ∷ drop (suc i) xs) (sym is ∙ same))
