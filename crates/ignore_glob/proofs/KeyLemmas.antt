-- The text of tokens that are literals alone, token by token.
use Rattle.std.proofs.Common.{◌≡◌, ℕ, suc, ◌+◌, ◌<◌, ◌≤◌, List, ◌∷◌, ◌++◌, length, get_or, drop, drop-cons}
use Rattle.std.proofs.Common.{add-one, append_assoc, Option, Some, None, encode_utf8, refl, sym, ap, ◌∙◌}
use Rattle.std.specs.Option.{option_map}
use Rattle.std.proofs.lemmas.List.{append-nil, drop_all}
use Rattle.ignore_glob.specs.declared.glob.token.Token.{Token as CodeToken}
use Rattle.ignore_glob.specs.Forms.{literal_of, before, literals}
use Rattle.ignore_glob.specs.View.{view, tokens_view}

module _ (tokens : List CodeToken) (i : ℕ) (t : CodeToken) (fits : i < length tokens) (is : t ≡ get_or tokens i t) where
  place : drop i tokens ≡ t ∷ drop (i + 1) tokens
  place = rw add-one (drop-cons tokens i t fits ∙ ap (λ x. x ∷ drop (suc i) tokens) (sym is))

pub one_literal : (tokens : List CodeToken) (i : ℕ) (t : CodeToken) (c : ℕ) (old new : List ℕ) → i < length tokens → t ≡ get_or tokens i t
    → Some c ≡ literal_of (view t) → new ≡ old ++ encode_utf8 c
    → literals (tokens_view tokens) ≡ option_map (λ bytes. old ++ bytes) (literals (tokens_view (drop i tokens)))
    → literals (tokens_view tokens) ≡ option_map (λ bytes. new ++ bytes) (literals (tokens_view (drop (i + 1) tokens)))
one_literal tokens i t c old new fits is found grown h =
    let rest = literals (tokens_view (drop (i + 1) tokens)) in
    h ∙ (ap (λ ts. option_map (λ bytes. old ++ bytes) (literals (tokens_view ts))) (place tokens i t fits is)
    ∙ (ap (λ o. option_map (λ bytes. old ++ bytes) (before o rest)) (sym found) ∙ prepend rest))
  where
    prepend : (o : Option (List ℕ)) → option_map (λ bytes. old ++ bytes) (before (Some c) o) ≡ option_map (λ bytes. new ++ bytes) o
    prepend None = refl
    prepend (Some bytes) = ap Some (sym (append_assoc old (encode_utf8 c) bytes) ∙ ap (λ l. l ++ bytes) (sym grown))

pub no_literal : (tokens : List CodeToken) (i : ℕ) (t : CodeToken) (old : List ℕ) → i < length tokens → t ≡ get_or tokens i t
    → None ≡ literal_of (view t)
    → literals (tokens_view tokens) ≡ option_map (λ bytes. old ++ bytes) (literals (tokens_view (drop i tokens)))
    → None ≡ literals (tokens_view tokens)
no_literal tokens i t old fits is none h =
    sym (h ∙ (ap (λ ts. option_map (λ bytes. old ++ bytes) (literals (tokens_view ts))) (place tokens i t fits is)
    ∙ ap (λ o. option_map (λ bytes. old ++ bytes) (before o (literals (tokens_view (drop (i + 1) tokens))))) (sym none)))

pub all_literals : (tokens : List CodeToken) (i : ℕ) (old : List ℕ) → length tokens ≤ i
    → literals (tokens_view tokens) ≡ option_map (λ bytes. old ++ bytes) (literals (tokens_view (drop i tokens)))
    → Some old ≡ literals (tokens_view tokens)
all_literals tokens i old past h =
    sym (h ∙ (ap (λ ts. option_map (λ bytes. old ++ bytes) (literals (tokens_view ts))) (drop_all i tokens past)
    ∙ ap Some (append-nil old)))
