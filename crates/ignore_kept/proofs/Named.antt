-- The names, kinds and sizes of a listing.
use Rattle.std.proofs.Common.{◌≡◌, ◌⊎◌, inl, inr, ◌++◌, ◌∷◌, [], ℕ, zero, suc, List, Some, Err, length, map, slice_get, refl, sym, ap, subst, ◌∙◌, arith}
use Rattle.std.proofs.lemmas.List.{map_push, same_from_push}
use denote.Bor.{Bor}
use Rattle.ignore_base.specs.Text.{Bytes}
use Rattle.ignore_guide.specs.declared.judge.Entry.{Entry}
use Rattle.ignore_kept.specs.Listings.{AreAsMany, AreNames, IsListing, ListsEntries, ListsNames, pieces}
use Rattle.ignore_kept.specs.declared.stopped.Stopped.{Stopped}
use Rattle.ignore_kept.specs.declared.stopped.Stopped.TheVariants.{NotUtf8, Memory as Full, Limit, Invalid, Misused, Tree}

-- the names before a last piece, which is empty
pub names_are : (bytes text : Bytes) (all rest : List (Bor (List ℕ))) (last : Bor (List ℕ)) → text ≡ bytes → map (λ p. p.now) all ≡ pieces text
    → all ≡ rest ++ last ∷ [] → last.now ≡ [] → AreNames bytes (map (λ n. n.now) rest)
names_are bytes text all rest last is cut split empty =
    ap pieces (sym is) ∙ (sym cut ∙ (ap (map (λ p. p.now)) split ∙ (map_push (λ p. p.now) rest last
    ∙ ap (λ (l : Bytes). map (λ n. n.now) rest ++ l ∷ []) empty)))

-- one that isn't empty is no name
pub no_listing : (bytes text : Bytes) (all rest : List (Bor (List ℕ))) (last : Bor (List ℕ)) → text ≡ bytes → map (λ p. p.now) all ≡ pieces text
    → all ≡ rest ++ last ∷ [] → (last.now ≡ [] → ⊥) → ¬ (IsListing bytes)
no_listing bytes text all rest last is cut split full = λ listing.
    let whole : map (λ n. n.now) rest ++ last.now ∷ [] ≡ listing.0 ++ [] ∷ [] =
    sym (map_push (λ p. p.now) rest last) ∙ (ap (map (λ p. p.now)) (sym split) ∙ (cut ∙ (ap pieces is ∙ listing.1))) in
    full (same_from_push (map (λ n. n.now) rest) listing.0 last.now [] whole).1

no-push : (names : List Bytes) → [] ≡ names ++ [] ∷ [] → ⊥
no-push [] h = absurd (cc (h))
no-push (n ∷ names) h = absurd (cc (h))

pub no_pieces : (bytes text : Bytes) (all : List (Bor (List ℕ))) → text ≡ bytes → map (λ p. p.now) all ≡ pieces text → all ≡ []
    → ¬ (IsListing bytes)
no_pieces bytes text all is cut none = λ listing.
    no-push listing.0 (ap (map (λ p. p.now)) (sym none) ∙ (cut ∙ (ap pieces is ∙ listing.1)))

-- a text has names in one way
pub one_listing : (bytes : Bytes) (names others : List Bytes) → AreNames bytes names → AreNames bytes others → names ≡ others
one_listing bytes names others a b = (same_from_push names others [] [] (sym a ∙ b)).0

-- why names can't be read is why entries can't
pub unlisted : (text : Bytes) (kinds sizes : List ℕ) (e : Stopped) → ListsNames text (Err e) → ListsEntries text kinds sizes (Err e)
unlisted text kinds sizes NotUtf8 h = h
unlisted text kinds sizes Misused h = λ names are. absurd (h (names, are))
unlisted text kinds sizes Full h = tt
unlisted text kinds sizes other h = absurd h

pub not_as_many : (text : Bytes) (kinds sizes : List ℕ) (names : List Bytes) → AreNames text names → ¬ (AreAsMany names kinds sizes)
    → ListsEntries text kinds sizes (Err Misused)
not_as_many text kinds sizes names are differ = λ others a.
    subst (λ (l : List Bytes). ¬ (AreAsMany l kinds sizes)) (one_listing text names others are a) differ

-- the elements of a list with one more
pub slice_get-push : {X : Type 0} (xs : List X) (y : X) (i : ℕ) (x : X) → slice_get (xs ++ y ∷ []) i ≡ Some x
    → (slice_get xs i ≡ Some x) ⊎ ((i ≡ length xs) × (y ≡ x))
slice_get-push [] y zero x h = inr (refl, cc (h))
slice_get-push [] y (suc i) x h = absurd (cc (h))
slice_get-push (z ∷ xs) y zero x h = inl h
slice_get-push (z ∷ xs) y (suc i) x h = elim (slice_get-push xs y i x h) [
  | inl a ↦ inl a
  | inr b ↦ inr (omega (arith, b.0), b.1)
]

-- one entry more has what is at its index
pub entry_more : {A : Type 0} (f : Entry → A) (at : ℕ → A) (entries : List Entry) (new : Entry) (n : ℕ) → length entries ≡ n → f new ≡ at n
    → ((i : ℕ) (e : Entry) → slice_get entries i ≡ Some e → f e ≡ at i)
    → (i : ℕ) (e : Entry) → slice_get (entries ++ new ∷ []) i ≡ Some e → f e ≡ at i
entry_more f at entries new n size one all i e h = elim (slice_get-push entries new i e h) [
  | inl a ↦ all i e a
  | inr b ↦ ap f (sym b.1) ∙ (one ∙ ap at (sym (b.0 ∙ size)))
]
