-- Joining two paths, by how the first one ends.
use Rattle.std.proofs.Common.{◌≡◌, ◌≢◌, ℕ, Bool, true, false, List, [], ◌∷◌, ◌++◌, refl, sym, ap, ◌∙◌, append_assoc, cond}
use Rattle.std.proofs.lemmas.Bool.{cond-true, cond-false, both_ways}
use Rattle.ignore_base.specs.Paths.{components, joined, whole_components, is_absolute, join_of}
use Rattle.ignore_base.proofs.ComponentLemmas.{components-slash, joined-components, whole_components-snoc, whole_components-same}

pub join_of-absolute : (base path : List ℕ) → is_absolute path ≡ true → join_of base path ≡ path
unfolding join_of
join_of-absolute base path e = cond-true (is_absolute path) path (joined (whole_components (components base) ++ components path)) e

pub relative : (base path : List ℕ) → is_absolute path ≡ false
    → join_of base path ≡ joined (whole_components (components base) ++ components path)
unfolding join_of
relative base path e = cond-false (is_absolute path) path (joined (whole_components (components base) ++ components path)) e

pub join_of-nil : (path : List ℕ) → join_of [] path ≡ path
unfolding join_of
join_of-nil path =
    elim (is_absolute path) as (λ v. cond v path (joined (components path)) ≡ path) [ true ↦ refl | false ↦ joined-components path ]

between : (base path : List ℕ) → joined (components base ++ components path) ≡ base ++ 47 ∷ path
between base path = sym (ap joined (components-slash base path)) ∙ joined-components (base ++ 47 ∷ path)

-- a first path that ends with a slash
pub join_of-closed : (prefix path : List ℕ) → is_absolute path ≡ false → join_of (prefix ++ 47 ∷ []) path ≡ (prefix ++ 47 ∷ []) ++ path
join_of-closed prefix path e =
    relative (prefix ++ 47 ∷ []) path e
    ∙ ap (λ l. joined (whole_components l ++ components path)) (components-slash prefix [])
    ∙ ap (λ l. joined (l ++ components path)) (whole_components-snoc (components prefix))
    ∙ between prefix path
    ∙ sym (append_assoc prefix (47 ∷ []) path)

-- one that ends otherwise
pub join_of-open : (base path : List ℕ) → is_absolute path ≡ false → base ≢ [] → ((prefix : List ℕ) → base ≢ prefix ++ 47 ∷ [])
    → join_of base path ≡ base ++ 47 ∷ path
join_of-open base path e some open_end =
    relative base path e
    ∙ ap (λ l. joined (l ++ components path)) (whole_components-same base some open_end)
    ∙ between base path

-- where a slash is added between the two
pub join_of-added : (base path text : List ℕ) (closed : Bool) → is_absolute path ≡ false → base ≢ [] → closed ≡ false
    → ((prefix : List ℕ) → base ≡ prefix ++ 47 ∷ [] → closed ≡ true) → text ≡ base ++ 47 ∷ [] → text ++ path ≡ join_of base path
join_of-added base path text closed e some not_closed ends is =
    ap (λ t. t ++ path) is ∙ append_assoc base (47 ∷ []) path
    ∙ sym (join_of-open base path e some (λ prefix at. both_ways closed not_closed (ends prefix at)))

-- and where the first one has it
pub join_of-kept : (base path text : List ℕ) (prefix : List ℕ) → is_absolute path ≡ false → base ≡ prefix ++ 47 ∷ [] → text ≡ base
    → text ++ path ≡ join_of base path
join_of-kept base path text prefix e at is =
    ap (λ t. t ++ path) (is ∙ at) ∙ sym (join_of-closed prefix path e) ∙ ap (λ b. join_of b path) (sym at)
