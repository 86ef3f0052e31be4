-- A given root has one without the slashes at its end.
use Rattle.std.proofs.Common.{◌≡◌, ◌≢◌, ◌∙◌, ℕ, ◌≤◌, List, [], ◌∷◌, ◌++◌, All, length, refl, sym, ap, subst, inl, inr, arith}
use Rattle.std.proofs.Common.{append_assoc, append-nil, ◌⊎◌}
use Rattle.std.proofs.lemmas.List.Elements.{All-head, All-tail}
use Rattle.std.specs.List.{AllZip}
use Rattle.ignore_base.specs.Text.{slash}
use Rattle.commands.specs.Walking.{IsTrimmed}

abbrev IsSlash : ℕ → Type 0
IsSlash b = b ≡ slash

shorter_first : (a b : List ℕ) → (length a ≤ length b) ⊎ (length b ≤ length a)
shorter_first [] b = inl (omega arith)
shorter_first (x ∷ a) [] = inr (omega arith)
shorter_first (x ∷ a) (y ∷ b) = elim (shorter_first a b) [ inl h ↦ inl (omega (arith, h)) | inr h ↦ inr (omega (arith, h)) ]

-- of two beginnings of a text one goes on where the other ends
goes_on : (a b s t : List ℕ) → a ++ s ≡ b ++ t → length a ≤ length b → (m : List ℕ) × (b ≡ a ++ m) × (s ≡ m ++ t)
goes_on [] b s t e h = (b, refl, e)
goes_on (x ∷ a) [] s t e h = absurd (omega (arith, h))
goes_on (x ∷ a) (y ∷ b) s t e h =
    let here : x ≡ y = cc e in
    let there : a ++ s ≡ b ++ t = cc e in
    let r = goes_on a b s t there (omega (arith, h)) in
    (r.0, ap (λ c. c ∷ b) (sym here) ∙ ap (λ l. x ∷ l) r.1, r.2)

-- slashes end in one
ends_so : (x : ℕ) (m t : List ℕ) → All IsSlash ((x ∷ m) ++ t) → (front : List ℕ) × (x ∷ m ≡ front ++ slash ∷ [])
ends_so x [] t all = ([], ap (λ c. c ∷ []) (All-head IsSlash x t all))
ends_so x (y ∷ m) t all = let r = ends_so y m t (All-tail IsSlash x ((y ∷ m) ++ t) all) in (x ∷ r.0, ap (λ l. x ∷ l) r.1)

nothing : (a m : List ℕ) → a ++ m ≡ [] → a ≡ []
nothing [] m e = refl
nothing (x ∷ a) m e = absurd (cc e)

never : (b t : List ℕ) → b ≢ [] → b ++ t ≢ []
never [] t some e = some refl
never (x ∷ b) t some e = cc e

longer : (given a b m : List ℕ) (h : IsTrimmed given a) (k : IsTrimmed given b) → b ≡ a ++ m → h.slashes ≡ m ++ k.slashes → a ≡ b
longer given a b [] h k is rest = sym (is ∙ append-nil a)
longer given a b (x ∷ m) h k is rest =
    let last = ends_so x m k.slashes (subst (All IsSlash) rest h.only) in
    let end : b ≡ (a ++ last.0) ++ slash ∷ [] = is ∙ (ap (λ l. a ++ l) last.1 ∙ sym (append_assoc a last.0 (slash ∷ []))) in
    let none : a ≡ [] = nothing a last.0 (k.ends (a ++ last.0) end) in
    let some : b ≢ [] = λ e. let both = sym e ∙ (is ∙ ap (λ l. l ++ x ∷ m) none) in cc both in
    absurd (never b k.slashes some (sym k.are ∙ h.some none))

one_root : (given a b : List ℕ) → IsTrimmed given a → IsTrimmed given b → a ≡ b
one_root given a b h k =
    elim (shorter_first a b) [
      | inl short ↦ let r = goes_on a b h.slashes k.slashes (sym h.are ∙ k.are) short in longer given a b r.0 h k r.1 r.2
      | inr short ↦ let r = goes_on b a k.slashes h.slashes (sym k.are ∙ h.are) short in sym (longer given b a r.0 k h r.1 r.2)
    ]

-- and so have given roots
AllZip-one : (given xs ys : List (List ℕ)) → AllZip IsTrimmed given xs → AllZip IsTrimmed given ys → xs ≡ ys
AllZip-one [] [] [] h k = refl
AllZip-one [] [] (y ∷ ys) h k = absurd k
AllZip-one [] (x ∷ xs) ys h k = absurd h
AllZip-one (g ∷ gs) [] ys h k = absurd h
AllZip-one (g ∷ gs) (x ∷ xs) [] h k = absurd k
AllZip-one (g ∷ gs) (x ∷ xs) (y ∷ ys) h k =
    ap (λ z. z ∷ xs) (one_root g x y h.0 k.0) ∙ ap (λ zs. y ∷ zs) (AllZip-one gs xs ys h.1 k.1)
