-- No position of a glob stands twice in its table.
use Rattle.std.proofs.Common.{◌≡◌, ◌<◌, ◌≤◌, ◌⊎◌, inl, inr, ℕ, zero, suc, List, [], ◌∷◌, ◌++◌, map, arith, refl, sym, ◌∙◌, ap, subst}
use Rattle.std.specs.Prelude.{Contains}
use Rattle.std.proofs.lemmas.List.{map-append}
use Rattle.std.proofs.lemmas.List.Elements.{Contains-append_cases}
use Rattle.ignore_glob.specs.Glob.{Token, literal, any, star, start, middle, end, class, alternates, Tokens, done, then, Branches}
use Rattle.ignore_glob.specs.Glob.{no_branch, branch}
use Rattle.ignore_glob.specs.Positions.{Place, first, after, in_branch, Position, before, inside, the_end, Entry, table, token_table}
use Rattle.ignore_glob.specs.Positions.{branch_table, HasNoDuplicates}
use Rattle.ignore_glob.proofs.Once.{append_once}

-- how many steps lead from the first place to this one
abbrev size : Place → ℕ
size first = 0
size (after p) = suc (size p)
size (in_branch i p) = suc (size p)

-- the place, named second, is r or lies past it
abbrev Below : Place → Place → Type 0
Below r first = first ≡ r
Below r (after q) = (after q ≡ r) ⊎ Below r q
Below r (in_branch i q) = (in_branch i q ≡ r) ⊎ Below r q

below_self : (p : Place) → Below p p
below_self first = refl
below_self (after p) = inl refl
below_self (in_branch i p) = inl refl

below_trans : (q r s : Place) → Below r s → Below s q → Below r q
below_trans first r s a b = let P : Place → Type 0 = λ x. Below r x in subst P (sym b) a
below_trans (after q) r s a b = elim b [
  | inl e ↦ let P : Place → Type 0 = λ x. Below r x in subst P (sym e) a
  | inr c ↦ inr (below_trans q r s a c)
]
below_trans (in_branch i q) r s a b = elim b [
  | inl e ↦ let P : Place → Type 0 = λ x. Below r x in subst P (sym e) a
  | inr c ↦ inr (below_trans q r s a c)
]

below_after : (p q : Place) → Below (after p) q → Below p q
below_after p q h = below_trans q p (after p) (inr (below_self p)) h

below_branch : (i : ℕ) (p q : Place) → Below (in_branch i p) q → Below p q
below_branch i p q h = below_trans q p (in_branch i p) (inr (below_self p)) h

below_size : (q r : Place) → Below r q → size r ≤ size q
below_size first r h = let e : size first ≡ size r = ap size h in omega (arith, e)
below_size (after q) r h = elim h [
  | inl same ↦ let e : size (after q) ≡ size r = ap size same in omega (arith, e)
  | inr more ↦ let l = below_size q r more in omega (arith, l)
]
below_size (in_branch i q) r h = elim h [
  | inl same ↦ let e : size (in_branch i q) ≡ size r = ap size same in omega (arith, e)
  | inr more ↦ let l = below_size q r more in omega (arith, l)
]

-- only one place of each size lies on the way to a place
one_below : (q r s : Place) → Below r q → Below s q → size r ≡ size s → r ≡ s
one_below first r s a b e = sym a ∙ b
one_below (after q) r s a b e = elim a [
  | inl x ↦ elim b [
    | inl y ↦ sym x ∙ y
    | inr y ↦ absurd (let l = below_size q s y in let f : size (after q) ≡ size r = ap size x in omega (arith, l, f, e))
  ]
  | inr x ↦ elim b [
    | inl y ↦ absurd (let l = below_size q r x in let f : size (after q) ≡ size s = ap size y in omega (arith, l, f, e))
    | inr y ↦ one_below q r s x y e
  ]
]
one_below (in_branch i q) r s a b e = elim a [
  | inl x ↦ elim b [
    | inl y ↦ sym x ∙ y
    | inr y ↦ absurd (let l = below_size q s y in let f : size (in_branch i q) ≡ size r = ap size x in omega (arith, l, f, e))
  ]
  | inr x ↦ elim b [
    | inl y ↦ absurd (let l = below_size q r x in let f : size (in_branch i q) ≡ size s = ap size y in omega (arith, l, f, e))
    | inr y ↦ one_below q r s x y e
  ]
]

-- the position is before or inside a token whose place is r or lies past it
abbrev In : Place → Position → Type 0
In r (before q) = Below r q
In r (inside q) = Below r q
In r the_end = ⊥

in_after : (p : Place) (x : Position) → In (after p) x → In p x
in_after p (before q) h = below_after p q h
in_after p (inside q) h = below_after p q h
in_after p the_end h = h

in_branch_in : (i : ℕ) (p : Place) (x : Position) → In (in_branch i p) x → In p x
in_branch_in i p (before q) h = below_branch i p q h
in_branch_in i p (inside q) h = below_branch i p q h
in_branch_in i p the_end h = h

one_in : (x : Position) (r s : Place) → In r x → In s x → size r ≡ size s → r ≡ s
one_in (before q) r s a b e = one_below q r s a b e
one_in (inside q) r s a b e = one_below q r s a b e
one_in the_end r s a b e = absurd a

-- the position belongs to the token at p or to a branch of its braces
abbrev OfToken : Place → Position → Type 0
OfToken p x = (x ≡ before p) ⊎ ((x ≡ inside p) ⊎ ((j : ℕ) × In (in_branch j p) x))

of_token_in : (p : Place) (x : Position) → OfToken p x → In p x
of_token_in p x h = elim h [
  | inl e ↦ let P : Position → Type 0 = λ y. In p y in subst P (sym e) (below_self p)
  | inr more ↦ elim more [
    | inl e ↦ let P : Position → Type 0 = λ y. In p y in subst P (sym e) (below_self p)
    | inr deep ↦ in_branch_in deep.0 p x deep.1
  ]
]

-- a position past the token at p isn't one of its own
not_own : (p r : Place) → Below r p → size p < size r → ⊥
not_own p r h l = let k = below_size p r h in omega (arith, k, l)

of_token_apart : (p : Place) (x : Position) → OfToken p x → In (after p) x → ⊥
of_token_apart p x h k = elim h [
  | inl e ↦ let P : Position → Type 0 = λ y. In (after p) y in not_own p (after p) (subst P e k) (omega arith)
  | inr more ↦ elim more [
    | inl e ↦ let P : Position → Type 0 = λ y. In (after p) y in not_own p (after p) (subst P e k) (omega arith)
    | inr deep ↦ let same : in_branch deep.0 p ≡ after p = one_in x (in_branch deep.0 p) (after p) deep.1 k refl in absurd (cc same)
  ]
]

-- the positions of a part of the table
abbrev pub own : List Entry → List Position
own entries = map (λ r. r.0) entries

only : (x y : Position) → Contains (x ∷ []) y → y ≡ x
only x y (zero, l, e) = sym e
only x y (suc k, l, e) = absurd (omega (arith, l))

either : (x z y : Position) → Contains (x ∷ z ∷ []) y → (y ≡ x) ⊎ (y ≡ z)
either x z y (zero, l, e) = inl (sym e)
either x z y (suc zero, l, e) = inr (sym e)
either x z y (suc (suc k), l, e) = absurd (omega (arith, l))

head_or : (x y : Position) (xs : List Position) → Contains (x ∷ xs) y → (y ≡ x) ⊎ Contains xs y
head_or x y xs (zero, l, e) = inl (sym e)
head_or x y xs (suc k, l, e) = inr (k, omega (arith, l), e)

none : (x : Position) → Contains [] x → ⊥
none x h = omega (arith, h.1)

two_of : (p : Place) (x : Position) → Contains (before p ∷ inside p ∷ []) x → OfToken p x
two_of p x h = elim (either (before p) (inside p) x h) [ inl e ↦ inl e | inr e ↦ inr (inl e) ]

two_once : (p : Place) → HasNoDuplicates (before p ∷ inside p ∷ [])
two_once p = ((λ h. let e : before p ≡ inside p = only (inside p) (before p) h in absurd (cc e)), ((λ h. none (inside p) h), tt))

mutual
  token_in : (t : Token) (p : Place) (n x : Position) → Contains (own (token_table t p n)) x → OfToken p x
  token_in (literal c) p n x h = inl (only (before p) x h)
  token_in any p n x h = inl (only (before p) x h)
  token_in star p n x h = inl (only (before p) x h)
  token_in start p n x h = two_of p x h
  token_in middle p n x h = two_of p x h
  token_in end p n x h = two_of p x h
  token_in (class negated ranges) p n x h = inl (only (before p) x h)
  token_in (alternates bs) p n x h = elim (head_or (before p) x (own (branch_table bs 0 p n)) h) [
    | inl e ↦ inl e
    | inr more ↦ let found = branches_in bs 0 p n x more in inr (inr (found.0, found.2))
  ]

  pub tokens_in : (ts : Tokens) (p : Place) (n x : Position) → Contains (own (table ts p n)) x → In p x
  tokens_in done p n x h = absurd (none x h)
  tokens_in (then t ts) p n x h =
      elim (Contains-append_cases (own (token_table t p _)) (own (table ts (after p) n)) x (rw map-append at h)) [
        | inl a ↦ of_token_in p x (token_in t p _ x a)
        | inr b ↦ in_after p x (tokens_in ts (after p) n x b)
      ]

  branches_in : (bs : Branches) (i : ℕ) (p : Place) (n x : Position) → Contains (own (branch_table bs i p n)) x
      → (j : ℕ) × (i ≤ j) × In (in_branch j p) x
  branches_in no_branch i p n x h = absurd (none x h)
  branches_in (branch ts bs) i p n x h =
      elim (Contains-append_cases (own (table ts (in_branch i p) n)) (own (branch_table bs (suc i) p n)) x (rw map-append at h)) [
        | inl a ↦ (i, omega arith, tokens_in ts (in_branch i p) n x a)
        | inr b ↦ let found = branches_in bs (suc i) p n x b in (found.0, (let l = found.1 in omega (arith, l)), found.2)
      ]

mutual
  token_once : (t : Token) (p : Place) (n : Position) → HasNoDuplicates (own (token_table t p n))
  token_once (literal c) p n = ((λ h. none (before p) h), tt)
  token_once any p n = ((λ h. none (before p) h), tt)
  token_once star p n = ((λ h. none (before p) h), tt)
  token_once start p n = two_once p
  token_once middle p n = two_once p
  token_once end p n = two_once p
  token_once (class negated ranges) p n = ((λ h. none (before p) h), tt)
  token_once (alternates bs) p n = (
    (λ h. let found = branches_in bs 0 p n (before p) h in not_own p (in_branch found.0 p) found.2 (omega arith)),
    branches_once bs 0 p n,
  )

  pub tokens_once : (ts : Tokens) (p : Place) (n : Position) → HasNoDuplicates (own (table ts p n))
  tokens_once done p n = tt
  tokens_once (then t ts) p n =
      rw map-append (append_once (own (token_table t p _)) (own (table ts (after p) n)) (token_once t p _) (tokens_once ts (after p) n)
      (λ x a b. of_token_apart p x (token_in t p _ x a) (tokens_in ts (after p) n x b)))

  branches_once : (bs : Branches) (i : ℕ) (p : Place) (n : Position) → HasNoDuplicates (own (branch_table bs i p n))
  branches_once no_branch i p n = tt
  branches_once (branch ts bs) i p n =
      rw map-append (append_once (own (table ts (in_branch i p) n)) (own (branch_table bs (suc i) p n)) (tokens_once ts (in_branch i p) n)
      (branches_once bs (suc i) p n)
      (λ x a b.
      let found = branches_in bs (suc i) p n x b in
      let same : in_branch i p ≡ in_branch found.0 p = one_in x (in_branch i p) (in_branch found.0 p)
      (tokens_in ts (in_branch i p) n x a) found.2 refl in
      let number : i ≡ found.0 = cc same in
      let l = found.1 in omega (arith, l, number)))

-- all positions: those of the table, and the end
abbrev pub all : Tokens → List Position
all ts = own (table ts first the_end) ++ the_end ∷ []

pub all_once : (ts : Tokens) → HasNoDuplicates (all ts)
all_once ts = append_once (own (table ts first the_end)) (the_end ∷ []) (tokens_once ts first the_end) ((λ h. none the_end h), tt)
    (λ x a b. let e : x ≡ the_end = only the_end x b in let P : Position → Type 0 = λ y. In first y in
    subst P e (tokens_in ts first the_end x a))
