-- The ancestors of a path, one by one.
use Rattle.std.proofs.Common.{◌≡◌, ◌≢◌, ℕ, Bool, true, false, not, ◌||◌, cond, List, [], ◌∷◌, ◌++◌}
use Rattle.std.proofs.Common.{map, Option, Some, None, is_some, refl, sym, ◌∙◌, ap, append_assoc}
use Rattle.std.proofs.lemmas.List.{append-nil}
use Rattle.std.proofs.lemmas.List.Sums.{take_while-cons}
use Rattle.std.specs.List.{filter_map, take_while}
use Rattle.std.specs.Option.{option_to_list}
use Rattle.ignore_base.specs.Problem.{Problem}
use Rattle.ignore_dir.specs.Query.{ancestors, is_ignored}
use Rattle.ignore_dir.specs.Scene.{QueryScene}
use Rattle.ignore_query.specs.declared.kept.Cache.{Cache}
use Rattle.ignore_query.specs.Listed.{kept_at}
use Rattle.ignore_query.specs.Reports.{new_below, not_kept, problem_in, problems_at}

-- the ancestors that are left in a directory with some names before a path
abbrev pub left : List (List ℕ) → List (List ℕ) → List (List (List ℕ))
left front names = map (λ q. front ++ q) (ancestors names)

-- the problems of loading these, up to the first ignored one, where nothing is kept of them
abbrev pub problems_of : QueryScene → Cache → List (List (List ℕ)) → List (Option Problem)
problems_of g c fronts = map (problem_in g) (not_kept c (take_while (λ f. not (is_ignored g f)) fronts))

abbrev pub collected : List (Option Problem) → List Problem
collected ps = filter_map (λ p. p) ps

pub map-map : {A B C : Type 0} (f : B → C) (h : A → B) (xs : List A) → map f (map h xs) ≡ map (λ x. f (h x)) xs
map-map f h [] = refl
map-map f h (x ∷ xs) = ap (λ l. f (h x) ∷ l) (map-map f h xs)

map-same : {A B : Type 0} (f h : A → B) (xs : List A) → ((x : A) → f x ≡ h x) → map f xs ≡ map h xs
map-same f h [] e = refl
map-same f h (x ∷ xs) e = ap (λ y. y ∷ map f xs) (e x) ∙ ap (λ l. h x ∷ l) (map-same f h xs e)

left_none : (xs : List (List (List ℕ))) → map (λ q. [] ++ q) xs ≡ xs
left_none [] = refl
left_none (x ∷ xs) = ap (λ l. x ∷ l) (left_none xs)

pub left_all : (names : List (List ℕ)) → left [] names ≡ ancestors names
left_all names = left_none (ancestors names)

pub left_next : (front : List (List ℕ)) (n : List ℕ) (rest : List (List ℕ)) → left front (n ∷ rest) ≡ front ∷ left (front ++ n ∷ []) rest
left_next front n rest =
    ap (λ (f : List (List ℕ)). f ∷ map (λ q. front ++ q) (map (λ q. n ∷ q) (ancestors rest))) (append-nil front)
    ∙ ap (λ (l : List (List (List ℕ))). front ∷ l)
    (map-map (λ q. front ++ q) (λ q. n ∷ q) (ancestors rest)
    ∙ map-same (λ q. front ++ n ∷ q) (λ q. (front ++ n ∷ []) ++ q) (ancestors rest) (λ q. sym (append_assoc front (n ∷ []) q)))

-- An ignored ancestor ends the way.

pub no_problems : (g : QueryScene) (c : Cache) (front : List (List ℕ)) (fronts : List (List (List ℕ))) → is_ignored g front ≡ true
    → collected (problems_of g c (front ∷ fronts)) ≡ []
no_problems g c front fronts h =
    ap (λ l. collected (map (problem_in g) (not_kept c l)))
    (take_while-cons (λ f. not (is_ignored g f)) front fronts
    ∙ ap (λ b. let l : List (List (List ℕ)) = cond (not b) (front ∷ take_while (λ f. not (is_ignored g f)) fronts) [] in l) h)

pub or_true : (b : Bool) → (b || true) ≡ true
or_true true = refl
or_true false = refl

pub ignored_problems : (g : QueryScene) (c : Cache) (front : List (List ℕ)) → is_ignored g front ≡ true → problems_at g c front ≡ []
ignored_problems g c front h = rw (h, or_true)

-- A directory that isn't ignored adds its own problems.

one_problem : (kept : Bool) (front : List (List ℕ)) (fronts : List (List (List ℕ))) (f : List (List ℕ)
    → Option Problem) (p : Option Problem) → f front ≡ p
    → collected (map f (cond (not kept) (front ∷ fronts) fronts)) ≡ cond (kept || false) [] (option_to_list p) ++ collected (map f fronts)
one_problem true front fronts f p e = refl
one_problem false front fronts f None e = ap (λ o. collected (o ∷ map f fronts)) e
one_problem false front fronts f (Some p) e = ap (λ o. collected (o ∷ map f fronts)) e

pub next_problems : (g : QueryScene) (c : Cache) (front : List (List ℕ)) (fronts : List (List (List ℕ))) → is_ignored g front ≡ false
    → collected (problems_of g c (front ∷ fronts)) ≡ problems_at g c front ++ collected (problems_of g c fronts)
next_problems g c front fronts h =
    let rest = take_while (λ f. not (is_ignored g f)) fronts in
    ap (λ l. collected (map (problem_in g) (not_kept c l)))
    (take_while-cons (λ f. not (is_ignored g f)) front fronts
    ∙ ap (λ b. let l : List (List (List ℕ)) = cond (not b) (front ∷ rest) [] in l) h)
    ∙ (one_problem (is_some (kept_at c front)) front (not_kept c rest) (problem_in g) (problem_in g front) refl
    ∙ ap (λ b. cond (is_some (kept_at c front) || b) [] (option_to_list (problem_in g front)) ++ collected (problems_of g c fronts))
    (sym h))

pub below_is : (g : QueryScene) (c : Cache) (names : List (List ℕ))
    → collected (new_below g c names) ≡ collected (problems_of g c (left [] names))
unfolding new_below
below_is g c names = ap (λ l. collected (problems_of g c l)) (sym (left_all names))

-- Lists that end.

pub no_last : (ys : List (List ℕ)) (y : List ℕ) → [] ≢ ys ++ y ∷ []
no_last [] y e = cc
no_last (b ∷ bs) y e = cc

pub last_inj : (xs ys : List (List ℕ)) (x y : List ℕ) → xs ++ x ∷ [] ≡ ys ++ y ∷ [] → xs ≡ ys
last_inj [] [] x y e = refl
last_inj [] (b ∷ bs) x y e = absurd (no_last bs y (cc))
last_inj (a ∷ as') [] x y e = absurd (no_last as' x (cc))
last_inj (a ∷ as') (b ∷ bs) x y e =
    let t : as' ++ x ∷ [] ≡ bs ++ y ∷ [] = cc in
    let s : as' ≡ bs = last_inj as' bs x y t in
    let h : a ≡ b = cc in
    cc
