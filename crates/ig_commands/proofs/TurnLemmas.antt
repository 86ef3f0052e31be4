-- What is written, reported and counted of things in turn, one more at a time.
use Rattle.std.proofs.Common.{◌≡◌, ◌∙◌, ℕ, ◌+◌, ◌<◌, ◌≤◌, length, take, get_or, Bool, List, [], ◌∷◌, ◌++◌, Option, map, sym, ap, subst, refl}
use Rattle.std.proofs.lemmas.Grind.{flat_map-append}
use Rattle.std.proofs.lemmas.List.{append-nil, map-append, take_all, take_more}
use Rattle.std.specs.Io.KnownBytes.{Appends}
use Rattle.std.specs.List.{flat_map}
use Rattle.commands.proofs.LineLemmas.{appends_on}
use Rattle.ig_commands.specs.Counts.{counted, one_more}

-- what is written of one thing more
pub text_more : {A : Type 0} (f : A → List ℕ) (all : List A) (one : A) (a b c : Option (List ℕ))
    → Appends a b (flat_map f all) → Appends b c (f one) → Appends a c (flat_map f (all ++ one ∷ []))
text_more f all one a b c h k =
    subst (Appends a c) (sym (flat_map-append f all (one ∷ []) ∙ ap (λ ys. flat_map f all ++ ys) (append-nil (f one))))
    (appends_on a b c _ _ h k)

-- what is written of the members of a list up to one more
pub turn_more : {A : Type 0} (f : A → List ℕ) (all : List A) (i : ℕ) (one : A) (a b c : Option (List ℕ)) → i < length all
    → one ≡ get_or all i one → Appends a b (flat_map f (take i all)) → Appends b c (f one) → Appends a c (flat_map f (take (i + 1) all))
turn_more f all i one a b c within here h k =
    let more : take (i + 1) all ≡ take i all ++ one ∷ [] = take_more all i one within ∙ ap (λ x. take i all ++ x ∷ []) (sym here) in
    subst (λ (xs : List _). Appends a c (flat_map f xs)) (sym more) (text_more f (take i all) one a b c h k)

-- what is written of all of them
pub turns_end : {A : Type 0} (f : A → List ℕ) (all : List A) (i : ℕ) (a b : Option (List ℕ)) → length all ≤ i
    → Appends a b (flat_map f (take i all)) → Appends a b (flat_map f all)
turns_end f all i a b done h = subst (λ (xs : List _). Appends a b (flat_map f xs)) (take_all i all done) h

more_counted : (n : ℕ) (bs : List Bool) (b : Bool) → counted n (bs ++ b ∷ []) ≡ one_more (counted n bs) b
more_counted n [] b = refl
more_counted n (x ∷ bs) b = more_counted (one_more n x) bs b

-- a count of one thing more
pub counts_more : {A : Type 0} (f : A → Bool) (all : List A) (one : A) (old new : ℕ) (holds : Bool)
    → old ≡ counted 0 (map f all) → new ≡ one_more old holds → holds ≡ f one → new ≡ counted 0 (map f (all ++ one ∷ []))
counts_more f all one old new holds h k same =
    k
    ∙ (ap (λ n. one_more n holds) h
    ∙ (ap (one_more (counted 0 (map f all))) same
    ∙ (sym (more_counted 0 (map f all) (f one)) ∙ ap (counted 0) (sym (map-append f all (one ∷ []))))))

-- the same of what values of the code stand for
pub text_more_by : {A B : Type 0} (view : B → A) (f : A → List ℕ) (all : List B) (one : B) (a b c : Option (List ℕ))
    → Appends a b (flat_map f (map view all)) → Appends b c (f (view one)) → Appends a c (flat_map f (map view (all ++ one ∷ [])))
text_more_by view f all one a b c h k =
    subst (λ (xs : List _). Appends a c (flat_map f xs)) (sym (map-append view all (one ∷ [])))
    (text_more f (map view all) (view one) a b c h k)

pub counts_more_by : {A B : Type 0} (view : B → A) (f : A → Bool) (all : List B) (one : B) (old new : ℕ) (holds : Bool)
    → old ≡ counted 0 (map f (map view all)) → new ≡ one_more old holds → holds ≡ f (view one)
    → new ≡ counted 0 (map f (map view (all ++ one ∷ [])))
counts_more_by view f all one old new holds h k same =
    counts_more f (map view all) (view one) old new holds h k same
    ∙ ap (λ (xs : List _). counted 0 (map f xs)) (sym (map-append view all (one ∷ [])))
