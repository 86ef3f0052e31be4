-- Answers by paths, and one more.
use Rattle.std.proofs.Common.{◌≡◌, ◌∷◌, [], ◌++◌, Bool, true, false, ℕ, zero, suc, ◌<◌, ◌≤◌, List, Option, Some, None, cond, is_some, option_map, refl, reverse, drop, get_or, length, arith, ap, subst, sym, ◌∙◌}
use Rattle.std.proofs.lemmas.Bool.{false≢true}
use Rattle.std.proofs.lemmas.List.{reverse-append}
use Rattle.std.specs.List.{find}
use Rattle.std.specs.Str.{bytes_eq}
use Rattle.ignore_base.specs.Text.{Path}
use Rattle.ignore_guide.specs.Answers.{answer_at}
use Rattle.ignore_guide.specs.declared.answers.Answer.{Answer}

first-of : {V : Type 0} (b : Bool) (a : Answer V) (rest : Option (Answer V))
    → option_map (λ (x : Answer V). x.value) (cond b (Some a) rest) ≡ cond b (Some a.value) (option_map (λ (x : Answer V). x.value) rest)
first-of true a rest = refl
first-of false a rest = refl

-- after one answer more, that is the answer of its path
pub answer_more : {V : Type 0} (answers : List (Answer V)) (a : Answer V) (all : List (Answer V)) → all ≡ answers ++ a ∷ [] → (text : Path)
    → answer_at all text ≡ cond (bytes_eq a.path text) (Some a.value) (answer_at answers text)
answer_more {V} answers a all is text =
    ap (λ (l : List (Answer V)). answer_at l text) is
    ∙ (ap (λ (l : List (Answer V)). option_map (λ (x : Answer V). x.value) (find (λ x. bytes_eq x.path text) l)) (reverse-append answers (a ∷ []))
    ∙ first-of (bytes_eq a.path text) a (find (λ (x : Answer V). bytes_eq x.path text) (reverse answers)))

-- One of the answers of a path is there.

is_some_map : {A B : Type 0} (f : A → B) (o : Option A) → is_some (option_map f o) ≡ is_some o
is_some_map f None = refl
is_some_map f (Some a) = refl

some_or : {X : Type 0} (b : Bool) (x : X) (o : Option X) → is_some o ≡ true → is_some (cond b (Some x) o) ≡ true
some_or true x o h = refl
some_or false x o h = h

found_here : {X : Type 0} (p : X → Bool) (x : X) (rest : List X) → p x ≡ true → is_some (find p (x ∷ rest)) ≡ true
found_here p x rest h = ap (λ b. is_some (cond b (Some x) (find p rest))) h

found_after : {X : Type 0} (p : X → Bool) (xs ys : List X) → is_some (find p ys) ≡ true → is_some (find p (xs ++ ys)) ≡ true
found_after p [] ys h = h
found_after p (x ∷ xs) ys h = some_or (p x) x (find p (xs ++ ys)) (found_after p xs ys h)

found_by : {X : Type 0} (p : X → Bool) (x : X) (xs ys : List X) (b : Bool) → (is_some (find p xs) ≡ true → is_some (find p (xs ++ ys)) ≡ true)
    → is_some (cond b (Some x) (find p xs)) ≡ true → is_some (cond b (Some x) (find p (xs ++ ys))) ≡ true
found_by p x xs ys true so h = refl
found_by p x xs ys false so h = so h

found_before : {X : Type 0} (p : X → Bool) (xs ys : List X) → is_some (find p xs) ≡ true → is_some (find p (xs ++ ys)) ≡ true
found_before p [] ys h = absurd (false≢true h)
found_before p (x ∷ xs) ys h = found_by p x xs ys (p x) (found_before p xs ys) h

found_there : {X : Type 0} (p : X → Bool) (xs : List X) (at : ℕ) (x : X) → at < length xs → x ≡ get_or xs at x → p x ≡ true
    → is_some (find p (reverse xs)) ≡ true
found_there p [] at x l is h = absurd (omega (arith, l))
found_there p (y ∷ ys) zero x l is h =
    subst (λ l. is_some (find p l) ≡ true) (sym (reverse-append (y ∷ []) ys))
    (found_after p (reverse ys) (y ∷ []) (found_here p y [] (ap p (sym is) ∙ h)))
found_there p (y ∷ ys) (suc at) x l is h =
    subst (λ l. is_some (find p l) ≡ true) (sym (reverse-append (y ∷ []) ys))
    (found_before p (reverse ys) (y ∷ []) (found_there p ys at x (omega (arith, l)) is h))

-- where an answer stands that is of a path, there is one of it
pub is_there : {V : Type 0} (answers : List (Answer V)) (at : ℕ) (a : Answer V) (path : Path) → at < length answers
    → a ≡ get_or answers at a → bytes_eq a.path path ≡ true → is_some (answer_at answers path) ≡ true
is_there {V} answers at a path l is h =
    is_some_map (λ (x : Answer V). x.value) (find (λ (x : Answer V). bytes_eq x.path path) (reverse answers))
    ∙ found_there (λ (x : Answer V). bytes_eq x.path path) answers at a l is h

-- The first of what is left of a list.

find_first : {X : Type 0} (p : X → Bool) (x : X) (rest : List X) (b : Bool) → p x ≡ b → find p (x ∷ rest) ≡ cond b (Some x) (find p rest)
find_first p x rest b h = ap (λ b. cond b (Some x) (find p rest)) h

-- it is what comes next, if that passes
pub find_this : {X : Type 0} (p : X → Bool) (xs : List X) (at : ℕ) (x : X) → at < length xs → x ≡ get_or xs at x → p x ≡ true
    → find p (drop at xs) ≡ Some x
find_this p [] at x l is h = absurd (omega (arith, l))
find_this p (y ∷ ys) zero x l is h = find_first p y ys true (ap p (sym is) ∙ h) ∙ ap Some (sym is)
find_this p (y ∷ ys) (suc at) x l is h = find_this p ys at x (omega (arith, l)) is h

-- and else the first of what follows
pub find_next : {X : Type 0} (p : X → Bool) (xs : List X) (at : ℕ) (x : X) → at < length xs → x ≡ get_or xs at x → p x ≡ false
    → find p (drop at xs) ≡ find p (drop (suc at) xs)
find_next p [] at x l is h = absurd (omega (arith, l))
find_next p (y ∷ ys) zero x l is h = find_first p y ys false (ap p (sym is) ∙ h)
find_next p (y ∷ ys) (suc at) x l is h = find_next p ys at x (omega (arith, l)) is h

-- nothing is left
pub find_past : {X : Type 0} (p : X → Bool) (xs : List X) (at : ℕ) → length xs ≤ at → find p (drop at xs) ≡ None
find_past p [] zero l = refl
find_past p [] (suc at) l = refl
find_past p (y ∷ ys) zero l = absurd (omega (arith, l))
find_past p (y ∷ ys) (suc at) l = find_past p ys at (omega (arith, l))
