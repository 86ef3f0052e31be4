-- What is written and counted, one more at a time.
use Rattle.std.proofs.Common.{◌≡◌, ◌∙◌, ◌⊎◌, ◌+◌, ℕ, Bool, true, false, cond, List, [], ◌∷◌, ◌++◌, length, map, Option, None, Some, option_map, Bor, refl, sym, ap, subst, inl, inr, arith}
use Rattle.std.proofs.lemmas.Grind.{flat_map-append}
use Rattle.std.proofs.lemmas.List.{append-nil, length-append, map-append}
use Rattle.std.proofs.lemmas.List.Elements.{filter-append}
use Rattle.std.specs.Io.KnownBytes.{Appends}
use Rattle.std.specs.List.{filter, flat_map, list_any}
use Rattle.std.specs.Option.{option_copied}
use Rattle.ignore_base.specs.Problem.{Problem, problem_of}
use Rattle.ignore_base.specs.declared.error.Error.{Error}
use Rattle.ig_options.specs.Quotes.{is_quoted, quoted_byte}
use Rattle.ig_commands.specs.Counts.{capped, counted, one_more}
use Rattle.commands.proofs.LineLemmas.{appends_on}
use Rattle.ig_commands.specs.Form.{field}
use Rattle.ig_commands.specs.Reports.{is_known, report_of}

-- a path that is written as it stands
pub plain_field : (null : Bool) (text bytes : List ℕ) → bytes ≡ text → (null ≡ true) ⊎ (list_any is_quoted text ≡ false) → bytes ≡ field null text
plain_field true text bytes is h = is
plain_field false text bytes is (inl null) = cc null
plain_field false text bytes is (inr none) =
    is ∙ sym (ap (λ (b : Bool). cond b (34 ∷ (flat_map quoted_byte text ++ 34 ∷ [])) text) none)

-- the problem of a borrowed error
pub problem_through : (o : Option (Bor Error)) (e : Option Error) → option_copied o ≡ e
    → option_map (λ (b : Bor Error). problem_of b.now) o ≡ option_map problem_of e
problem_through None e h = ap (option_map problem_of) h
problem_through (Some b) e h = ap (option_map problem_of) h

-- one more of a list of tests
pub counted_more : (n : ℕ) (bs : List Bool) (b : Bool) → counted n (bs ++ b ∷ []) ≡ one_more (counted n bs) b
counted_more n [] b = refl
counted_more n (x ∷ bs) b = counted_more (one_more n x) bs b

-- the sum of two capped numbers
pub capped_sum : (m n : ℕ) → capped (capped m + capped n) ≡ capped (m + n)
capped_sum m n = omega arith

capped_more : (m : ℕ) (b : Bool) → capped (capped m + cond b 1 0) ≡ capped (m + cond b 1 0)
capped_more m true = omega arith
capped_more m false = omega arith

-- the length of a list with one more, where it holds
length_kept : {X : Type 0} (xs : List X) (x : X) (b : Bool) → length (xs ++ cond b (x ∷ []) []) ≡ length xs + cond b 1 0
length_kept xs x true = length-append xs (x ∷ [])
length_kept xs x false = length-append xs []

pub count_kept : {X : Type 0} (xs : List X) (x : X) (b : Bool) (m n : ℕ) → m ≡ capped (length xs) → n ≡ one_more m b
    → n ≡ capped (length (xs ++ cond b (x ∷ []) []))
count_kept xs x b m n h k =
    k
    ∙ (ap (λ l. capped (l + cond b 1 0)) h
    ∙ (capped_more (length xs) b ∙ ap capped (sym (length_kept xs x b))))

pub count_joined : {X : Type 0} (xs ys : List X) (m k n : ℕ) → m ≡ capped (length xs) → k ≡ capped (length ys) → n ≡ capped (m + k)
    → n ≡ capped (length (xs ++ ys))
count_joined xs ys m k n h i j =
    j ∙ (ap (λ l. capped (l + k)) h ∙ (ap (λ l. capped (capped (length xs) + l)) i ∙ (capped_sum (length xs) (length ys)
    ∙ ap capped (sym (length-append xs ys)))))

-- what is written of one more, where it is
pub written_kept : {X : Type 0} (f : X → List ℕ) (xs : List X) (x : X) (b : Bool) (o p q : Option (List ℕ)) → Appends o p (flat_map f xs)
    → Appends p q (cond b (f x) []) → Appends o q (flat_map f (xs ++ cond b (x ∷ []) []))
written_kept f xs x true o p q h k =
    subst (Appends o q) (sym (flat_map-append f xs (x ∷ []) ∙ ap (λ ys. flat_map f xs ++ ys) (append-nil (f x))))
    (appends_on o p q (flat_map f xs) (f x) h k)
written_kept f xs x false o p q h k =
    subst (Appends o q) (sym (flat_map-append f xs [])) (appends_on o p q (flat_map f xs) [] h k)

pub written_joined : {X : Type 0} (f : X → List ℕ) (xs ys : List X) (o p q : Option (List ℕ)) → Appends o p (flat_map f xs)
    → Appends p q (flat_map f ys) → Appends o q (flat_map f (xs ++ ys))
written_joined f xs ys o p q h k =
    subst (Appends o q) (sym (flat_map-append f xs ys)) (appends_on o p q (flat_map f xs) (flat_map f ys) h k)

pub filter_push : {X : Type 0} (p : X → Bool) (xs : List X) (x : X) → filter p (xs ++ x ∷ []) ≡ filter p xs ++ cond (p x) (x ∷ []) []
filter_push p xs x = filter-append p xs (x ∷ [])

-- one problem more, if there is one, is counted and reported
pub reported_more : (ps : List (Option Problem)) (q p : Option Problem) (old new : ℕ) (any : Bool) (x y z : Option (List ℕ)) → q ≡ p
    → old ≡ counted 0 (map is_known ps) → new ≡ one_more old any → any ≡ is_known q → Appends x y (flat_map report_of ps)
    → Appends y z (report_of q)
    → (new ≡ counted 0 (map is_known (ps ++ p ∷ []))) × Appends x z (flat_map report_of (ps ++ p ∷ []))
reported_more ps q p old new any x y z is h k a before here = (
  k
      ∙ (ap (λ n. one_more n any) h
      ∙ (ap (λ b. one_more (counted 0 (map is_known ps)) b) (a ∙ ap is_known is)
      ∙ sym (ap (counted 0) (map-append is_known ps (p ∷ [])) ∙ counted_more 0 (map is_known ps) (is_known p)))),
  subst (Appends x z) (sym (flat_map-append report_of ps (p ∷ []) ∙ ap (λ ys. flat_map report_of ps ++ ys) (append-nil (report_of p))))
      (appends_on x y z (flat_map report_of ps) (report_of p) before (subst (λ (o : Option Problem). Appends y z (report_of o)) is here)),
)
