-- What is kept, and one directory more.
use Rattle.std.proofs.Common.{◌≡◌, ◌≢◌, ℕ, suc, Bool, true, false, ◌||◌, cond, All, Contains, List, [], ◌∷◌, ◌++◌, length}
use Rattle.std.proofs.Common.{Option, Some, None, is_some, refl, sym, ◌∙◌, ap, subst, append_assoc, ◌⊎◌, inl, inr, arith}
use Rattle.std.proofs.Common.{string_bytes, ◌==◌}
use Rattle.std.proofs.Math.Dec.{eqb-suc-zero}
use Rattle.std.specs.BTreeMap.{get_by_text}
use Rattle.std.specs.Map.{update}
use Rattle.std.specs.Option.{option_to_list}
use Rattle.std.specs.Str.{bytes_eq}
use Rattle.std.proofs.lemmas.Slice.Eq.{bytes_eq-Decides}
use Rattle.ignore_base.specs.Paths.{IsName}
use Rattle.ignore_dir.specs.Chains.{slashed}
use Rattle.ignore_dir.specs.Query.{is_ignored}
use Rattle.ignore_dir.specs.Scene.{QueryScene, path_verdict}
use Rattle.ignore_dir.specs.Verdict.{is_ignore}
use Rattle.ignore_dir.proofs.ChainLemmas.{slashed-more}
use Rattle.ignore_query.specs.declared.kept.Cache.{Cache}
use Rattle.ignore_query.specs.declared.kept.Kept.{Kept}
use Rattle.ignore_query.specs.declared.kept.Kept.TheVariants.{Ignored, Loaded}
use Rattle.ignore_levels.specs.Levels.{Keeps, slots_of}
use Rattle.ignore_levels.specs.declared.list.Place.{Place}
use Rattle.ignore_levels.proofs.ChainLemmas.{chain-kept}
use Rattle.ignore_query.specs.Agrees.{Agrees, IsAbove, IsLoaded, IsNext, IsRight, StandsFor, chain_above}
use Rattle.ignore_query.specs.Listed.{IsBelow, SharesLevels, kept_at}
use Rattle.ignore_query.specs.Reports.{problem_in, problems_at}

-- Names and keys.

-- a list of names is empty, or has a last name
pub data Ends (names : List (List ℕ)) : Type 0 where
  none : names ≡ [] → Ends names
  last : (front : List (List ℕ)) (name : List ℕ) → names ≡ front ++ name ∷ [] → Ends names

more_ends : (x : List ℕ) (xs : List (List ℕ)) → Ends xs → Ends (x ∷ xs)
more_ends x xs (none e) = last [] x (ap (λ l. x ∷ l) e)
more_ends x xs (last front name e) = last (x ∷ front) name (ap (λ l. x ∷ l) e)

pub ends : (names : List (List ℕ)) → Ends names
ends [] = none refl
ends (x ∷ xs) = more_ends x xs (ends xs)

pub key_end : (names front : List (List ℕ)) (name key : List ℕ) → names ≡ front ++ name ∷ [] → key ≡ slashed names
    → key ≡ (slashed front ++ name) ++ 47 ∷ []
key_end names front name key is e = e ∙ (ap slashed is ∙ (slashed-more front name ∙ sym (append_assoc (slashed front) name (47 ∷ []))))

pub ignored_last : (g : QueryScene) (front : List (List ℕ)) (name : List ℕ)
    → is_ignore (path_verdict g (front ++ name ∷ []) true) ≡ is_ignored g (front ++ name ∷ [])
unfolding is_ignored
ignored_last g [] name = refl
ignored_last g (x ∷ xs) name = refl

-- a list isn't empty and has a name
pub some_named : (names : List (List ℕ)) (key : List ℕ) → key ≡ slashed names → (length key == 0) ≡ false → names ≡ [] → ⊥
some_named [] [] k h e = cc (h)
some_named [] (b ∷ bs) k h e = cc (k)
some_named (n ∷ names) key k h e = cc (e)

pub root_named : (g : QueryScene) (names : List (List ℕ)) → names ≡ [] → false ≡ is_ignored g names
unfolding is_ignored
root_named g [] h = refl
root_named g (x ∷ xs) h = absurd (cc (h))

no_first : (n a : List ℕ) → n ++ 47 ∷ a ≡ [] → ⊥
no_first [] a e = cc
no_first (x ∷ xs) a e = cc

-- the empty key is that of the root
pub empty_key : (names : List (List ℕ)) (key : List ℕ) → key ≡ slashed names → (length key == 0) ≡ true → names ≡ []
empty_key [] key k h = refl
empty_key (n ∷ names) [] k h = absurd (no_first n (slashed names) (sym k))
empty_key (n ∷ names) (b ∷ bs) k h = absurd (cc (h, eqb-suc-zero (length bs)))

-- no byte is a slash
abbrev pub Whole : List ℕ → Type 0
Whole [] = Unit {0}
Whole (b ∷ bs) = (b ≢ 47) × Whole bs

whole : (x : List ℕ) → ¬ Contains {X = ℕ} x 47 → Whole x
whole [] h = tt
whole (b ∷ bs) h = ((λ e. h (0, omega arith, e)), whole bs (λ c. h (suc c.0, omega (arith, c.1), c.2)))

pub split_inj : (n m a b : List ℕ) → Whole n → Whole m → n ++ 47 ∷ a ≡ m ++ 47 ∷ b → (n ≡ m) × (a ≡ b)
split_inj [] [] a b p q e = (refl, cc)
split_inj [] (y ∷ ys) a b p q e = absurd (q.0 (cc))
split_inj (x ∷ xs) [] a b p q e = absurd (p.0 (cc))
split_inj (x ∷ xs) (y ∷ ys) a b p q e =
    let t : xs ++ 47 ∷ a ≡ ys ++ 47 ∷ b = cc in
    let h : x ≡ y = cc in
    let r = split_inj xs ys a b p.1 q.1 t in
    let front : xs ≡ ys = r.0 in
    (cc, r.1)

no_front : (n a : List ℕ) → [] ≢ n ++ 47 ∷ a
no_front [] a e = cc
no_front (x ∷ xs) a e = cc

pub head_whole : (x : List ℕ) (xs : List (List ℕ)) → All IsName (x ∷ xs) → Whole x
head_whole x xs h = whole x (h 0 x (omega arith)).whole

pub tail_names : (x : List ℕ) (xs : List (List ℕ)) → All IsName (x ∷ xs) → All IsName xs
tail_names x xs h k d l = h (suc k) d (omega (arith, l))

pub slashed_inj : (ns ms : List (List ℕ)) → All IsName ns → All IsName ms → slashed ns ≡ slashed ms → ns ≡ ms
slashed_inj [] [] p q e = refl
slashed_inj [] (m ∷ ms) p q e = absurd (no_front m (slashed ms) e)
slashed_inj (n ∷ ns) [] p q e = absurd (no_front n (slashed ns) (sym e))
slashed_inj (n ∷ ns) (m ∷ ms) p q e =
    let r = split_inj n m (slashed ns) (slashed ms) (head_whole n ns p) (head_whole m ms q) e in
    let h : n ≡ m = r.0 in
    let t : ns ≡ ms = slashed_inj ns ms (tail_names n ns p) (tail_names m ms q) r.1 in
    cc

-- Kept directories.

-- what is right stays so where each level stays at its place
pub right_kept : (g : QueryScene) (c c' : Cache) (names : List (List ℕ)) (k : Kept) → Keeps (slots_of c.levels) (slots_of c'.levels)
    → IsRight g c names k → IsRight g c' names k
right_kept g c c' names Ignored keeps h = h
right_kept g c c' names (Loaded place) keeps h = (h.0, chain-kept _ _ keeps h.1)

pub problems_known : (g : QueryScene) (c : Cache) (names : List (List ℕ)) (k : Kept) → kept_at c names ≡ Some k → problems_at g c names ≡ []
problems_known g c names k h = ap (λ o. cond (is_some o || is_ignored g names) [] (option_to_list (problem_in g names))) h

pub problems_new : (g : QueryScene) (c : Cache) (names : List (List ℕ)) → kept_at c names ≡ None
    → problems_at g c names ≡ cond (is_ignored g names) [] (option_to_list (problem_in g names))
problems_new g c names h = ap (λ o. cond (is_some o || is_ignored g names) [] (option_to_list (problem_in g names))) h

-- the second has one key more
abbrev pub Puts : Cache → Cache → List ℕ → Kept → Type 0
Puts c c' key k = (cs : List ℕ) → get_by_text c'.dirs.map cs ≡ update bytes_eq (get_by_text c.dirs.map) key (Some k) cs

pub puts_from : (b m a : Cache) (key : List ℕ) (k : Kept) → m.dirs ≡ b.dirs → Puts m a key k → Puts b a key k
puts_from b m a key k e puts cs = puts cs ∙ ap (λ d. update bytes_eq (get_by_text d.map) key (Some k) cs) e

same_bytes : (cs : List ℕ) → bytes_eq cs cs ≡ true
same_bytes cs = (bytes_eq-Decides cs cs).1 refl

pub puts_key : (c c' : Cache) (key : List ℕ) (k : Kept) → Puts c c' key k → get_by_text c'.dirs.map key ≡ Some k
puts_key c c' key k puts = puts key ∙ ap (λ b. cond b (Some k) (get_by_text c.dirs.map key)) (same_bytes key)

pub puts_stays : (c c' : Cache) (key : List ℕ) (k : Kept) → Puts c c' key k → get_by_text c.dirs.map key ≡ None → (cs : List ℕ) (r : Kept)
    → get_by_text c.dirs.map cs ≡ Some r → get_by_text c'.dirs.map cs ≡ Some r
puts_stays c c' key k puts absent cs r h =
    let P : (b : Bool) → bytes_eq key cs ≡ b → cond b (Some k) (get_by_text c.dirs.map cs) ≡ Some r =
    λ x. elim x as (λ b. bytes_eq key cs ≡ b → cond b (Some k) (get_by_text c.dirs.map cs) ≡ Some r) [
      | true ↦ λ e. let same : key ≡ cs = (bytes_eq-Decides key cs).0 e in let none : get_by_text c.dirs.map cs
          ≡ None = subst (λ t. get_by_text c.dirs.map t ≡ None) same absent in absurd (cc)
      | false ↦ λ e. h
    ] in
    puts cs ∙ P (bytes_eq key cs) refl

pub put_cases : (c c' : Cache) (names : List (List ℕ)) (k : Kept) → Puts c c' (slashed names) k → All IsName names
    → (q : List (List ℕ)) (r : Kept) → All IsName q → kept_at c' q ≡ Some r → ((q ≡ names) × (r ≡ k)) ⊎ (kept_at c q ≡ Some r)
put_cases c c' names k puts clean q r cleanq h =
    let P : (b : Bool) → bytes_eq (slashed names) (slashed q) ≡ b → cond b (Some k) (kept_at c q) ≡ Some r
    → ((q ≡ names) × (r ≡ k)) ⊎ (kept_at c q ≡ Some r) =
    λ x. elim x as (λ b. bytes_eq (slashed names) (slashed q) ≡ b → cond b (Some k) (kept_at c q) ≡ Some r
    → ((q ≡ names) × (r ≡ k)) ⊎ (kept_at c q ≡ Some r)) [
      | true ↦ λ e g. inl (slashed_inj q names cleanq clean (sym ((bytes_eq-Decides (slashed names) (slashed q)).0 e)), cc)
      | false ↦ λ e g. inr g
    ] in
    P (bytes_eq (slashed names) (slashed q)) refl (sym (puts (slashed q)) ∙ h)

-- the same above the root
abbrev pub SameAbove : Cache → Cache → Type 0
SameAbove c c' = (c'.has_above ≡ c.has_above) × ((c'.above ≡ c.above) × (c'.base ≡ c.base))

pub above_kept : (g : QueryScene) (c c' : Cache) → SameAbove c c' → Keeps (slots_of c.levels) (slots_of c'.levels) → (c.has_above ≡ true → IsAbove g c)
    → c'.has_above ≡ true → IsAbove g c'
above_kept g c c' same keeps old h =
    let a = old (sym same.0 ∙ h) in
    record {
      root = a.root;
      chain = subst (λ p. StandsFor c' p (chain_above g)) (sym same.1.0) (chain-kept _ _ keeps a.chain);
      base = ap (λ t. string_bytes t) same.1.1 ∙ a.base;
    }

-- one directory more: the second has a key more, and its list has grown
pub record AddsOne (g : QueryScene) (c c' : Cache) (names : List (List ℕ)) (place : Option Place) (k : Kept) : Type 0 where
  pub clean : All IsName names
  pub next : IsNext c names place
  pub puts : Puts c c' (slashed names) k
  pub absent : kept_at c names ≡ None
  pub same : SameAbove c c'
  pub keeps : Keeps (slots_of c.levels) (slots_of c'.levels)
  pub right : IsRight g c' names k
  pub below : IsBelow (slots_of c.levels) (slots_of c'.levels) place k

pub put_agrees : (g : QueryScene) (c c' : Cache) (names : List (List ℕ)) (place : Option Place) (k : Kept) → Agrees g c
    → AddsOne g c c' names place k → SharesLevels c' → Agrees g c'
put_agrees g c c' names place k old p shared =
    let split = put_cases c c' names k p.puts p.clean in
    let stays = puts_stays c c' (slashed names) k p.puts p.absent in
    record {
      above = above_kept g c c' p.same p.keeps old.above;
      first = λ q r h. p.same.0 ∙ p.next.rooted;
      right = λ q r cleanq h. elim (split q r cleanq h) as (λ _. IsRight g c' q r) [
        | inl e ↦ subst (λ x. IsRight g c' x r) (sym e.0) (subst (λ x. IsRight g c' names x) (sym e.1) p.right)
        | inr x ↦ right_kept g c c' q r p.keeps (old.right q r cleanq x)
      ];
      inside = λ q r cleanq h front name is. elim (split q r cleanq h) as (λ _. IsLoaded c' front) [
        | inl e ↦ (place, stays (slashed front) (Loaded place) (p.next.inside front name (sym e.0 ∙ is)))
        | inr x ↦ let in' = old.inside q r cleanq x front name is in (in'.0, stays (slashed front) (Loaded in'.0) in'.1)
      ];
      shared = shared;
    }
