-- What stays kept, and the directories that an answer needs, one by one.
use lib.Pointwise.{pointwise}
use Rattle.std.proofs.Common.{◌≡◌, ℕ, Bool, true, false, not, ◌||◌, cond, All, List, [], ◌∷◌, ◌++◌, map}
use Rattle.std.proofs.Common.{filter, Option, Some, None, is_some, refl, sym, ◌∙◌, ap}
use Rattle.std.proofs.lemmas.List.{append-nil, map-append}
use Rattle.std.proofs.lemmas.List.Folds.{list_any-append}
use Rattle.std.proofs.lemmas.Slice.Eq.{bytes_eq-Decides, slice_eq-Decides}
use Rattle.std.specs.Cmp.{both_ways}
use Rattle.std.specs.BTreeMap.{get_by_text}
use Rattle.std.specs.List.{list_any}
use Rattle.std.specs.Str.{bytes_eq}
use Rattle.ignore_base.specs.Paths.{IsName}
use Rattle.ignore_dir.specs.Chains.{slashed}
use Rattle.ignore_dir.specs.Query.{ancestors, is_ignored}
use Rattle.ignore_dir.specs.Scene.{QueryScene}
use Rattle.ignore_levels.specs.Levels.{Keeps, slots_of}
use Rattle.ignore_levels.proofs.PassLemmas.{keeps-then}
use Rattle.ignore_query.specs.declared.kept.Cache.{Cache}
use Rattle.ignore_query.specs.declared.kept.Kept.{Kept}
use Rattle.ignore_query.specs.Needs.{Stays, needed}
use Rattle.ignore_query.proofs.KeepLemmas.{Puts, SameAbove, puts_stays, slashed_inj}
use Rattle.ignore_query.proofs.WayLemmas.{left, left_all, left_next, map-map, or_true}

-- What stays kept.

pub stays_itself : (a : Cache) → Stays a a
stays_itself a = record { above = λ h. (h, (refl, refl)); dirs = λ names k h. h; levels = λ place level e. e }

pub stays_then : (a b c : Cache) → Stays a b → Stays b c → Stays a c
stays_then a b c p q = record {
  above = λ h. let x = p.above h in let y = q.above x.0 in (y.0, (y.1.0 ∙ x.1.0, y.1.1 ∙ x.1.1));
  dirs = λ names k h. q.dirs names k (p.dirs names k h);
  levels = keeps-then _ _ _ p.levels q.levels;
}

pub stays_put : (c c' : Cache) (key : List ℕ) (k : Kept) → Puts c c' key k → get_by_text c.dirs.map key ≡ None → SameAbove c c'
    → Keeps (slots_of c.levels) (slots_of c'.levels) → Stays c c'
stays_put c c' key k puts absent same keeps = record {
  above = λ h. (same.0 ∙ h, same.1);
  dirs = λ names r h. puts_stays c c' key k puts absent (slashed names) r h;
  levels = keeps;
}

-- One directory more.

some_or : (b : Bool) (o : Option Kept) (k : Kept) → is_some (cond b (Some k) o) ≡ (is_some o || b)
some_or true (Some x) k = refl
some_or true None k = refl
some_or false (Some x) k = refl
some_or false None k = refl

pub put_kept : (c c' : Cache) (key : List ℕ) (k : Kept) → Puts c c' key k → (text : List ℕ)
    → is_some (get_by_text c'.dirs.map text) ≡ (is_some (get_by_text c.dirs.map text) || bytes_eq key text)
put_kept c c' key k puts text = ap (λ (o : Option Kept). is_some o) (puts text) ∙ some_or (bytes_eq key text) (get_by_text c.dirs.map text) k

pub or_same : (a b : Bool) → (b ≡ true → a ≡ true) → a ≡ (a || b)
or_same true b f = refl
or_same false true f = f refl
or_same false false f = refl

pub known_kept : (c : Cache) (key : List ℕ) (k : Kept) → get_by_text c.dirs.map key ≡ Some k → (text : List ℕ)
    → is_some (get_by_text c.dirs.map text) ≡ (is_some (get_by_text c.dirs.map text) || bytes_eq key text)
known_kept c key k h text =
    or_same (is_some (get_by_text c.dirs.map text)) (bytes_eq key text)
    (λ e. ap (λ t. is_some (get_by_text c.dirs.map t)) (sym ((bytes_eq-Decides key text).0 e)) ∙ ap (λ (o : Option Kept). is_some o) h)

-- Keys by names.

pub same_key : (a b : List (List ℕ)) → All IsName a → All IsName b → bytes_eq (slashed a) (slashed b) ≡ pointwise bytes_eq b a
same_key a b p q =
    let same = slice_eq-Decides bytes_eq-Decides b a (pointwise bytes_eq b a) refl in
    both_ways (bytes_eq (slashed a) (slashed b)) (pointwise bytes_eq b a)
    (λ e. same.1 (sym (slashed_inj a b p q ((bytes_eq-Decides (slashed a) (slashed b)).0 e))))
    (λ e. (bytes_eq-Decides (slashed a) (slashed b)).1 (ap slashed (sym (same.0 e))))

-- The way to a path.

-- the directories from one with some names on, down to the first ignored one
abbrev pub way : QueryScene → List (List ℕ) → List (List ℕ) → List (List (List ℕ))
way g front [] = []
way g front (n ∷ rest) = front ∷ cond (is_ignored g front) [] (way g (front ++ n ∷ []) rest)

-- no proper ancestor of it is ignored
abbrev opened : QueryScene → List (List ℕ) → Bool
opened g q = not (list_any (is_ignored g) (ancestors q))

pub ancestors-append : (a b : List (List ℕ)) → ancestors (a ++ b) ≡ ancestors a ++ map (λ q. a ++ q) (ancestors b)
ancestors-append [] b = sym (left_all b)
ancestors-append (x ∷ xs) b =
    ap (λ (l : List (List (List ℕ))). [] ∷ map (λ q. x ∷ q) l) (ancestors-append xs b)
    ∙ ap (λ (l : List (List (List ℕ))). [] ∷ l)
    (map-append (λ q. x ∷ q) (ancestors xs) (map (λ q. xs ++ q) (ancestors b))
    ∙ ap (λ (l : List (List (List ℕ))). map (λ q. x ∷ q) (ancestors xs) ++ l) (map-map (λ q. x ∷ q) (λ q. xs ++ q) (ancestors b)))

pub ancestors-more : (front : List (List ℕ)) (n : List ℕ) → ancestors (front ++ n ∷ []) ≡ ancestors front ++ front ∷ []
ancestors-more front n =
    ancestors-append front (n ∷ []) ∙ ap (λ (f : List (List ℕ)). ancestors front ++ f ∷ []) (append-nil front)

pub or_false : (b : Bool) → (b || false) ≡ b
or_false true = refl
or_false false = refl

pub any-more : (g : QueryScene) (front : List (List ℕ)) (n : List ℕ)
    → list_any (is_ignored g) (ancestors (front ++ n ∷ [])) ≡ (list_any (is_ignored g) (ancestors front) || is_ignored g front)
any-more g front n = rw (ancestors-more front n, list_any-append, or_false)

-- what is below an ignored directory is below an ignored one
closed : (g : QueryScene) (front : List (List ℕ)) (n : List ℕ) (q : List (List ℕ)) → is_ignored g front ≡ true
    → opened g ((front ++ n ∷ []) ++ q) ≡ false
closed g front n q h =
    let rest = list_any (is_ignored g) (map (λ p. (front ++ n ∷ []) ++ p) (ancestors q)) in
    ap (λ l. not (list_any (is_ignored g) l)) (ancestors-append (front ++ n ∷ []) q)
    ∙ (ap not (list_any-append (is_ignored g) (ancestors (front ++ n ∷ [])) (map (λ p. (front ++ n ∷ []) ++ p) (ancestors q)))
    ∙ (ap (λ b. not (b || rest)) (any-more g front n)
    ∙ (ap (λ b. not ((list_any (is_ignored g) (ancestors front) || b) || rest)) h
    ∙ ap (λ b. not (b || rest)) (or_true (list_any (is_ignored g) (ancestors front))))))

none_opened : (g : QueryScene) (front : List (List ℕ)) (n : List ℕ) (qs : List (List (List ℕ))) → is_ignored g front ≡ true
    → filter (opened g) (map (λ q. (front ++ n ∷ []) ++ q) qs) ≡ []
none_opened g front n [] h = refl
none_opened g front n (q ∷ qs) h =
    let rest = filter (opened g) (map (λ p. (front ++ n ∷ []) ++ p) qs) in
    ap (λ b. cond b (((front ++ n ∷ []) ++ q) ∷ rest) rest) (closed g front n q h) ∙ none_opened g front n qs h

opened_next : (g : QueryScene) (front : List (List ℕ)) (n : List ℕ) → opened g front ≡ true → is_ignored g front ≡ false
    → opened g (front ++ n ∷ []) ≡ true
opened_next g front n o h = rw (any-more g front n, h, or_false) o

way_is : (g : QueryScene) (front rest : List (List ℕ)) → opened g front ≡ true → filter (opened g) (left front rest) ≡ way g front rest
way_is g front [] o = refl
way_is g front (n ∷ rest) o =
    let next = left (front ++ n ∷ []) rest in
    let P : (b : Bool) → is_ignored g front ≡ b → filter (opened g) next ≡ cond b [] (way g (front ++ n ∷ []) rest) =
    λ x. elim x as (λ b. is_ignored g front ≡ b → filter (opened g) next ≡ cond b [] (way g (front ++ n ∷ []) rest)) [
      | true ↦ λ h. none_opened g front n (ancestors rest) h
      | false ↦ λ h. way_is g (front ++ n ∷ []) rest (opened_next g front n o h)
    ] in
    ap (filter (opened g)) (left_next front n rest)
    ∙ (ap (λ b. cond b (front ∷ filter (opened g) next) (filter (opened g) next)) o
    ∙ ap (λ (l : List (List (List ℕ))). front ∷ l) (P (is_ignored g front) refl))

pub needed_way : (g : QueryScene) (names : List (List ℕ)) → needed g names ≡ way g [] names
unfolding needed
needed_way g names = ap (filter (opened g)) (sym (left_all names)) ∙ way_is g [] names refl

pub or_assoc : (a b c : Bool) → (a || (b || c)) ≡ ((a || b) || c)
or_assoc true b c = refl
or_assoc false b c = refl
