-- The spaces at the end of a line: git's rule, which reads the line from its end, as two counts.
use Rattle.std.proofs.Common.{◌≡◌, ◌⊎◌, ℕ, zero, suc, ◌+◌, ◌-◌, ◌%◌, ◌<◌, ◌≤◌, Bool, true, false, not, ◌&&◌, eqb, List, [], ◌∷◌, ◌++◌}
use Rattle.std.proofs.Common.{length, reverse, take, drop, get_or, cond, refl, sym, ap, ◌∙◌, inl, inr, eq-eqb, arith, length-drop}
use Rattle.std.specs.List.{prefix_len, suffix_len}
use Rattle.std.proofs.lemmas.Bool.{false≢true, eqb-true}
use Rattle.std.proofs.lemmas.List.{get_or-reverse, reverse-reverse, reverse-append, length-reverse, take-append-drop}
use Rattle.std.proofs.lemmas.List.Sums.{prefix_len-le-length, prefix_len_passes}
use Rattle.std.proofs.Math.Seq.{drop-append_seam}
use Rattle.ignore_rules.specs.Line.{is_odd, without_spaces, git_trimmed}

abbrev spaces : List ℕ → ℕ
spaces text = prefix_len (λ b. eqb b 32) text

abbrev slashes : List ℕ → ℕ
slashes text = prefix_len (λ b. eqb b 92) text

-- an odd number of backslashes

odd-suc : (n : ℕ) → eqb ((1 + n) % 2) 1 ≡ not (eqb (n % 2) 1)
odd-suc n = by_rest (n % 2) refl
  where
    by_rest : (rest : ℕ) → n % 2 ≡ rest → eqb ((1 + n) % 2) 1 ≡ not (eqb rest 1)
    by_rest zero e = eq-eqb _ 1 (omega arith)
    by_rest (suc zero) e = ap (λ k. eqb k 1) (let even : (1 + n) % 2 ≡ 0 = omega arith in even)
    by_rest (suc (suc rest)) e = absurd (omega arith)

nothing_less : (n : ℕ) → 0 - n ≡ 0
nothing_less n = omega arith

less_nothing : (n : ℕ) → n - 0 ≡ n
less_nothing n = omega arith

one_further : (n : ℕ) (odd : Bool) → (n ≡ 0 → odd ≡ false) → suc (n - cond odd 1 0) ≡ 1 + n - cond odd 1 0
one_further n false some = omega arith
one_further zero true some = absurd (false≢true (sym (some refl)))
one_further (suc n) true some = omega arith

one_suc : (n : ℕ) → 1 + n ≡ suc n
one_suc n = omega arith

fewer : (n : ℕ) (odd : Bool) → n - cond odd 1 0 ≤ n
fewer n true = omega arith
fewer n false = omega arith

is_odd-count : (text : List ℕ) → is_odd text ≡ eqb (slashes text % 2) 1
is_odd-count [] = refl
is_odd-count (c ∷ before) = by_first (eqb c 92) (is_odd-count before)
  where
    by_first : (yes : Bool) → is_odd before ≡ eqb (slashes before % 2) 1
        → yes && not (is_odd before) ≡ eqb (cond yes (1 + slashes before) 0 % 2) 1
    by_first false e = refl
    by_first true e = ap not e ∙ sym (odd-suc (slashes before))

-- no space follows an odd number of backslashes
no_space : (text : List ℕ) → is_odd text ≡ true → spaces text ≡ 0
no_space [] h = refl
no_space (c ∷ before) h = by_first (eqb c 92) (eqb c 32) refl refl h
  where
    by_first : (slash space : Bool) → eqb c 92 ≡ slash → eqb c 32 ≡ space → slash && not (is_odd before) ≡ true
        → cond space (1 + spaces before) 0 ≡ 0
    by_first false space e f odd = absurd (false≢true odd)
    by_first true false e f odd = refl
    by_first true true e f odd = absurd (omega (arith, eqb-true c 92 e, eqb-true c 32 f))

-- all spaces go, or all but the first of them
without_spaces-drop : (text : List ℕ) → without_spaces text ≡ drop (spaces text - cond (is_odd (drop (spaces text) text)) 1 0) text
without_spaces-drop [] = refl
without_spaces-drop (c ∷ before) = by_first (eqb c 32) (is_odd before) refl (without_spaces-drop before)
  where
    one_more : (n : ℕ) (odd : Bool) (kept : List ℕ) → (n ≡ 0 → odd ≡ false) → kept ≡ drop (n - cond odd 1 0) before
        → kept ≡ drop (1 + n - cond odd 1 0) (c ∷ before)
    one_more n odd kept some h = h ∙ ap (λ i. drop i (c ∷ before)) (one_further n odd some)

    past_first : (n : ℕ) → drop (1 + n) (c ∷ before) ≡ drop n before
    past_first n = ap (λ i. drop i (c ∷ before)) (one_suc n)

    at_end : (n : ℕ) → is_odd before ≡ false → n ≡ 0 → is_odd (drop n before) ≡ false
    at_end zero even e = even
    at_end (suc n) even e = absurd (omega arith)

    by_first : (space odd : Bool) → is_odd before ≡ odd
        → without_spaces before ≡ drop (spaces before - cond (is_odd (drop (spaces before) before)) 1 0) before
        → cond (space && not odd) (without_spaces before) (c ∷ before)
        ≡ drop (cond space (1 + spaces before) 0 - cond (is_odd (drop (cond space (1 + spaces before) 0) (c ∷ before))) 1 0) (c ∷ before)
    by_first false odd e h = ap (λ n. drop n (c ∷ before)) (sym (nothing_less (cond (is_odd (c ∷ before)) 1 0)))
    by_first true true e h =
        let none = no_space before e in
        rw none (ap (λ odd. drop (1 - cond odd 1 0) (c ∷ before)) (sym e))
    by_first true false e h =
        one_more (spaces before) (is_odd (drop (spaces before) before)) (without_spaces before) (at_end (spaces before) e) h
        ∙ ap (λ l. drop (1 + spaces before - cond (is_odd l) 1 0) (c ∷ before)) (sym (past_first (spaces before)))

-- a prefix of a line, read from its end
reverse-take : (text : List ℕ) (n : ℕ) → n ≤ length text → reverse (take (length text - n) text) ≡ drop n (reverse text)
reverse-take text n within =
    let k = length text - n in
    let whole : reverse text ≡ reverse (drop k text) ++ reverse (take k text) = ap reverse (sym (take-append-drop k text))
    ∙ reverse-append (take k text) (drop k text) in
    let all : length (reverse (drop k text)) ≡ n = length-reverse (drop k text) ∙ (length-drop k text ∙ omega arith) in
    sym (ap (drop n) whole ∙ (ap (λ i. drop i (reverse (drop k text) ++ reverse (take k text))) (sym all)
    ∙ drop-append_seam (reverse (drop k text)) (reverse (take k text))))

drop-reverse : (text : List ℕ) (n : ℕ) → n ≤ length text → reverse (drop n (reverse text)) ≡ take (length text - n) text
drop-reverse text n within = ap reverse (sym (reverse-take text n within)) ∙ reverse-reverse (take (length text - n) text)

-- the number of backslashes before the spaces is odd
odd-before : (line : List ℕ) (n m : ℕ) → n ≡ suffix_len (λ b. eqb b 32) line → m ≡ suffix_len (λ b. eqb b 92) (take (length line - n) line)
    → is_odd (drop (spaces (reverse line)) (reverse line)) ≡ eqb (m % 2) 1
odd-before line n m e f =
    let within : n ≤ length line = rw (e, ← length-reverse line) (prefix_len-le-length (λ b. eqb b 32) (reverse line)) in
    ap (λ k. is_odd (drop k (reverse line))) (sym e)
    ∙ (ap is_odd (sym (reverse-take line n within))
    ∙ (is_odd-count (reverse (take (length line - n) line)) ∙ ap (λ k. eqb (k % 2) 1) (sym f)))

-- what a line keeps, by the number of its spaces at the end and of the backslashes before them
kept : (line : List ℕ) (n m k : ℕ) → n ≡ suffix_len (λ b. eqb b 32) line → m ≡ suffix_len (λ b. eqb b 92) (take (length line - n) line)
    → (odd : Bool) → eqb (m % 2) 1 ≡ odd → k ≡ n - cond odd 1 0 → git_trimmed line ≡ take (length line - k) line
kept line n m k e f odd test is =
    let within : n ≤ length line = rw (e, ← length-reverse line) (prefix_len-le-length (λ b. eqb b 32) (reverse line)) in
    let less : k ≤ length line = omega (arith, fewer n odd) in
    ap reverse (without_spaces-drop (reverse line)
    ∙ (ap (λ b. drop (spaces (reverse line) - cond b 1 0) (reverse line)) (odd-before line n m e f ∙ test)
    ∙ (ap (λ i. drop (i - cond odd 1 0) (reverse line)) (sym e) ∙ ap (λ i. drop i (reverse line)) (sym is))))
    ∙ drop-reverse line k less

pub all_spaces : (line : List ℕ) (n m : ℕ) → n ≡ suffix_len (λ b. eqb b 32) line
    → m ≡ suffix_len (λ b. eqb b 92) (take (length line - n) line) → (n ≡ 0) ⊎ (eqb (m % 2) 1 ≡ false)
    → git_trimmed line ≡ take (length line - n) line
all_spaces line n m e f (inl none) =
    kept line n m n e f (eqb (m % 2) 1) refl (none ∙ sym (rw none (nothing_less (cond (eqb (m % 2) 1) 1 0))))
all_spaces line n m e f (inr even) = kept line n m n e f false even (sym (less_nothing n))

pub all_but_one : (line : List ℕ) (n m : ℕ) → n ≡ suffix_len (λ b. eqb b 32) line
    → m ≡ suffix_len (λ b. eqb b 92) (take (length line - n) line) → length line - n < length line → eqb (m % 2) 1 ≡ true
    → git_trimmed line ≡ take (length line - n + 1) line
all_but_one line n m e f some odd =
    let within : n ≤ length line = rw (e, ← length-reverse line) (prefix_len-le-length (λ b. eqb b 32) (reverse line)) in
    let same : length line - (n - 1) ≡ length line - n + 1 = omega arith in
    kept line n m (n - 1) e f true odd refl ∙ ap (λ i. take i line) same

-- the spaces at the end are characters of one byte, so the line may be cut at each of them
pub cut_at_space : (line : List ℕ) (n k : ℕ) → n ≡ suffix_len (λ b. eqb b 32) line → length line - n ≤ k → k ≤ length line
    → (k ≤ length line) × (k < length line → 128 ≤ get_or line k 0 → 192 ≤ get_or line k 0)
cut_at_space line n k e low high = (high, λ inside wide. absurd (omega (arith, wide, space inside)))
  where
    space : k < length line → get_or line k 0 ≡ 32
    space inside =
        let i = length line - 1 - k in
        let back : length line - 1 - i ≡ k = omega arith in
        let here : get_or (reverse line) i 0 ≡ get_or line k 0 = get_or-reverse line i 0 (omega arith) ∙ ap (λ j. get_or line j 0) back in
        let run : i < spaces (reverse line) = omega (arith, e) in
        sym here ∙ eqb-true _ 32 (prefix_len_passes (λ b. eqb b 32) (reverse line) i 0 run)
