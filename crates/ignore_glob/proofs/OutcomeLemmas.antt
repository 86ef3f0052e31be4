-- A text has exactly one outcome: its row of lexemes or its leftmost error.
use Rattle.std.proofs.Common.{◌≡◌, ◌≢◌, ◌⊎◌, inl, inr, ◌≤◌, ◌<◌, ℕ, zero, suc, true, false, ◌==◌, if◌then◌else◌, nat_lt, List, [], ◌∷◌}
use Rattle.std.proofs.Common.{◌++◌, length, replicate, Result, Ok, Err, refl, sym, ap, ◌∙◌, subst, arith}
use Rattle.std.proofs.lemmas.Bool.{cases_eq, ne_eqb}
use Rattle.std.proofs.lemmas.Bool.Decides.{nat_tests}
use Rattle.ignore_glob.specs.declared.glob.options.Options.{Options}
use Rattle.ignore_glob.specs.declared.glob.fault.GlobFault.{GlobFault}
use Rattle.ignore_glob.specs.declared.glob.fault.GlobFault.TheVariants.{UnopenedAlternates, UnclosedAlternates, DanglingEscape, TooDeep}
use Rattle.ignore_glob.specs.Lexing.{Lexeme, char, escaped, any, run, opening, comma, closing, Step, lexeme, fault, ended, is_special}
use Rattle.ignore_glob.specs.Lexing.{NoStarFirst, Begins, ordinary, escape, dangling, question, stars, bracket, opens, too_deep, separates}
use Rattle.ignore_glob.specs.Lexing.{closes, unopened, left_open, end, put_first, Lexed, ends, stops, continues}
use Rattle.ignore_glob.proofs.BracketLemmas.{Bracket-same, find_bracket, IsRest-shorter, LeavesRest, Bracket-rest}

abbrev past_stars : List ℕ → ℕ × List ℕ
past_stars [] = (0, [])
past_stars (c ∷ cs) = if c == 42 then (suc (past_stars cs).0, (past_stars cs).1) else (0, c ∷ cs)

abbrev after_backslash : ℕ → List ℕ → Step
after_backslash d [] = fault DanglingEscape
after_backslash d (c ∷ cs) = lexeme (escaped c) cs d

abbrev at_closing : ℕ → List ℕ → Step
at_closing zero cs = fault UnopenedAlternates
at_closing (suc d) cs = lexeme closing cs d

abbrev special : Options → ℕ → ℕ → List ℕ → Step
special o d c cs =
    if c == 63 then lexeme any cs d
    else if c == 92 then after_backslash d cs
    else if c == 42 then lexeme (run (suc (past_stars cs).0)) (past_stars cs).1 d
    else if c == 91 then (find_bracket o d cs).0
    else if c == 123 then (if nat_lt d 64 then lexeme opening cs (suc d) else fault TooDeep)
    else if c == 44 then lexeme comma cs d
    else at_closing d cs

-- the step that a text begins with, computed
abbrev step_of : Options → ℕ → List ℕ → Step
step_of o zero [] = ended
step_of o (suc d) [] = fault UnclosedAlternates
step_of o d (c ∷ cs) = if is_special d c then special o d c cs else lexeme (char c) cs d

past_stars-none : (rest : List ℕ) → NoStarFirst rest → past_stars rest ≡ (0, rest)
past_stars-none [] p = refl
past_stars-none (c ∷ cs) p =
    let other : c ≡ 42 → ⊥ = λ e. p cs (ap (λ x. x ∷ cs) e) in
    ap (λ b. if b then (suc (past_stars cs).0, (past_stars cs).1) else (0, c ∷ cs)) (ne_eqb c 42 other)

past_stars-run : (n : ℕ) (rest : List ℕ) → NoStarFirst rest → past_stars (replicate n 42 ++ rest) ≡ (n, rest)
past_stars-run zero rest p = past_stars-none rest p
past_stars-run (suc n) rest p = ap (λ (q : ℕ × List ℕ). (suc q.0, q.1)) (past_stars-run n rest p)

below : (d n : ℕ) → d < n → nat_lt d n ≡ true
below d n h = grind (arith, nat_tests)

not_below : (d n : ℕ) → n ≤ d → nat_lt d n ≡ false
not_below d n h = grind (arith, nat_tests)

Begins-step : (o : Options) (d : ℕ) (text : List ℕ) (s : Step) → Begins o d text s → s ≡ step_of o d text
Begins-step o d text s (ordinary d' c rest p) = sym (ap (λ b. if b then special o d' c rest else lexeme (char c) rest d') p)
Begins-step o d text s (escape d' c rest) = refl
Begins-step o d text s (dangling d') = refl
Begins-step o d text s (question d' rest) = refl
Begins-step o d text s (stars d' n rest p) = sym (ap (λ (q : ℕ × List ℕ). lexeme (run (suc q.0)) q.1 d') (past_stars-run n rest p))
Begins-step o d text s (bracket d' inside step b) =
    Bracket-same o d' inside step (find_bracket o d' inside).0 b (find_bracket o d' inside).1
Begins-step o d text s (opens d' rest h) = sym (ap (λ b. if b then lexeme opening rest (suc d') else fault TooDeep) (below d' 64 h))
Begins-step o d text s (too_deep d' rest h) = sym (ap (λ b. if b then lexeme opening rest (suc d') else fault TooDeep) (not_below d' 64 h))
Begins-step o d text s (separates d' rest) = refl
Begins-step o d text s (closes d' rest) = refl
Begins-step o d text s (unopened rest) = refl
Begins-step o d text s (left_open d') = refl
Begins-step o d text s end = refl

pub Begins-same : (o : Options) (d : ℕ) (text : List ℕ) (s t : Step) → Begins o d text s → Begins o d text t → s ≡ t
Begins-same o d text s t p q = Begins-step o d text s p ∙ sym (Begins-step o d text t q)

pub Lexed-same : (o : Options) (d : ℕ) (text : List ℕ) (a b : Result (List Lexeme) GlobFault) → Lexed o d text a → Lexed o d text b → a ≡ b
Lexed-same o d text a b (ends d1 t1 p) (ends d2 t2 q) = refl
Lexed-same o d text a b (ends d1 t1 p) (stops d2 t2 g q) =
    absurd (let e : ended ≡ fault g = Begins-same o d1 t1 ended (fault g) p q in cc e)
Lexed-same o d text a b (ends d1 t1 p) (continues d2 e2 t2 rest l out q w) =
    absurd (let e : ended ≡ lexeme l rest e2 = Begins-same o d1 t1 ended (lexeme l rest e2) p q in cc e)
Lexed-same o d text a b (stops d1 t1 f p) (ends d2 t2 q) =
    absurd (let e : fault f ≡ ended = Begins-same o d1 t1 (fault f) ended p q in cc e)
Lexed-same o d text a b (stops d1 t1 f p) (stops d2 t2 g q) =
    let e : fault f ≡ fault g = Begins-same o d1 t1 (fault f) (fault g) p q in let h : f ≡ g = cc e in ap (λ x. Err x) h
Lexed-same o d text a b (stops d1 t1 f p) (continues d2 e2 t2 rest l out q w) =
    absurd (let e : fault f ≡ lexeme l rest e2 = Begins-same o d1 t1 (fault f) (lexeme l rest e2) p q in cc e)
Lexed-same o d text a b (continues d1 e1 t1 rest l out p v) (ends d2 t2 q) =
    absurd (let e : lexeme l rest e1 ≡ ended = Begins-same o d1 t1 (lexeme l rest e1) ended p q in cc e)
Lexed-same o d text a b (continues d1 e1 t1 rest l out p v) (stops d2 t2 g q) =
    absurd (let e : lexeme l rest e1 ≡ fault g = Begins-same o d1 t1 (lexeme l rest e1) (fault g) p q in cc e)
Lexed-same o d text a b (continues d1 e1 t1 rest l out p v) (continues d2 e2 t2 rest' k out' q w) =
    let e : lexeme l rest e1 ≡ lexeme k rest' e2 = Begins-same o d1 t1 (lexeme l rest e1) (lexeme k rest' e2) p q in
    let l_is : l ≡ k = cc e in
    let rest_is : rest ≡ rest' = cc e in
    let depth_is : e1 ≡ e2 = cc e in
    let P : ℕ → Type 0 = λ x. Lexed o x rest out' in
    let Q : List ℕ → Type 0 = λ x. Lexed o e2 x out' in
    let more = Lexed-same o e1 rest out out' v (subst P (sym depth_is) (subst Q (sym rest_is) w)) in
    ap (λ x. put_first x out) l_is ∙ ap (λ x. put_first k x) more

find_stars : (text : List ℕ) → (n : ℕ) × (rest : List ℕ) × (text ≡ replicate n 42 ++ rest) × NoStarFirst rest
find_stars [] = (0, [], refl, (λ more e. cc e))
find_stars (c ∷ cs) = elim (cases_eq c 42) [
  | inl e ↦ let f = find_stars cs in (suc f.0, f.1, cc (e, f.2), f.3)
  | inr n ↦ (0, c ∷ cs, refl, (λ more e. n (cc e)))
]

pub plain : (d c : ℕ) → c ≢ 63 → c ≢ 42 → c ≢ 92 → c ≢ 91 → c ≢ 123 → c ≢ 125 → c ≢ 44 → is_special d c ≡ false
plain d c a1 a2 a3 a4 a5 a6 a7 =
    rw (ne_eqb c 63 a1, ne_eqb c 42 a2, ne_eqb c 92 a3, ne_eqb c 91 a4, ne_eqb c 123 a5, ne_eqb c 125 a6, ne_eqb c 44 a7) refl

abbrev HasStep : Options → ℕ → List ℕ → Type 0
HasStep o d text = (s : Step) × Begins o d text s

at_stars : (o : Options) (d : ℕ) (cs : List ℕ) → HasStep o d (42 ∷ cs)
at_stars o d cs =
    let f = find_stars cs in let P : List ℕ → Type 0 = λ t. HasStep o d (42 ∷ t) in
    subst P (sym f.2) (lexeme (run (suc f.0)) f.1 d, stars d f.0 f.1 f.3)

at_backslash : (o : Options) (d : ℕ) (cs : List ℕ) → HasStep o d (92 ∷ cs)
at_backslash o d [] = (fault DanglingEscape, dangling d)
at_backslash o d (c ∷ cs) = (lexeme (escaped c) cs d, escape d c cs)

at_opening : (o : Options) (d : ℕ) (cs : List ℕ) → (d < 64) ⊎ (64 ≤ d) → HasStep o d (123 ∷ cs)
at_opening o d cs (inl h) = (lexeme opening cs (suc d), opens d cs h)
at_opening o d cs (inr h) = (fault TooDeep, too_deep d cs h)

at_close : (o : Options) (d : ℕ) (cs : List ℕ) → HasStep o d (125 ∷ cs)
at_close o zero cs = (fault UnopenedAlternates, unopened cs)
at_close o (suc d) cs = (lexeme closing cs d, closes d cs)

at_comma : (o : Options) (d : ℕ) (cs : List ℕ) → HasStep o d (44 ∷ cs)
at_comma o zero cs = (lexeme (char 44) cs 0, ordinary 0 44 cs refl)
at_comma o (suc d) cs = (lexeme comma cs (suc d), separates d cs)

lt_or_le : (a b : ℕ) → (a < b) ⊎ (b ≤ a)
lt_or_le a b = grind arith

find_step : (o : Options) (d : ℕ) (text : List ℕ) → HasStep o d text
find_step o zero [] = (ended, end)
find_step o (suc d) [] = (fault UnclosedAlternates, left_open d)
find_step o d (c ∷ cs) =
    let P : ℕ → Type 0 = λ x. HasStep o d (x ∷ cs) in
    elim (cases_eq c 63) [
      | inl e ↦ subst P (sym e) (lexeme any cs d, question d cs)
      | inr a1 ↦
          elim (cases_eq c 42) [
            | inl e ↦ subst P (sym e) (at_stars o d cs)
            | inr a2 ↦
                elim (cases_eq c 92) [
                  | inl e ↦ subst P (sym e) (at_backslash o d cs)
                  | inr a3 ↦
                      elim (cases_eq c 91) [
                        | inl e ↦ subst P (sym e) ((find_bracket o d cs).0, bracket d cs (find_bracket o d cs).0 (find_bracket o d cs).1)
                        | inr a4 ↦
                            elim (cases_eq c 123) [
                              | inl e ↦ subst P (sym e) (at_opening o d cs (lt_or_le d 64))
                              | inr a5 ↦
                                  elim (cases_eq c 125) [
                                    | inl e ↦ subst P (sym e) (at_close o d cs)
                                    | inr a6 ↦
                                        elim (cases_eq c 44) [
                                          | inl e ↦ subst P (sym e) (at_comma o d cs)
                                          | inr a7 ↦
                                              (lexeme (char c) cs d, ordinary d c cs (plain d c a1 a2 a3 a4 a5 a6 a7))
                                        ]
                                  ]
                            ]
                      ]
                ]
          ]
    ]

pub Begins-rest : (o : Options) (d : ℕ) (text : List ℕ) (s : Step) → Begins o d text s → LeavesRest text s
Begins-rest o d text s (ordinary d' c rest p) = (c ∷ [], refl, (omega arith))
Begins-rest o d text s (escape d' c rest) = (92 ∷ c ∷ [], refl, (omega arith))
Begins-rest o d text s (dangling d') = tt
Begins-rest o d text s (question d' rest) = (63 ∷ [], refl, (omega arith))
Begins-rest o d text s (stars d' n rest p) = (replicate (suc n) 42, refl, (omega arith))
Begins-rest o d text s (bracket d' inside step b) = Bracket-rest o d' inside step b
Begins-rest o d text s (opens d' rest h) = (123 ∷ [], refl, (omega arith))
Begins-rest o d text s (too_deep d' rest h) = tt
Begins-rest o d text s (separates d' rest) = (44 ∷ [], refl, (omega arith))
Begins-rest o d text s (closes d' rest) = (125 ∷ [], refl, (omega arith))
Begins-rest o d text s (unopened rest) = tt
Begins-rest o d text s (left_open d') = tt
Begins-rest o d text s end = tt

abbrev HasOutcome : Options → ℕ → List ℕ → Type 0
HasOutcome o d text = (out : Result (List Lexeme) GlobFault) × Lexed o d text out

by_step : (o : Options) (d : ℕ) (text : List ℕ) (s : Step) → Begins o d text s → LeavesRest text s
    → ((e : ℕ) (rest : List ℕ) → length rest < length text → HasOutcome o e rest) → HasOutcome o d text
by_step o d text ended b s more = (Ok [], ends d text b)
by_step o d text (fault f) b s more = (Err f, stops d text f b)
by_step o d text (lexeme l rest e) b s more =
    let w = more e rest (IsRest-shorter text rest s) in (put_first l w.0, continues d e text rest l w.0 b w.1)

outcome_within : (o : Options) (n d : ℕ) (text : List ℕ) → length text ≤ n → HasOutcome o d text
outcome_within o zero d text h =
    let f = find_step o d text in by_step o d text f.0 f.1 (Begins-rest o d text f.0 f.1) (λ e rest k. absurd (omega arith))
outcome_within o (suc n) d text h =
    let f = find_step o d text in
    by_step o d text f.0 f.1 (Begins-rest o d text f.0 f.1) (λ e rest k. outcome_within o n e rest (omega arith))

pub find_outcome : (o : Options) (text : List ℕ) → HasOutcome o 0 text
find_outcome o text = outcome_within o (length text) 0 text (omega arith)
