-- A run writes one answer, one report of rejected lines and one status. And what may end each of
-- its steps.
use Rattle.std.proofs.Common.{◌≡◌, ℕ, ◌+◌, ◌==◌, not, Bool, cond, List, [], ◌∷◌, ◌++◌, length, refl, sym, ap, ◌∙◌, subst}
use Rattle.std.proofs.Common.{None as Nothing}
use Rattle.std.specs.Str.Lines.{lines}
use Rattle.ignore_base.specs.Problem.{Problem}
use Rattle.ignore_rules.specs.Rules.{Building, built, AddsLine, Refuses}
use Rattle.ignore_rules.proofs.LinesOnly.{AddsLine-one, Refuses-one, AddsLine-never}
use Rattle.commands.specs.Matching.{Adds, no_line, added, refused, refusal, Prints, answer_line, answer_of}
use Rattle.commands.specs.Stops.{EndsLines, EndsAnswer}
use Rattle.commands.specs.Words.{Question}
use Rattle.commands.specs.declared.stop.Stop.TheVariants.{Usage, Write, Silence}

no_end : {A : Type 0} (xs : List A) (x : A) → [] ≡ xs ++ x ∷ [] → ⊥
no_end [] x e = cc e
no_end (y ∷ xs) x e = cc e

last_same : {A : Type 0} (xs ys : List A) (x y : A) → xs ++ x ∷ [] ≡ ys ++ y ∷ [] → (xs ≡ ys) × (x ≡ y)
last_same [] [] x y e = let here : x ≡ y = cc e in (refl, here)
last_same [] (b ∷ ys) x y e = let left : [] ≡ ys ++ y ∷ [] = cc e in absurd (no_end ys y left)
last_same (a ∷ xs) [] x y e = let left : xs ++ x ∷ [] ≡ [] = cc e in absurd (no_end xs x (sym left))
last_same (a ∷ xs) (b ∷ ys) x y e =
    let here : a ≡ b = cc e in
    let left : xs ++ x ∷ [] ≡ ys ++ y ∷ [] = cc e in
    let more = last_same xs ys x y left in
    (ap (λ z. z ∷ xs) here ∙ ap (λ zs. b ∷ zs) more.0, more.1)

-- the same line, asked of the same builder
moved : (old other : Building) (line text : List ℕ) (new : Building) → old ≡ other → line ≡ text → AddsLine old Nothing line new
    → AddsLine other Nothing text new
moved old other line text new e f h = subst (λ (t : List ℕ). AddsLine other Nothing t new) f
    (subst (λ (b : Building). AddsLine b Nothing line new) e h)

-- lines that are added in turn give one builder, and one report of those that were rejected
Adds-one : (root : List ℕ) (ls ms : List (List ℕ)) (a b : Building) (reported other : List ℕ) → ls ≡ ms → Adds root ls a reported
    → Adds root ms b other → (a ≡ b) × (reported ≡ other)
Adds-one root ls ms a b reported other e no_line no_line = (refl, refl)
Adds-one root ls ms a b reported other e no_line (added ys y old new text v h) = absurd (no_end ys y e)
Adds-one root ls ms a b reported other e no_line (refused ys y builder text p v h) = absurd (no_end ys y e)
Adds-one root ls ms a b reported other e (added xs x old new text v h) no_line = absurd (no_end xs x (sym e))
Adds-one root ls ms a b reported other e (refused xs x builder text p v h) no_line = absurd (no_end xs x (sym e))
Adds-one root ls ms a b reported other e (added xs x old new text v h) (added ys y before after words w k) =
    let at = last_same xs ys x y e in
    let same = Adds-one root xs ys old before text words at.0 v w in
    (AddsLine-one before Nothing y new after (moved old before x y new same.0 at.1 h) k, same.1)
Adds-one root ls ms a b reported other e (added xs x old new text v h) (refused ys y builder words p w k) =
    let at = last_same xs ys x y e in
    let same = Adds-one root xs ys old builder text words at.0 v w in
    absurd (AddsLine-never builder Nothing y new p (moved old builder x y new same.0 at.1 h) k)
Adds-one root ls ms a b reported other e (refused xs x builder text p v h) (added ys y before after words w k) =
    let at = last_same xs ys x y e in
    let same = Adds-one root xs ys builder before text words at.0 v w in
    absurd (AddsLine-never builder Nothing x after p (moved before builder y x after (sym same.0) (sym at.1) k) h)
Adds-one root ls ms a b reported other e (refused xs x builder text p v h) (refused ys y maker words q w k) =
    let at = last_same xs ys x y e in
    let same = Adds-one root xs ys builder maker text words at.0 v w in
    let here = subst (λ (t : List ℕ). Refuses maker.options t p) at.1 (subst (λ (z : Building). Refuses z.options x p) same.0 h) in
    let one = Refuses-one maker.options y p q here k in (
      same.0,
      ap (λ (t : List ℕ). t ++ refusal (length xs + 1) p) same.1
          ∙ (ap (λ (zs : List (List ℕ)). words ++ refusal (length zs + 1) p) at.0
          ∙ ap (λ (r : Problem). words ++ refusal (length ys + 1) r) one),
    )

-- a question has one status, one answer and one report of rejected lines
Prints-one : (question : Question) (s t : ℕ) (out err text words : List ℕ) → Prints question s (λ l. l ≡ out) (λ l. l ≡ err)
    → Prints question t (λ l. l ≡ text) (λ l. l ≡ words) → (s ≡ t) × (out ≡ text) × (err ≡ words)
Prints-one question s t out err text words h k =
    let same = Adds-one question.root (lines question.rules) (lines question.rules) h.builder k.builder h.adds.0 k.adds.0 refl
    h.adds.1 k.adds.1 in
    let any : h.refused ≡ k.refused = h.adds.3 ∙ (ap (λ (l : List ℕ). not (length l == 0)) same.1 ∙ sym k.adds.3) in (
      h.ends ∙ (ap (λ (b : Bool). cond b 1 0) any ∙ sym k.ends),
      sym h.answers ∙ (ap (λ (b : Building). answer_line (answer_of (built b) question.path question.is_dir)) same.0 ∙ k.answers),
      sym h.adds.2 ∙ (same.1 ∙ k.adds.2),
    )

-- Wrong arguments end no step of a run; only the answer ends for a write, and only lines for
-- silence.

EndsLines-usage : (root : List ℕ) (ls : List (List ℕ)) (err : List ℕ → Type 0) → EndsLines root ls err Usage → ⊥
EndsLines-usage root ls err h = h

EndsLines-write : (root : List ℕ) (ls : List (List ℕ)) (err : List ℕ → Type 0) → EndsLines root ls err Write → ⊥
EndsLines-write root ls err h = h

EndsAnswer-usage : (out : List ℕ → Type 0) → EndsAnswer out Usage → ⊥
EndsAnswer-usage out h = h

EndsAnswer-silence : (out : List ℕ → Type 0) → EndsAnswer out Silence → ⊥
EndsAnswer-silence out h = h
