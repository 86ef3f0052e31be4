-- One line of rules more, and how many lines a text has.
use Rattle.std.proofs.Common.{◌≡◌, ℕ, ◌+◌, ◌<◌, ◌≤◌, ◌==◌, not, ◌||◌, Bool, true, false, cond, List, [], ◌∷◌, ◌++◌, length, Option, Some}
use Rattle.std.proofs.Common.{refl, sym, ap, ◌∙◌, subst, append_assoc, arith}
use Rattle.std.proofs.Common.{None as Nothing}
use Rattle.std.proofs.Math.Dec.{eqb-suc-zero}
use Rattle.std.proofs.lemmas.List.{append-nil}
use Rattle.std.proofs.lemmas.List.Splits.{length-slice_split}
use Rattle.std.specs.List.{slice_split, onto_first}
use Rattle.std.specs.Str.Lines.{lines, lines_of_parts}
use Rattle.std.specs.Io.KnownBytes.{Appends}
use Rattle.ignore_rules.specs.Rules.{Building, begun}
use Rattle.commands.specs.Matching.{Adds, AddsAll, AddsOne, no_line, added, refused, refusal}

one_line : (x : ℕ) (p : List ℕ) → length (lines_of_parts ((x ∷ p) ∷ [])) ≤ 1
one_line x p = rw (eqb-suc-zero (length p)) (omega arith)

-- one more segment has at most one more line
part_more : (b : Bool) (x n : ℕ) (ps : List (List ℕ)) → 0 < length ps → length (lines_of_parts ps) ≤ n
    → length (lines_of_parts (cond b ([] ∷ ps) (onto_first x ps))) ≤ n + 1
part_more b x n [] h k = absurd (omega (arith, h))
part_more true x n (p ∷ ps) h k = omega (arith, k)
part_more false x n (p ∷ []) h k = omega (arith, one_line x p)
part_more false x n (p ∷ q ∷ ps) h k = omega (arith, k)

-- a text has at most as many lines as bytes
pub length-lines : (bs : List ℕ) → length (lines bs) ≤ length bs
length-lines [] = omega arith
length-lines (x ∷ xs) =
    omega (
      arith,
      part_more (x == 10) x (length xs) (slice_split (λ b. b == 10) xs)
          (omega (arith, length-slice_split (λ b. b == 10) xs)) (length-lines xs),
    )

pub appends_nothing : (a : Option (List ℕ)) → Appends a a []
appends_nothing Nothing = tt
appends_nothing (Some bs) = sym (append-nil bs)

pub appends_on : (a b c : Option (List ℕ)) (xs ys : List ℕ) → Appends a b xs → Appends b c ys → Appends a c (xs ++ ys)
appends_on Nothing b c xs ys p q = tt
appends_on (Some a) Nothing c xs ys p q = absurd p
appends_on (Some a) (Some b) Nothing xs ys p q = absurd q
appends_on (Some a) (Some b) (Some c) xs ys p q = q ∙ ap (λ x. x ++ ys) p ∙ append_assoc a xs ys

some_text : (xs : List ℕ) (y : ℕ) (ys : List ℕ) → true ≡ not (length (xs ++ y ∷ ys) == 0)
some_text [] y ys = rw (eqb-suc-zero (length ys))
some_text (x ∷ xs) y ys = rw (eqb-suc-zero (length (xs ++ y ∷ ys)))

pub adds_none : (root : List ℕ) (err : Option (List ℕ)) → AddsAll root [] (begun root) (Appends err err) false
adds_none root err = ([], no_line, appends_nothing err, refl)

or-true : (b : Bool) → (b || true) ≡ true
or-true true = refl
or-true false = refl

pub or-false : (b : Bool) → (b || false) ≡ b
or-false true = refl
or-false false = refl

-- a line that was rejected, or added
pub adds_one : (root : List ℕ) (ls : List (List ℕ)) (line : List ℕ) (old new : Building) (before middle after : Option (List ℕ))
    (number : ℕ) (r any : Bool) → AddsAll root ls old (Appends before middle) any → number ≡ length ls + 1
    → AddsOne old number line new (Appends middle after) r → AddsAll root (ls ++ line ∷ []) new (Appends before after) (any || r)
adds_one root ls line old new before middle after number true any so is one =
    let p = one.0 in
    let now : Appends middle after (refusal (length ls + 1) p) = subst (λ n. Appends middle after (refusal n p)) is one.3 in
    let all : Adds root (ls ++ line ∷ []) old (so.0 ++ refusal (length ls + 1) p) = refused ls line old so.0 p so.1 one.1 in (
      so.0 ++ refusal (length ls + 1) p,
      subst (λ b. Adds root (ls ++ line ∷ []) b (so.0 ++ refusal (length ls + 1) p)) (sym one.2)
          all,
      appends_on before middle after so.0 _ so.2 now,
      or-true any ∙ some_text so.0 _ _,
    )
adds_one root ls line old new before middle after number false any so is one = (
  so.0,
  added ls line old new so.0 so.1 one.0,
  subst (Appends before after) (append-nil so.0)
      (appends_on before middle after so.0 [] so.2 one.1),
  or-false any ∙ so.3,
)
