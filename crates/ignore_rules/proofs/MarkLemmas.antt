-- A text whose marks were trimmed off.
use Rattle.std.proofs.Common.{◌≡◌, ℕ, false, List, [], ◌∷◌, ◌++◌, drop, Option, Some, None, nat_eq, refl, sym, ap, ◌∙◌, cond, arith}
use Rattle.std.specs.List.{starts_with}
use Rattle.std.specs.Option.{IfSome}
use Rattle.std.specs.Str.Pattern.{FindsTextPrefix, CutsPrefixes, IsTrimStartMatches}
use Rattle.std.proofs.lemmas.Str.Pattern.{starts_text}
use Rattle.ignore_rules.specs.RuleFile.{mark, unmarked}

unmarked-prefix : (text : List ℕ) → unmarked (mark ++ text) ≡ unmarked text
unmarked-prefix text = refl

unmarked-same : (text : List ℕ) → starts_with nat_eq text mark ≡ false → unmarked text ≡ text
unmarked-same [] h = refl
unmarked-same (a ∷ []) h = refl
unmarked-same (a ∷ (b ∷ [])) h = refl
unmarked-same (a ∷ (b ∷ (c ∷ text))) h = ap (λ t. cond t (unmarked text) (a ∷ (b ∷ (c ∷ text)))) h

cut_marks : (text : List ℕ) (ns : List ℕ) (rest : List ℕ) → CutsPrefixes (FindsTextPrefix mark) text ns rest → unmarked text ≡ unmarked rest
cut_marks text [] rest e = ap unmarked (sym e)
cut_marks text (n ∷ ns) rest (left, cuts, found, e) =
    cut_marks text ns left cuts ∙ (ap unmarked found.1 ∙ (unmarked-prefix (drop n left) ∙ ap unmarked (sym e)))

no_mark_left : (rest : List ℕ) (o : Option ℕ) → FindsTextPrefix mark rest o → IfSome o (λ n. n ≡ 0) → unmarked rest ≡ rest
no_mark_left rest None found zero = unmarked-same rest (sym (starts_text false mark rest found))
no_mark_left rest (Some n) found zero = let three : n ≡ 3 = found.0 in let none : n ≡ 0 = zero in absurd (omega arith)

pub trimmed_marks : (text rest : List ℕ) → IsTrimStartMatches (FindsTextPrefix mark) text rest → rest ≡ unmarked text
trimmed_marks text rest ((ns, cuts), (o, found, zero)) = sym (cut_marks text ns rest cuts ∙ no_mark_left rest o found zero)
