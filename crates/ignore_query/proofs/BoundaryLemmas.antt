-- Lists in reverse.
use Rattle.std.proofs.Common.{suc, List, [], ◌∷◌, reverse, sym, subst, arith, All}
use Rattle.std.proofs.lemmas.List.{reverse-append}
use Rattle.std.proofs.lemmas.List.Elements.{All-push}

-- what holds of each element holds of each in reverse
pub All-reverse : {A : Type 0} (P : A → Type 0) (xs : List A) → All P xs → All P (reverse xs)
All-reverse P [] h = h
All-reverse P (x ∷ xs) h =
    subst (All P) (sym (reverse-append (x ∷ []) xs))
    (All-push P (reverse xs) x (All-reverse P xs (λ k d lt. h (suc k) d (omega arith))) (h 0 x (omega arith)))
