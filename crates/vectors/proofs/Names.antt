-- Names by reference, and the names themselves.
use Rattle.std.proofs.Common.{◌≡◌, ℕ, List, [], ◌∷◌, ◌||◌, map, Bor, refl, ap, ◌∙◌}
use Rattle.std.specs.Str.{bytes_eq}
use Rattle.std.specs.List.{list_any}
use Rattle.std.proofs.lemmas.Cmp.{nat_list_eq_equiv}

pub any_name : (name : List ℕ) (names : List (Bor (List ℕ)))
    → list_any (λ n. bytes_eq n.now name) names ≡ list_any (bytes_eq name) (map (λ n. n.now) names)
any_name name [] = refl
any_name name (n ∷ ns) =
    ap (λ b. b || list_any (λ n. bytes_eq n.now name) ns) (nat_list_eq_equiv.symm n.now name)
    ∙ ap (λ b. bytes_eq name n.now || b) (any_name name ns)
