-- The order of texts, and what it implies for their equality.
use Rattle.std.proofs.Common.{◌≡◌, ℕ, true, false, List, refl, sym, ap, ◌∙◌}
use Rattle.std.specs.Str.{bytes_eq}
use Rattle.std.specs.Ordering.{is_eq, ordering_reverse}
use Rattle.std.specs.Cmp.{IsTotalOrder}
use Rattle.std.specs.Cmp.Lexicographic.{nat_list_cmp_total}
use Rattle.std.specs.declared.cmp.Ordering.{Ordering}
use Rattle.std.specs.declared.cmp.Ordering.TheVariants.{Less, Equal, Greater}
use Rattle.std.proofs.lemmas.Map.Text.{is_eq-slice_cmp}
use Rattle.std.proofs.lemmas.Slice.Eq.{bytes_eq-Decides}
use Rattle.ignore_types.specs.Types.{text_cmp}

pub order : IsTotalOrder text_cmp
order = nat_list_cmp_total

pub same_from_equal : (a b : List ℕ) → text_cmp a b ≡ Equal → a ≡ b
same_from_equal a b h = (bytes_eq-Decides a b).0 (sym (is_eq-slice_cmp a b) ∙ ap is_eq h)

pub equal_from_same : (a b : List ℕ) → a ≡ b → text_cmp a b ≡ Equal
equal_from_same a b h = tied (text_cmp a b) (is_eq-slice_cmp a b ∙ (bytes_eq-Decides a b).1 h)
  where
    tied : (o : Ordering) → is_eq o ≡ true → o ≡ Equal
    tied Less e = cc
    tied Equal e = refl
    tied Greater e = cc

pub differ_from_less : (a b : List ℕ) → text_cmp a b ≡ Less → bytes_eq a b ≡ false
differ_from_less a b h = sym (is_eq-slice_cmp a b) ∙ ap is_eq h

pub greater_from_less : (a b : List ℕ) → text_cmp a b ≡ Less → text_cmp b a ≡ Greater
greater_from_less a b h = order.antisymm b a ∙ ap ordering_reverse h

pub less_from_greater : (a b : List ℕ) → text_cmp a b ≡ Greater → text_cmp b a ≡ Less
less_from_greater a b h = order.antisymm b a ∙ ap ordering_reverse h

pub differ_from_less_back : (a b : List ℕ) → text_cmp a b ≡ Less → bytes_eq b a ≡ false
differ_from_less_back a b h = sym (is_eq-slice_cmp b a) ∙ ap is_eq (greater_from_less a b h)
