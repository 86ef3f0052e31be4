-- The parts of several problems, one more of them.
use Rattle.std.proofs.Common.{◌≡◌, ◌++◌, ◌∷◌, [], ℕ, List, Option, sym, ap, ◌∙◌}
use Rattle.std.proofs.lemmas.List.{append_assoc, append-nil}
use Rattle.ignore_base.specs.Problem.{Problem, problems_of}
use Rattle.ignore_base.specs.Text.{Path}
use Rattle.ignore_kept.specs.Parts.{One, all_parts_at, parts_at}

pub one_part_more : (path : Option Path) (line : Option ℕ) (before : List Problem) (p : Problem)
    → all_parts_at path line (problems_of (before ++ p ∷ [])) ≡ all_parts_at path line (problems_of before) ++ parts_at path line p
one_part_more path line [] p = append-nil (parts_at path line p)
one_part_more path line (q ∷ before) p =
    ap (λ (l : List One). parts_at path line q ++ l) (one_part_more path line before p)
    ∙ sym (append_assoc (parts_at path line q) (all_parts_at path line (problems_of before)) (parts_at path line p))
