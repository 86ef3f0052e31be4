use Rattle.std.proofs.Common.{◌≡◌, ◌∷◌, [], ap, refl, arith}
use Rattle.std.proofs.lemmas.Grind.{common_steps}
use Rattle.ignore_glob.specs.LexemeViews.{lexeme_view, row_view}
use Rattle.ignore_glob.proofs.MeaningLemmas.{ends_at, ends_nil}
use Rattle.ignore_glob.proofs.glob.meaning.is_end.Goals as goal

pub returns-in-Some : goal.returns-in-Some
returns-in-Some c =
    let row : c.args.row.now ≡ c.in-Some.first.now ∷ c.in-Some.field-0-1.now = grind (arith, common_steps) in
    ends_at c.is_branch_end.result (lexeme_view c.in-Some.first.now) (row_view c.args.row.now) (row_view c.in-Some.field-0-1.now)
    (ap row_view row) c.is_branch_end.ensures

pub returns-in-None : goal.returns-in-None
returns-in-None c =
    let none : c.args.row.now ≡ [] = grind (arith, common_steps) in
    (λ _. ends_nil (row_view c.args.row.now) (ap row_view none), λ _. refl)
