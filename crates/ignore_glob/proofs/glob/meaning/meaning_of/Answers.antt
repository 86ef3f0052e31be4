use Rattle.std.proofs.Common.{◌≡◌, ◌∷◌, [], ap, arith}
use Rattle.std.proofs.lemmas.Grind.{common_steps}
use Rattle.std.specs.Arc.{arc_slice_items}
use Rattle.ignore_glob.specs.declared.glob.lexeme.Lexeme.TheVariants as Code
use Rattle.ignore_glob.specs.Row.{question, bracket, opens, ends, of_glob, at_comma, at_closing}
use Rattle.ignore_glob.specs.LexemeViews.{row_view, left_view}
use Rattle.ignore_glob.proofs.MeaningLemmas.{means_at}
use Rattle.ignore_glob.proofs.glob.meaning.meaning_of.Goals as goal

pub returns-in_default : goal.returns-in_default
returns-in_default c =
    let none : c.args.row.now ≡ [] = grind (arith, common_steps) in
    rw none (ends (left_view c.args.left) [] of_glob)

pub returns-in-Char : goal.returns-in-Char
returns-in-Char c =
    let row : c.args.row.now ≡ Code.Char c.in-Char.c ∷ c.in-Some.rest.now = grind (arith, common_steps) in
    rw row (c.at_character.ensures.plain (left_view c.args.left))

pub returns-in-Escaped : goal.returns-in-Escaped
returns-in-Escaped c =
    let row : c.args.row.now ≡ Code.Escaped c.in-Escaped.c ∷ c.in-Some.rest.now = grind (arith, common_steps) in
    rw row (c.at_character-in-Escaped.ensures.escaped (left_view c.args.left))

pub returns-in-Any : goal.returns-in-Any
returns-in-Any c =
    let row : c.args.row.now ≡ Code.Any ∷ c.in-Some.rest.now = grind (arith, common_steps) in
    rw row (question (left_view c.args.left) (row_view c.in-Some.rest.now))

pub returns-in-Class : goal.returns-in-Class
returns-in-Class c =
    let row : c.args.row.now ≡ Code.Class c.in-Class.class ∷ c.in-Some.rest.now = grind (arith, common_steps) in
    rw row (bracket (left_view c.args.left) c.in-Class.class.negated (arc_slice_items c.in-Class.class.ranges) (row_view c.in-Some.rest.now))

pub returns-in-Opening : goal.returns-in-Opening
returns-in-Opening c =
    let row : c.args.row.now ≡ Code.Opening ∷ c.in-Some.rest.now = grind (arith, common_steps) in
    rw row (opens (left_view c.args.left) (row_view c.in-Some.rest.now))

pub returns-in-Comma : goal.returns-in-Comma
returns-in-Comma c =
    let row : c.args.row.now ≡ Code.Comma ∷ c.in-Some.rest.now = grind (arith, common_steps) in
    means_at (left_view c.args.left) (row_view c.args.row.now) _ _ (ap row_view row)
    (ends (left_view c.args.left) _ (at_comma (row_view c.in-Some.rest.now)))

pub returns-in-Closing : goal.returns-in-Closing
returns-in-Closing c =
    let row : c.args.row.now ≡ Code.Closing ∷ c.in-Some.rest.now = grind (arith, common_steps) in
    means_at (left_view c.args.left) (row_view c.args.row.now) _ _ (ap row_view row)
    (ends (left_view c.args.left) _ (at_closing (row_view c.in-Some.rest.now)))
