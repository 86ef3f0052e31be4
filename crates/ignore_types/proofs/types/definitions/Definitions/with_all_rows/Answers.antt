-- The parts of the table, each added after the one before, are the whole table.
use Rattle.std.proofs.Common.{◌≡◌, ◌∙◌, List, [], ◌∷◌, ◌++◌, ap, refl, sym}
use Rattle.ignore_types.specs.AllDefaults.{all_default_rows, first_rows, second_rows, third_rows, fourth_rows, fifth_rows}
use Rattle.ignore_types.specs.Defaults.{Row, with_rows}
use Rattle.ignore_types.specs.Types.{Definition, with_names}
use Rattle.ignore_types.proofs.types.definitions.Definitions.with_all_rows.Goals as goal

with_rows-append : (a b : List Row) (ds : List Definition) → with_rows (a ++ b) ds ≡ with_rows b (with_rows a ds)
with_rows-append [] b ds = refl
with_rows-append (row ∷ a) b ds = with_rows-append a b (with_names row.0 row.1 ds)

five : (f s t o v : List Row) (d0 d1 d2 d3 d4 d5 : List Definition) → d1 ≡ with_rows f d0 → d2 ≡ with_rows s d1 → d3 ≡ with_rows t d2
    → d4 ≡ with_rows o d3 → d5 ≡ with_rows v d4 → d5 ≡ with_rows (f ++ (s ++ (t ++ (o ++ v)))) d0
five f s t o v d0 d1 d2 d3 d4 d5 e1 e2 e3 e4 e5 =
    e5 ∙ (sym (with_rows-append o v d3 ∙ ap (with_rows v) (sym e4))
    ∙ (ap (with_rows (o ++ v)) e3 ∙ (sym (with_rows-append t (o ++ v) d2)
    ∙ (ap (with_rows (t ++ (o ++ v))) e2 ∙ (sym (with_rows-append s (t ++ (o ++ v)) d1)
    ∙ (ap (with_rows (s ++ (t ++ (o ++ v)))) e1 ∙ sym (with_rows-append f (s ++ (t ++ (o ++ v))) d0)))))))

whole : (ds : List Definition) → with_rows (first_rows ++ (second_rows ++ (third_rows ++ (fourth_rows ++ fifth_rows)))) ds ≡ with_rows all_default_rows ds
unfolding all_default_rows
whole ds = refl

step : (f g : List Row) (old new : List Definition) → new ≡ with_rows g old → g ≡ f → new ≡ with_rows f old
step f g old new e h = e ∙ ap (λ rows. with_rows rows old) h

pub returns : goal.returns
returns c =
    let start = c.args.self.now in
    five first_rows second_rows third_rows fourth_rows fifth_rows start _ _ _ _ _
    (step first_rows _ _ _ c.in_ok-add_rows.ensures c.first_rows.ensures ∙ ap (with_rows first_rows) c.in_ok-definitions.ensures)
    (step second_rows _ _ _ c.in_ok-add_rows-2.ensures c.second_rows.ensures)
    (step third_rows _ _ _ c.in_ok-add_rows-3.ensures c.third_rows.ensures)
    (step fourth_rows _ _ _ c.in_ok-add_rows-4.ensures c.fourth_rows.ensures)
    (step fifth_rows _ _ _ c.in_ok-add_rows-5.ensures c.fifth_rows.ensures)
    ∙ whole start
