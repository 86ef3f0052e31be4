use Rattle.std.proofs.Common.{◌≡◌, ◌≢◌, [], length, sym, ap, ◌∙◌, inl, inr, eq-eqb, eqb-true}
use Rattle.std.proofs.lemmas.Bool.{both_ways}
use Rattle.std.proofs.lemmas.List.{nil_from_length}
use Rattle.ignore_base.specs.Paths.{file_name_of, name_in}
use Rattle.ignore_base.proofs.PathLemmas.{file_name_of-nil, file_name_of-some, name_in-none, name_in-some}
use Rattle.ignore_base.proofs.text.file_name.Goals as goal
use Rattle.ignore_base.proofs.text.file_name.Goals.{then-eq-via-then-eq, then-eq-via-else-eq+then-eq-2}

pub returns-then-is_empty : goal.returns-then-is_empty
returns-then-is_empty c =
    let none : c.args.path.now ≡ [] = nil_from_length _ (eqb-true _ 0 (sym c.is_empty.ensures ∙ c.if-is_empty.true)) in
    sym (ap file_name_of none ∙ file_name_of-nil)

pub returns-then-eq : goal.returns-then-eq
returns-then-eq c =
    let some : c.args.path.now ≢ [] = λ e. both_ways _ c.if-is_empty.false (c.is_empty.ensures ∙ eq-eqb _ 0 (ap length e)) in
    sym (file_name_of-some c.args.path.now some ∙ ap name_in (sym c.last_component-name.ensures)
    ∙ name_in-none c.last_component-name.result.now (elim c.then-eq.branch [
      | then-eq-via-then-eq w ↦ inl (sym c.eq.ensures ∙ w.if-eq.true)
      | then-eq-via-else-eq+then-eq-2 w ↦ inr (sym w.eq-else-eq.ensures ∙ w.if-eq-2.true)
    ]))

pub returns : goal.returns
returns c =
    let some : c.args.path.now ≢ [] = λ e. both_ways _ c.if-is_empty.false (c.is_empty.ensures ∙ eq-eqb _ 0 (ap length e)) in
    sym (file_name_of-some c.args.path.now some ∙ ap name_in (sym c.last_component-name.ensures)
    ∙ name_in-some c.last_component-name.result.now (sym c.eq.ensures ∙ c.if-eq.false) (sym c.eq-else-eq.ensures ∙ c.if-eq-2.false))
