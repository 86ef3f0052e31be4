use Rattle.std.proofs.Common.{ap, ◌∙◌, sym, length, eq-eqb, eqb-true}
use Rattle.std.proofs.lemmas.Bool.{both_ways}
use Rattle.std.proofs.lemmas.List.{nil_from_length}
use Rattle.commands.proofs.TrimLemmas.{trims, trims_all}
use Rattle.commands.proofs.listing.trimmed.Goals as goal
use Rattle.commands.proofs.listing.trimmed.Goals.{else-is_empty-via-then-is_empty+else-not-is_empty, else-is_empty-via-else-is_empty}

-- nothing is left of slashes
pub returns-then-not-is_empty : goal.returns-then-not-is_empty
returns-then-not-is_empty c =
    trims_all c.args.root.now c.trim_end_matches-front.result.now c.trim_end_matches-front.ensures.matches
    (nil_from_length _ (eqb-true _ 0 (sym c.is_empty.ensures ∙ c.if-is_empty.true)))
    (λ e. both_ways _ c.if-not-is_empty.true (c.is_empty-then-is_empty.ensures ∙ eq-eqb _ 0 (ap length e)))

pub returns-else-is_empty : goal.returns-else-is_empty
returns-else-is_empty c =
    trims c.args.root.now c.trim_end_matches-front.result.now c.trim_end_matches-front.ensures.matches
    (λ e. elim c.else-is_empty.branch [
      | else-is_empty-via-then-is_empty+else-not-is_empty w ↦
          nil_from_length _ (eqb-true _ 0 (sym w.is_empty-then-is_empty.ensures ∙ w.if-not-is_empty.false))
      | else-is_empty-via-else-is_empty w ↦
          absurd (both_ways _ w.if-is_empty.false (c.is_empty.ensures ∙ eq-eqb _ 0 (ap length e)))
    ])
