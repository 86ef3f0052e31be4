use Rattle.std.proofs.Common.{rules, ap, filter, ◌∙◌}
use Rattle.std.proofs.lemmas.Fn.{filter_same}
use Rattle.ig_commands.specs.Worktree.{is_met}
use Rattle.ig_commands.proofs.worktree.met_of.Goals as goal

pub returns : goal.returns
returns c =
    c.new.ensures
    ∙ (filter_same _ is_met _ (λ x b f k. search rules) _ _ c.retain.ensures.filtered ∙ ap (filter is_met) c.into_vec-items.ensures)
