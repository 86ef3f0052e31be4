-- The list of a walk is that of a builder without closures.
use Rattle.ignore_files.specs.Answers.{tree_of}
use Rattle.ignore_kept.proofs.Listing.{listed, unlisted}
use Rattle.ignore_kept.proofs.walked.items_of.Goals as goal

pub returns-in-Ok-clause-listed : goal.returns-in-Ok-clause-listed
returns-in-Ok-clause-listed c =
    let t = tree_of c.args.tree.now in
    let outside = c.in-Ok.ensures.outside t c.is_honest.ensures in
    let o = c.from_options-builder.ensures in
    listed _ _ c.args.tree.now c.args.env.now _ c.args.options _ _ o.options
    (λ t p s is. c.a_builder_without_closures.ensures.scenes t p s o.plain.0 o.plain.1 is)
    (c.in-Ok.ensures.only t c.is_honest.ensures)
    (outside.0, outside.1, c.in-Ok.ensures.headline t c.is_honest.ensures outside.0 outside.1)

pub returns-clause-stopped : goal.returns-clause-stopped
returns-clause-stopped c =
    let o = c.from_options-builder.ensures in
    unlisted _ _ _ _ c.args.tree.now c.args.env.now _ c.args.options _ _ _ c.is_honest.ensures o.options
    (λ t p s is. c.a_builder_without_closures.ensures.scenes t p s o.plain.0 o.plain.1 is) c.ended.ensures
    c.in-Err.ensures.ended
