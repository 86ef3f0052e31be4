use Rattle.std.proofs.Common.{None, [], inl, inr, map, refl, string_bytes, subst, sym}
use Rattle.std.proofs.lemmas.Result.{IfErr-weaker, IfOk-weaker}
use Rattle.ignore.specs.Builder.{unset, with_order}
use Rattle.ignore.specs.declared.options.WalkOptions.{WalkOptions}
use Rattle.ignore_walk.specs.Entry.{item_of}
use Rattle.ignore_walk.specs.declared.callbacks.Order.TheVariants.{ByName}
use Rattle.commands.specs.Walking.{HasRoots}
use Rattle.commands.proofs.LineLemmas.{appends_nothing}
use Rattle.commands.proofs.WalkLemmas.{begun, listed}
use Rattle.commands.proofs.listing.walk_and_write.Goals as goal

pub returns-clause-lists : goal.returns-clause-lists
returns-clause-lists g c =
    IfOk-weaker c.write_items.result _ _
    (λ any h.
    let w = c.in-Ok-build.walk in
    let k = c.in-Ok-build.ensures in
    let b = c.from_options-builder.result in
    let plain = c.from_options-builder.ensures.plain in (
      map item_of h.0,
      h.2,
      (
        b.options,
        subst (λ (o : WalkOptions). HasRoots (map string_bytes c.args.roots.now) (with_order unset ByName) o)
            (sym c.from_options-builder.ensures.options) c.in-Ok.ensures.value,
        listed g.F.Files _ c.args.world.now.files.now _ c.args.world.now.env.now b.options _
            (λ t o s is. c.a_builder_without_closures.ensures.scenes t o s plain.0 plain.1 is) w.inner (map item_of h.0) k.whole k.limit h.2.enough
            (c.only_the_last_item_ends.ensures w h.0 h.1 k.no_end)
            (λ done. c.a_finished_walk_is_the_headline.ensures _ _ _ _ _ w h.0 k.starts k.limit h.1 done)
            (λ done. c.a_finished_walk_has_no_other_list.ensures _ _ _ _ _ w h.0 k.whole k.limit h.1 done)
            (λ s items n rest. c.a_run_yields_the_list.ensures s w h.0 items n h.1 rest),
      ),
    ))
    c.write_items.ensures.lists

-- what was written before the item that ended it is of a beginning of the walk's items
pub returns-clause-ended : goal.returns-clause-ended
returns-clause-ended g c =
    IfErr-weaker c.write_items.result _ _
    (λ stop h.
    let w = c.in-Ok-build.walk in
    let k = c.in-Ok-build.ensures in
    let b = c.from_options-builder.result in
    let plain = c.from_options-builder.ensures.plain in (
      map item_of h.0,
      h.4,
      h.6,
      inr (
        b.options,
        subst (λ (o : WalkOptions). HasRoots (map string_bytes c.args.roots.now) (with_order unset ByName) o)
            (sym c.from_options-builder.ensures.options) c.in-Ok.ensures.value,
        begun g.F.Files _ c.args.world.now.files.now _ c.args.world.now.env.now b.options _
            (λ t o s is. c.a_builder_without_closures.ensures.scenes t o s plain.0 plain.1 is) w.inner (map item_of h.0) (item_of h.1) h.4
            k.whole k.limit h.5 (λ s items n rest. c.a_run_begins_the_list.ensures s w h.2 h.0 h.1 items n h.3 rest),
      ),
    ))
    c.write_items.ensures.ended

-- without settings, or a walk, nothing is
pub returns-in_default-clause-ended : goal.returns-in_default-clause-ended
returns-in_default-clause-ended g c = (
  [],
  None,
  (appends_nothing (g.W.Output.contents c.args.out.now), appends_nothing (g.E.Write.contents c.args.err.now)),
  inl (refl, refl),
)

pub returns-in_default-build-clause-ended : goal.returns-in_default-build-clause-ended
returns-in_default-build-clause-ended g c = (
  [],
  None,
  (appends_nothing (g.W.Output.contents c.args.out.now), appends_nothing (g.E.Write.contents c.args.err.now)),
  inl (refl, refl),
)
