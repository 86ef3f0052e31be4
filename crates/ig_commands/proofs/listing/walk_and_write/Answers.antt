use Rattle.std.proofs.Common.{[], List, None, Some, inl, inr, map, refl, string_bytes, subst, sym}
use Rattle.std.proofs.lemmas.Result.{err_from_is_err_and}
use Rattle.std.specs.Io.KnownBytes.{Appends}
use Rattle.std.specs.declared.alloc.Global.{Global}
use Rattle.std.specs.declared.string.String.{String}
use Rattle.ignore.specs.declared.options.WalkOptions.{WalkOptions}
use Rattle.ignore_walk.specs.Entry.{item_of}
use Rattle.commands.proofs.LineLemmas.{appends_nothing, appends_on}
use Rattle.commands.proofs.WalkLemmas.{begun, listed}
use Rattle.commands.specs.Walking.{HasRoots}
use Rattle.ig_commands.specs.Names.{names_told}
use Rattle.ig_commands.specs.Reports.{first_reports}
use Rattle.ig_commands.proofs.WalkLemmas.{unordered, yielded}
use Rattle.ig_commands.proofs.listing.walk_and_write.Goals as goal

pub returns-clause-lists : goal.returns-clause-lists
returns-clause-lists g c =
    let h = c.in_ok-walked.ensures.lists in
    let items = map item_of h.0 in
    let w = h.2 in
    let steps = c.in-Ok-build.steps in
    let k = c.in-Ok-build.ensures in
    let b = c.from_options-builder.result in
    let plain = c.from_options-builder.ensures.plain in (
      items,
      record {
        lists = w.lists;
        reports = appends_on (g.E.Write.contents c.args.err.now) (g.E.Write.contents c.write_items.new.err) (g.E.Write.contents c.end_names.new.err)
            (first_reports c.args.options.now items) _ w.reports
            (subst (λ names. Appends (g.E.Write.contents c.write_items.new.err) (g.E.Write.contents c.end_names.new.err) (names_told names)) h.3 c.in_ok-end_names.ensures.told);
        wrong = w.wrong;
        listed = w.listed;
        enough = w.enough;
      },
      (
        b.options,
        subst (λ (rs : List (String Global)). HasRoots (map string_bytes rs) c.args.walk b.options) c.deref.ensures.value
            (subst (λ (o : WalkOptions). HasRoots (map string_bytes c.deref.result.now) c.args.walk o)
            (sym c.from_options-builder.ensures.options) c.in-Ok.ensures.added),
        yielded g.F.Files _ c.args.world.now.files.now _ c.args.world.now.env.now b.options _ steps h.1.0 h.0 None
            (c.a_builder_without_closures.ensures.answers plain.0 plain.1) (unordered _ _ plain.0) k.goes_by k.limit h.1.1,
        listed g.F.Files _ c.args.world.now.files.now _ c.args.world.now.env.now b.options _
            (λ t o s is. c.a_builder_without_closures.ensures.scenes t o s plain.0 plain.1 is) steps.inner items k.whole k.limit h.2.enough
            (c.only_the_last_item_ends.ensures steps h.0 h.1 k.no_end)
            (λ done. c.a_finished_walk_is_the_headline.ensures _ _ _ _ _ steps h.0 k.starts k.limit h.1 done)
            (λ done. c.a_finished_walk_has_no_other_list.ensures _ _ _ _ _ steps h.0 k.whole k.limit h.1 done)
            (λ s xs n rest. c.a_run_yields_the_list.ensures s steps h.0 xs n h.1 rest),
      ),
    )

-- what was written before the item that ended it is of a beginning of the walk's items
pub returns-in_err-walked-clause-ended : goal.returns-in_err-walked-clause-ended
returns-in_err-walked-clause-ended g c =
    let h = c.in_err-walked.ensures.ended in
    let steps = c.in-Ok-build.steps in
    let k = c.in-Ok-build.ensures in
    let b = c.from_options-builder.result in
    let plain = c.from_options-builder.ensures.plain in
    let p = err_from_is_err_and c.from_residual.result c.from_residual.ensures.1 in
    rw (p.1, p.2) (
      map item_of h.0,
      h.4,
      inr (
        b.options,
        subst (λ (rs : List (String Global)). HasRoots (map string_bytes rs) c.args.walk b.options) c.deref.ensures.value
            (subst (λ (o : WalkOptions). HasRoots (map string_bytes c.deref.result.now) c.args.walk o)
            (sym c.from_options-builder.ensures.options) c.in-Ok.ensures.added),
        (
          Some h.1,
          yielded g.F.Files _ c.args.world.now.files.now _ c.args.world.now.env.now b.options _ steps h.2 h.0 (Some h.1)
              (c.a_builder_without_closures.ensures.answers plain.0 plain.1) (unordered _ _ plain.0) k.goes_by k.limit h.3,
        ),
        begun g.F.Files _ c.args.world.now.files.now _ c.args.world.now.env.now b.options _
            (λ t o s is. c.a_builder_without_closures.ensures.scenes t o s plain.0 plain.1 is) steps.inner (map item_of h.0) (item_of h.1) None
            k.whole k.limit tt (λ s xs n rest. c.a_run_begins_the_list.ensures s steps h.2 h.0 h.1 xs n h.3 rest),
      ),
    )

-- the names that were counted last can't be reported
pub returns-in_err-end_names-clause-ended : goal.returns-in_err-end_names-clause-ended
returns-in_err-end_names-clause-ended g c =
    let p = err_from_is_err_and c.from_residual-in_err-end_names.result c.from_residual-in_err-end_names.ensures.1 in
    rw (p.1, p.2) ([], rw c.in_err-end_names.ensures.ended tt, inl refl)

-- without settings, or a walk, nothing is written
pub returns-in_default-clause-ended : goal.returns-in_default-clause-ended
returns-in_default-clause-ended g c = (
  [],
  (appends_nothing (g.W.Output.contents c.args.out.now), appends_nothing (g.E.Write.contents c.args.err.now)),
  inl refl,
)

pub returns-in_default-build-clause-ended : goal.returns-in_default-build-clause-ended
returns-in_default-build-clause-ended g c = (
  [],
  (appends_nothing (g.W.Output.contents c.args.out.now), appends_nothing (g.E.Write.contents c.args.err.now)),
  inl refl,
)
