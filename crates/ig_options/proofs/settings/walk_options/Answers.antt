use Rattle.std.proofs.Common.{◌∙◌, [], ap, if◌then◌else◌}
use Rattle.ig_options.specs.Settings.{is_unruled, with_files, with_filters, with_limits, with_names}
use Rattle.ig_options.proofs.settings.walk_options.Goals as goal

pub returns-clause-value : goal.returns-clause-value
returns-clause-value c =
    let o = c.args.options.now in
    c.in_ok-set_names.ensures.added ∙ ap (with_names (if is_unruled o then [] else o.ignore_names))
    (c.set_limits.ensures ∙ ap (with_limits o) (c.set_files.ensures ∙ ap (with_files o)
    (c.set_filters.ensures ∙ ap (with_filters o) c.empty-walk.ensures)))
