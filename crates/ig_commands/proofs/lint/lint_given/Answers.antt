use Rattle.std.proofs.Common.{◌≡◌, ◌++◌, List, ap, false, subst, ◌∙◌}
use Rattle.std.proofs.lemmas.List.{append-nil}
use Rattle.std.specs.List.{AllZip, list_any}
use Rattle.ignore_base.specs.Text.{Path}
use Rattle.ig_commands.specs.Lint.{IsLook, given_paths, is_reported, lint_status}
use Rattle.ig_commands.proofs.lint.lint_given.Goals as goal

pub returns-clause-lints : goal.returns-clause-lints
returns-clause-lints g c =
    let h = c.in_ok-seen.ensures.lints in
    let seen = c.in_ok-seen.seen in (
      h.0,
      record {
        writes = h.3;
        ends =
            c.status_by.ensures
            ∙ (ap (λ r. lint_status r seen.found) h.1 ∙ ap (λ f. lint_status (list_any is_reported h.0) f) h.2);
      },
      h.4,
      λ tree honest.
          let o = c.args.how.options.now in
          let sources = c.in-Ok.sources in
          let all : sources.outside.items ++ sources.below.items ≡ given_paths o =
          ap (λ (ps : List Path). sources.outside.items ++ ps) c.in-Ok.ensures.alone ∙ (append-nil sources.outside.items ∙ c.in-Ok.ensures.given) in
          subst (λ (ps : List Path). AllZip (IsLook tree o (given_paths o) false) ps h.0) (c.as_slice-paths.ensures.value ∙ c.in-Ok.ensures.given)
          (subst (λ (fs : List Path). AllZip (IsLook tree o fs false) c.as_slice-paths.result.now h.0) all (h.6 tree honest)),
    )
