use Rattle.std.proofs.Common.{◌++◌, ◌||◌, Bool, List, ap, false, nat_lt, not, sym, ◌∙◌, subst}
use Rattle.std.proofs.lemmas.Grind.{flat_map-append}
use Rattle.std.proofs.lemmas.List.Folds.{list_any-append}
use Rattle.std.specs.Io.KnownBytes.{Appends}
use Rattle.std.specs.List.{AllZip, flat_map, list_any}
use Rattle.commands.proofs.LineLemmas.{appends_on}
use Rattle.ignore_base.specs.Text.{Path}
use Rattle.ig_commands.specs.Lint.{IsLook, is_found, is_reported, lint_status, look_report, look_text}
use Rattle.ig_commands.proofs.lint.lint_all.Goals as goal

pub returns-clause-lints : goal.returns-clause-lints
returns-clause-lints g c =
    let f = c.in_ok-first.ensures.lints in
    let r = c.in_ok-rest.ensures.lints in
    let o = c.args.how.options.now in
    let json = c.args.how.json in
    let any = nat_lt 0 c.args.sources.now.reported in
    let a = g.E.Write.contents c.args.err.now in
    let b = g.E.Write.contents c.look_at.new.err in
    let d = g.E.Write.contents c.look_at-2.new.err in
    let reported = c.and-seen.ensures.reported ∙ (ap (λ b. b || c.in_ok-rest.rest.reported) f.1
    ∙ (ap (λ b. list_any is_reported f.0 || b) r.1 ∙ sym (list_any-append is_reported f.0 r.0))) in
    let found = c.and-seen.ensures.found ∙ (ap (λ b. b || c.in_ok-rest.rest.found) f.2
    ∙ (ap (λ b. list_any is_found f.0 || b) r.2 ∙ sym (list_any-append is_found f.0 r.0))) in
    let files = c.args.sources.now.outside.items ++ c.args.sources.now.below.items in (
      f.0,
      r.0,
      record {
        ends =
            c.status_by.ensures
            ∙ (ap (λ x. lint_status (x || c.and-seen.result.reported) c.and-seen.result.found) c.is_any.ensures
            ∙ ap (λ b. lint_status (any || b) c.and-seen.result.found) reported ∙ ap (λ b. lint_status (any || list_any is_reported (f.0 ++ r.0)) b) found);
        writes =
            subst (Appends (g.W.Output.contents c.args.out.now) (g.W.Output.contents c.look_at-2.new.out)) (sym (flat_map-append (look_text o json) f.0 r.0))
            (appends_on (g.W.Output.contents c.args.out.now) (g.W.Output.contents c.look_at.new.out) (g.W.Output.contents c.look_at-2.new.out) (flat_map (look_text o json) f.0)
            (flat_map (look_text o json) r.0) f.3 r.3);
      },
      subst (Appends a d) (sym (flat_map-append look_report f.0 r.0))
          (appends_on a b d (flat_map look_report f.0) (flat_map look_report r.0) f.4 r.4),
      λ tree honest. record {
        elsewhere = subst (λ (ps : List Path). AllZip (IsLook tree o files false) ps f.0) c.as_slice-above.ensures.value (f.6 tree honest);
        met =
            subst (λ (b : Bool). AllZip (IsLook tree o files (not b)) c.args.sources.now.below.items r.0) f.5
            (subst (λ (ps : List Path). AllZip (IsLook tree o files (not c.in_ok-first.first.has_rules)) ps r.0) c.as_slice-met.ensures.value (r.6 tree honest));
      },
    )
