use Rattle.std.proofs.Common.{ap, ◌==◌, ◌||◌, ◌∙◌, length, not}
use Rattle.std.specs.List.{flat_map}
use Rattle.commands.proofs.LineLemmas.{appends_on}
use Rattle.ig_commands.specs.Lint.{finding_text, option_text}
use Rattle.ig_commands.proofs.lint.write_linted.Goals as goal

pub returns-clause-writes : goal.returns-clause-writes
returns-clause-writes g c =
    let told = c.in_ok-is_told.ensures.writes in
    let o = c.args.all.now.how.options.now in
    let json = c.args.all.now.how.json in
    let path = c.args.path.now in
    let linted = c.args.linted.now in
    let a = g.W.Output.contents c.args.out.now in
    let b = g.W.Output.contents c.write_lines.new.out in
    let d = g.W.Output.contents c.write_verdicts.new.out in
    let e = g.W.Output.contents c.write_notes.new.out in (
      told.0,
      told.1,
      c.has_found.ensures ∙ ap (λ x. not (length linted.lines.items == 0) || x) told.2,
      appends_on a b e (flat_map (finding_text o json path) linted.lines.items) _ c.in_ok-write_lines.ensures.writes
          (appends_on b d e (flat_map (option_text o json path) told.0) (flat_map (finding_text o json path) linted.verdicts.notes.items) told.3 c.in_ok-write_notes.ensures.writes),
    )
