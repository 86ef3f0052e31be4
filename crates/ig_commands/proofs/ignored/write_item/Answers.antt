use Rattle.std.proofs.Common.{◌≡◌, Bool, IfOk, Result, subst, sym}
use Rattle.std.specs.Io.KnownBytes.{Appends}
use Rattle.ignore_base.specs.declared.error.Error.{Error}
use Rattle.ignore_files.specs.Gives.{IsHonest}
use Rattle.ignore_files.specs.Tree.{Tree}
use Rattle.ignore_survey.specs.declared.surveyed.Surveyed.{Surveyed}
use Rattle.ig_commands.specs.Ignored.{IsJudged, is_found, written}
use Rattle.ig_commands.specs.Surveys.{seen_of}
use Rattle.ig_commands.proofs.ignored.write_item.Goals as goal

pub returns-in-Ok-clause-writes : goal.returns-in-Ok-clause-writes
returns-in-Ok-clause-writes g c =
    let place = c.args.place.now in
    let o = place.options.now in
    let root = place.root.now in
    subst
    (λ (i : Result Surveyed Error). IfOk c.write_entry.result (λ seen. (left_out : Bool)
    × Appends (g.W.Output.contents c.args.out.now) (g.W.Output.contents c.write_entry.new.out) (written o root (seen_of i, left_out))
    × (seen.found ≡ is_found o (seen_of i, left_out))
    × ((tree : Tree) → IsHonest g.G.Files place.bare.now tree → IsJudged tree o root (seen_of i, left_out))))
    (sym c.in-Ok.is) c.write_entry.ensures.writes
