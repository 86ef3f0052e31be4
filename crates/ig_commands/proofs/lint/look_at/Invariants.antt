use Rattle.std.proofs.Common.{◌≡◌, ◌++◌, List, take}
use Rattle.std.specs.Io.KnownBytes.{Appends}
use Rattle.std.specs.List.{AllZip, flat_map, list_any}
use Rattle.ignore_files.specs.Gives.{IsHonest}
use Rattle.ignore_files.specs.Tree.{Tree}
use Rattle.ig_commands.specs.Lint.{IsLook, Look, has_rules, is_found, is_reported, look_report, look_text}
use Rattle.ig_commands.proofs.lint.look_at.Given as goal

-- what was found of the files so far is written and reported
abbrev pub invariant-loop-path : goal.invariant-loop-path
invariant-loop-path g l =
    (looks : List Look) × (l.seen.reported ≡ list_any is_reported looks) × (l.seen.found ≡ list_any is_found looks)
    × Appends (g.W.Output.contents l.fn.out) (g.W.Output.contents l.out) (flat_map (look_text l.all.how.options.now l.all.how.json) looks)
    × Appends (g.E.Write.contents l.fn.err) (g.E.Write.contents l.err) (flat_map look_report looks)
    × (l.seen.has_rules ≡ list_any has_rules looks)
    × ((tree : Tree) → IsHonest g.F.Files l.all.world.now.files.now tree
    → AllZip (IsLook tree l.all.how.options.now (l.all.sources.now.outside.items ++ l.all.sources.now.below.items) l.all.may_note) (take l.path-index l.paths) looks)
