use Rattle.std.proofs.Common.{◌≡◌, length, map}
use Rattle.std.specs.Io.KnownBytes.{Appends}
use Rattle.std.specs.List.{flat_map}
use Rattle.std.specs.Map.Iter.{deref_pair}
use Rattle.std.specs.Option.{option_copied}
use Rattle.ig_commands.specs.Counts.{capped}
use Rattle.ig_commands.specs.Rules.{left_of, rule_line}
use Rattle.ig_commands.proofs.rules.write_file.Given as goal

-- the lines so far are counted and written
abbrev pub invariant-loop-line : goal.invariant-loop-line
invariant-loop-line g l = record {
  counts : l.count ≡ capped (length (left_of l.without.others.now l.source (map deref_pair l.yielded)));
  writes : Appends (g.W.Output.contents l.fn.out) (g.W.Output.contents l.out)
      (flat_map (rule_line (option_copied l.without.form.base) l.without.form.null l.without.is_written) (left_of l.without.others.now l.source (map deref_pair l.yielded)));
}
