use Rattle.std.proofs.Common.{◌≡◌, All, length, map}
use Rattle.std.specs.BTreeMap.{IsOrdered}
use Rattle.std.specs.Io.KnownBytes.{Appends}
use Rattle.std.specs.List.{flat_map}
use Rattle.std.specs.Map.Iter.{deref_pair}
use Rattle.std.specs.Option.{option_copied}
use Rattle.std.specs.Ordering.{nat_cmp}
use Rattle.ig_commands.specs.Counts.{capped}
use Rattle.ig_commands.specs.Rules.{all_left, rule_line}
use Rattle.ig_commands.proofs.rules.FileRules.write_without.Given as goal

-- the files so far are counted and written, and the lines of each are in order
abbrev pub invariant-loop-source : goal.invariant-loop-source
invariant-loop-source g l = record {
  counts : l.count ≡ capped (length (all_left l.others.others.now (map deref_pair l.yielded)));
  writes : Appends (g.W.Output.contents l.fn.out) (g.W.Output.contents l.out)
      (flat_map (rule_line (option_copied l.others.form.base) l.others.form.null l.others.is_written) (all_left l.others.others.now (map deref_pair l.yielded)));
  ordered : All (λ e. IsOrdered nat_cmp e.1) (map deref_pair l.yielded);
}
