use Rattle.std.proofs.Common.{◌≡◌, ◌++◌, List, Option, is_some, take}
use Rattle.std.specs.Io.KnownBytes.{Appends}
use Rattle.std.specs.List.{AllZip, flat_map, list_any}
use Rattle.ig_every.specs.declared.diagnostic.Diagnostic.{Diagnostic}
use Rattle.ig_commands.specs.Lint.{IsTold, option_text}
use Rattle.ig_commands.proofs.lint.write_rules.Given as goal

-- what is told of the rules so far is written
abbrev pub invariant-loop-judged : goal.invariant-loop-judged
invariant-loop-judged g l =
    (told : List (Option Diagnostic)) × AllZip (IsTold (l.all.sources.now.outside.items ++ l.all.sources.now.below.items) l.path) (take l.judged-index l.rules) told × (l.any ≡ list_any is_some told)
    × Appends (g.W.Output.contents l.fn.out) (g.W.Output.contents l.out) (flat_map (option_text l.all.how.options.now l.all.how.json l.path) told)
