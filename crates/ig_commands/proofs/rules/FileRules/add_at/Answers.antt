use Rattle.std.proofs.Common.{Some, refl, subst, sym}
use Rattle.std.proofs.lemmas.Map.Text.{btree_map_updates_text}
use Rattle.std.proofs.lemmas.Result.{on_ok_weaker}
use Rattle.std.specs.Option.{IsSome}
use Rattle.ig_commands.specs.Rules.{rule_at}
use Rattle.ig_commands.proofs.RuleLemmas.{added_line, none_there}
use Rattle.ig_commands.proofs.rules.FileRules.add_at.Goals as goal

pub returns : goal.returns
returns c =
    let old = c.args.self.now.files in
    let between = c.add_file.new.self.files in
    let new = c.insert.new.file in
    let after = c.get_mut.follows.lender new in
    let found = sym c.in-Some.ensures.value in
    record {
      adds = on_ok_weaker c.insert.result
          (λ put s line.
          added_line old between after c.in-Some.file.now new c.args.source.now c.args.line c.in_ok-pattern.pattern c.args.pattern.now
          c.in_ok-add_file.ensures.same
          (none_there (rule_at c.args.self.now c.args.source.now c.args.line) c.has.result c.has.ensures c.if-has.false)
          found put c.in_ok-pattern.ensures.ok
          (λ cs. btree_map_updates_text c.args.source.now between after (Some new)
          ((c.get_mut.follows.holds new).3 (subst IsSome (sym found) refl)) cs)
          s line)
          c.insert.ensures.adds;
    }
