use Rattle.std.proofs.Common.{◌≡◌, ◌∙◌, ◌+◌, ◌++◌, ◌∷◌, [], ℕ, List, length, map, string_bytes, sym, ap, subst, rules}
use Rattle.std.proofs.lemmas.List.{map-append}
use Rattle.std.proofs.lemmas.List.Elements.{All-push}
use Rattle.std.proofs.lemmas.Map.Iter.{iter_end}
use Rattle.std.specs.BTreeMap.{IsOrdered}
use Rattle.std.specs.Io.KnownBytes.{Appends}
use Rattle.std.specs.List.{flat_map}
use Rattle.std.specs.Map.Iter.{deref_pair}
use Rattle.std.specs.Option.{option_copied}
use Rattle.std.specs.Ordering.{nat_cmp}
use Rattle.ig_commands.specs.Counts.{capped}
use Rattle.ig_commands.specs.Rules.{all_left, left_of, rule_line}
use Rattle.ig_commands.specs.Unused.{FileRule}
use Rattle.ig_commands.proofs.FieldLemmas.{count_joined, written_joined}
use Rattle.ig_commands.proofs.OrderLemmas.{without}
use Rattle.ig_commands.proofs.RuleLemmas.{all_push}
use Rattle.ig_commands.proofs.rules.FileRules.write_without.Goals as goal

pub loop-source-preserved : goal.loop-source-preserved
loop-source-preserved g c =
    let l = c.loop-source in
    let others = c.args.others.now in
    let es = map deref_pair l.yielded in
    let e = deref_pair (c.in-Some.source, c.in-Some.file) in
    let f = rule_line (option_copied c.args.form.base) c.args.form.null c.args.is_written in
    let here = c.in_ok-more.ensures.writes in
    let text : c.as_str.result.now ≡ string_bytes e.0 = c.as_str.ensures.value in
    let n : c.saturating_add-count.result ≡ capped (l.count + c.in_ok-more.more) = search rules in
    let a = g.W.Output.contents c.args.out.now in
    let m = g.W.Output.contents l.out in
    let z = g.W.Output.contents c.write_file.new.out in
    let rest = left_of others (string_bytes e.0) e.1.entries in
    let more : c.in_ok-more.more ≡ capped (length rest) =
    subst (λ (t : List ℕ). c.in_ok-more.more ≡ capped (length (left_of others t e.1.entries))) text here.0 in
    let wrote : Appends m z (flat_map f rest) =
    subst (λ (t : List ℕ). Appends m z (flat_map f (left_of others t e.1.entries))) text here.1 in
    let push = map-append deref_pair l.yielded ((c.in-Some.source, c.in-Some.file) ∷ []) in
    let all : all_left others (map deref_pair (l.yielded ++ (c.in-Some.source, c.in-Some.file) ∷ [])) ≡ all_left others es ++ rest =
    ap (all_left others) push ∙ all_push others es e in
    record {
      counts = count_joined (all_left others es) rest l.count c.in_ok-more.more c.saturating_add-count.result l.invariant.counts more n
          ∙ ap (λ (rs : List FileRule). capped (length rs)) (sym all);
      writes = subst (λ (rs : List FileRule). Appends a z (flat_map f rs)) (sym all)
          (written_joined f (all_left others es) rest a m z l.invariant.writes wrote);
      ordered = rw push (All-push (λ p. IsOrdered nat_cmp p.1) es e l.invariant.ordered c.write_file.ensures.ordered);
    }

pub returns-clause-writes : goal.returns-clause-writes
returns-clause-writes g c =
    let l = c.loop-source in
    let rules_there = c.args.self.now in
    let others = c.args.others.now in
    let entries = rules_there.files.entries in
    let f = rule_line (option_copied c.args.form.base) c.args.form.null c.args.is_written in
    let whole : map deref_pair l.yielded ≡ entries = search (rules, iter_end) in (
      all_left others entries,
      without rules_there others c.into_iter-source-iterator.ensures.into_iter_gives.5 (rw whole at l.invariant.ordered),
      l.invariant.counts ∙ ap (λ es. capped (length (all_left others es))) whole,
      rw whole at l.invariant.writes,
    )
