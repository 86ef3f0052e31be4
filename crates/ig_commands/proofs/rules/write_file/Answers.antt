use Rattle.std.proofs.Common.{◌≡◌, ◌∙◌, ◌++◌, ℕ, Bool, cond, ◌∷◌, [], List, length, map, string_bytes, sym, ap, subst, rules}
use Rattle.std.proofs.lemmas.List.{map-append}
use Rattle.std.specs.Io.KnownBytes.{Appends}
use Rattle.std.specs.List.{flat_map}
use Rattle.std.specs.Map.Iter.{deref_pair}
use Rattle.std.specs.Option.{option_copied}
use Rattle.ig_commands.specs.Counts.{capped, one_more}
use Rattle.ig_commands.specs.Rules.{file_rule, is_free, left_of, rule_line}
use Rattle.ig_commands.specs.Unused.{FileRule}
use Rattle.ig_commands.proofs.FieldLemmas.{count_kept, written_kept}
use Rattle.ig_commands.proofs.RuleLemmas.{left_push}
use Rattle.ig_commands.proofs.rules.write_file.Goals as goal

pub loop-line-preserved : goal.loop-line-preserved
loop-line-preserved g c =
    let l = c.loop-line in
    let w = c.args.without in
    let others = w.others.now in
    let source = c.args.source.now in
    let es = map deref_pair l.yielded in
    let e = deref_pair (c.in-Some.line, c.in-Some.pattern) in
    let f = rule_line (option_copied w.form.base) w.form.null w.is_written in
    let r = file_rule source e.0 (string_bytes e.1) in
    let here = c.in_ok-is_left.ensures.writes in
    let text : c.as_str.result.now ≡ string_bytes e.1 = c.as_str.ensures.value in
    let n : c.saturating_add-count.result ≡ one_more l.count c.in_ok-is_left.is_left = search rules in
    let a = g.W.Output.contents c.args.out.now in
    let m = g.W.Output.contents l.out in
    let z = g.W.Output.contents c.write_left.new.out in
    let is_left = c.in_ok-is_left.is_left in
    let free : is_left ≡ is_free others r =
    subst (λ (t : List ℕ). is_left ≡ is_free others (file_rule source e.0 t)) text here.0 in
    let wrote : Appends m z (cond is_left (f r) []) =
    subst (λ (t : List ℕ). Appends m z (cond is_left (f (file_rule source e.0 t)) [])) text here.1 in
    let all : left_of others source (map deref_pair (l.yielded ++ (c.in-Some.line, c.in-Some.pattern) ∷ []))
    ≡ left_of others source es ++ cond is_left (r ∷ []) [] =
    ap (left_of others source) (map-append deref_pair l.yielded ((c.in-Some.line, c.in-Some.pattern) ∷ []))
    ∙ (left_push others source es e ∙ ap (λ (b : Bool). left_of others source es ++ cond b (r ∷ []) []) (sym free)) in
    record {
      counts = count_kept (left_of others source es) r is_left l.count c.saturating_add-count.result l.invariant.counts n
          ∙ ap (λ (rs : List FileRule). capped (length rs)) (sym all);
      writes = subst (λ (rs : List FileRule). Appends a z (flat_map f rs)) (sym all)
          (written_kept f (left_of others source es) r is_left a m z l.invariant.writes wrote);
    }
