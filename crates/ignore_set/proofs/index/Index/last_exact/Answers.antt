use Rattle.std.proofs.Common.{max, arith, subst, sym, ap, ◌∙◌}
use Rattle.std.specs.Str.{chars}
use Rattle.ignore_set.proofs.IndexLemmas.{Stands, exact_above, stands_max, whole_stands, name_stands, end_stands}
use Rattle.ignore_set.proofs.index.Index.last_exact.Goals as goal

pub returns : goal.returns
returns c = λ ms is.
    let index = c.args.self.now in
    let text = c.args.text.now in
    let is_dir = c.args.is_dir in
    let w = c.under_whole-whole.result in
    let n = c.under_ends-name.result in
    let e = c.under_ends-end.result in
    let utf8 = c.utf8.text in
    let first = stands_max (chars text) is_dir ms w n (whole_stands index.whole text is_dir ms w utf8 is.whole c.under_whole-whole.ensures.found)
    (name_stands index.names text is_dir ms n utf8 is.names c.under_ends-name.ensures.found) in
    let all = stands_max (chars text) is_dir ms (max w n) e first
    (end_stands index.ends text is_dir ms e utf8 is.ends c.under_ends-end.ensures.found) in
    record {
      above = exact_above index text is_dir ms n e c.max-2.result utf8 is
          c.under_ends-name.ensures.greatest c.under_ends-end.ensures.greatest
          (λ marked. omega (arith, c.max.ensures, c.max-2.ensures, c.under_whole-whole.ensures.greatest marked))
          (omega (arith, c.max.ensures, c.max-2.ensures)) (omega (arith, c.max.ensures, c.max-2.ensures));
      last = subst (λ k. Stands (chars text) is_dir ms k)
          (sym (c.max-2.ensures ∙ ap (λ k. max k e) c.max.ensures)) all;
    }
