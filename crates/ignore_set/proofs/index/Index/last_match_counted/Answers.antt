use Rattle.std.proofs.Common.{List, ℕ, map, subst, sym, IfOk}
use Rattle.std.specs.Str.{IsCharBoundary, chars}
use Rattle.std.proofs.lemmas.Str.{IsCharBoundary-start}
use Rattle.ignore_set.specs.Sets.{IsLastMatch}
use Rattle.ignore_set.proofs.index.Index.last_match_counted.Goals as goal

pub returns-clause-value : goal.returns-clause-value
returns-clause-value g c =
    let ms = map g.M.HasPattern.member c.args.members.now in
    subst (λ (l : List ℕ). IfOk c.last_counted_after.result (λ r. IsLastMatch (chars l) c.args.is_dir ms r.0)) c.new.ensures
    (c.last_counted_after.ensures.value (subst (λ (l : List ℕ). IsCharBoundary l 0) (sym c.new.ensures)
    (IsCharBoundary-start c.args.text.now c.utf8.text)))
