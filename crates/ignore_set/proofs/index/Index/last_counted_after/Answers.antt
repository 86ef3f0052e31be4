use Rattle.std.proofs.Common.{ℕ, ◌<◌, List, drop, map, IfSome, ap, sym, subst, ◌∙◌}
use Rattle.std.specs.Str.{chars}
use Rattle.std.proofs.lemmas.List.{length-map}
use Rattle.ignore_set.specs.Others.{AreCandidates, IndexedText, IsMaskOver}
use Rattle.ignore_set.specs.Sets.{IsLastMatch}
use Rattle.ignore_set.proofs.IndexLemmas.{last_found, last_within}
use Rattle.ignore_set.proofs.ScanLemmas.{candidates_of}
use Rattle.ignore_set.proofs.index.Index.last_counted_after.Goals as goal

pub last_left-requires-clause-candidates : goal.last_left-requires-clause-candidates
last_left-requires-clause-candidates g c =
    let ms = map g.M.HasPattern.member c.args.members.now in
    let text = c.range_from-text.result.now in
    let under = c.under-listed.result.now in
    let p = c.needles_before_end-needles.ensures in
    subst (λ (l : List IndexedText). AreCandidates text l under ms) (sym p.1)
    (candidates_of text c.args.self.now.others.items c.args.self.now.parents ms p.0 under c.range_from-text.utf8 c.requires.others p.2
    c.under-listed.ensures.all c.under-listed.ensures.one)

pub last_left-requires-clause-over : goal.last_left-requires-clause-over
last_left-requires-clause-over g c = λ some.
    subst (λ (l : List ℕ). IsMaskOver l c.mask_for.result)
    (sym (c.range_from-text.ensures.value ∙ ap (λ l. drop c.args.offset l) c.text-whole.ensures)) (c.mask_for.ensures.over some)

pub returns-clause-value : goal.returns-clause-value
returns-clause-value g c = λ at.
    let ms = map g.M.HasPattern.member c.args.members.now in
    let text = c.range_from-text.result.now in
    let is_dir = c.args.is_dir in
    let last = c.checked_sub.result in
    subst (λ (l : List ℕ). IsLastMatch (chars l) is_dir ms last)
    (c.range_from-text.ensures.value ∙ ap (λ l. drop c.args.offset l) c.text-whole.ensures)
    (last_found text is_dir ms c.last_exact-exact.result c.in_ok-after.after last c.checked_sub.ensures
    (c.last_exact-exact.ensures ms c.requires) c.in_ok-after.ensures.value)

pub returns-clause-within : goal.returns-clause-within
returns-clause-within g c =
    let member = g.M.HasPattern.member in
    let ms = map member c.args.members.now in
    let text = c.range_from-text.result.now in
    let is_dir = c.args.is_dir in
    let last = c.checked_sub.result in
    subst (λ k. IfSome last (λ i. i < k)) (length-map c.args.members.now member)
    (last_within (chars text) is_dir ms last
    (last_found text is_dir ms c.last_exact-exact.result c.in_ok-after.after last c.checked_sub.ensures
    (c.last_exact-exact.ensures ms c.requires) c.in_ok-after.ensures.value))
