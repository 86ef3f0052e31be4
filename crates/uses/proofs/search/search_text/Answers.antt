use Rattle.std.proofs.Common.{◌∙◌, ◌+◌, ap, sym, ◌++◌, ◌∷◌, []}
use Rattle.std.proofs.lemmas.Iterator.Splits.{YieldsList-from_lines}
use Rattle.std.proofs.lemmas.Iterator.Consumers.{YieldsList-at, YieldsList-from_enumerate, YieldsList-end}
use Rattle.std.proofs.lemmas.List.{append-nil}
use Rattle.uses.specs.Searched.{hits_among}
use Rattle.uses.proofs.HitLemmas.{more}
use Rattle.uses.proofs.search.search_text.Goals as goal

pub loop-index-init : goal.loop-index-init
loop-index-init c = sym (append-nil c.args.hits.now.items)

pub loop-index-preserved-in_ok-push : goal.loop-index-preserved-in_ok-push
loop-index-preserved-in_ok-push c =
    let word = c.args.word.now in
    let path = c.args.path.now in
    let old = c.args.hits.now.items in
    c.in_ok-push.ensures.items
    ∙ (ap (λ p. c.loop-index.hits.items ++ record { path = p; line = c.in-Some.index + 1 } ∷ []) (c.new-path.ensures ∙ c.in_ok-from_str.ensures.ok)
    ∙ (ap (λ hs. hs ++ record { path = path; line = c.in-Some.index + 1 } ∷ []) c.loop-index.invariant
    ∙ sym (more word path old c.loop-index.yielded (c.in-Some.index, c.in-Some.line) _ (sym c.if-has_word.true ∙ c.has_word.ensures.value))))

pub loop-index-preserved : goal.loop-index-preserved
loop-index-preserved c =
    let word = c.args.word.now in
    let path = c.args.path.now in
    let old = c.args.hits.now.items in
    c.loop-index.invariant
    ∙ (sym (append-nil _)
    ∙ sym (more word path old c.loop-index.yielded (c.in-Some.index, c.in-Some.line) _ (sym c.if-has_word.false ∙ c.has_word.ensures.value)))

pub returns : goal.returns
returns c =
    let chain = YieldsList-at c.into_iter-index-iterator.ensures.into_iter_gives (YieldsList-from_enumerate
    (YieldsList-at c.enumerate-index-items.ensures.source (YieldsList-from_lines c.args.text.now c.lines.ensures.rest))
    c.enumerate-index-items.ensures.count) in
    let t = YieldsList-end chain c.loop-index.yielded _ c.loop-index.yielded_by _ _ c.in-None.is c.next.ensures.steps in
    c.loop-index.invariant ∙ ap (λ ls. c.args.hits.now.items ++ hits_among c.args.word.now c.args.path.now ls) t.0
