use Rattle.std.proofs.Common.{◌≡◌, ◌≢◌, ◌∷◌, ◌++◌, [], List, ℕ, arith, subst, sym}
use Rattle.std.proofs.lemmas.Bool.Decides.{when_false, when_true}
use Rattle.ig_options.specs.QuoteSteps.{Closes}
use Rattle.ig_options.proofs.QuoteLemmas.{closes_all, closes_more, closes_none, closes_only}
use Rattle.ig_options.proofs.quotes.closed.Goals as goal

pub loop-byte-preserved : goal.loop-byte-preserved
loop-byte-preserved c =
    let text = c.args.text.now in
    let l = c.loop-byte in
    let byte = c.in-Some.byte in
    let after = c.in-Some.after.now in
    let first = c.in-Some.ensures in
    let items = sym c.in_ok-push.ensures.items in
    record {
      so = λ tail closes. subst (λ (bs : List ℕ). Closes text (bs ++ tail)) items
          (closes_more text l.rest.now l.bytes.items byte after l.invariant.so first tail closes);
      only = λ all closes. subst (λ (bs : List ℕ). (tail : List ℕ) × (all ≡ bs ++ tail) × Closes after tail) items
          (closes_only text l.rest.now l.bytes.items byte after l.invariant.only first all closes);
    }

pub loop-byte-smaller : goal.loop-byte-smaller
loop-byte-smaller c = omega (arith, c.in-Some.ensures.shorter)

pub returns-then-is_quote : goal.returns-then-is_quote
returns-then-is_quote c =
    let l = c.loop-byte in
    closes_all c.args.text.now l.rest.now l.bytes.items l.invariant.so
    (when_true (l.rest.now ≡ 34 ∷ []) (l.rest.now ≢ 34 ∷ []) c.if-is_quote.true c.is_quote.ensures)

pub returns : goal.returns
returns c =
    let l = c.loop-byte in
    closes_none c.args.text.now l.rest.now l.bytes.items l.invariant.only c.in_default.ensures
    (when_false (l.rest.now ≡ 34 ∷ []) (l.rest.now ≢ 34 ∷ []) c.if-is_quote.false c.is_quote.ensures)
