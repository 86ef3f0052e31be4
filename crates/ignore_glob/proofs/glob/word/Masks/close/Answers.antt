use Rattle.std.proofs.Common.{rules, arith, inr}
use Rattle.ignore_glob.specs.Words.{known}
use Rattle.ignore_glob.proofs.WordClosing.{IsSpread, spread_kept, spread_sound, skipped, skip_sound, skip_kept, skip_less, skip_closed}
use Rattle.ignore_glob.proofs.glob.word.Masks.close.Goals as goal

pub loop-set-init : goal.loop-set-init
loop-set-init c =
    let m = c.args.self in
    let first = c.args.set in
    let set = c.spread-set.result in
    let is : IsSpread m first set = record { first = c.spread-set.ensures.first; next = c.spread-set.ensures.next } in
    record {
      sound = spread_sound m first first set is (λ q h. known q h);
      kept = spread_kept m first set is;
      onward = λ p h f. (is.next p).1 (inr (h, f));
    }

pub returns-then-more-set : goal.returns-then-more-set
returns-then-more-set c q = (
  c.loop-set.invariant.sound q,
  skip_closed c.args.self c.requires.starts c.args.set c.loop-set.set
      (search rules) c.loop-set.invariant.onward c.loop-set.invariant.kept q,
)

pub loop-set-smaller : goal.loop-set-smaller
loop-set-smaller c =
    skip_less c.args.self c.requires.starts c.args.set c.loop-set.set c.spread-set-in-loop-set.result
    c.spread-set-in-loop-set.ensures.greater (search rules)
    (λ e. absurd (omega (arith, e, c.if-more-set.false)))

pub loop-set-preserved : goal.loop-set-preserved
loop-set-preserved c =
    let m = c.args.self in
    let first = c.args.set in
    let before = c.loop-set.set in
    let set = c.spread-set-in-loop-set.result in
    let is : IsSpread m (skipped m before) set =
    record { first = c.spread-set-in-loop-set.ensures.first; next = c.spread-set-in-loop-set.ensures.next } in
    record {
      sound = spread_sound m first (skipped m before) set is (skip_sound m c.requires.starts first before c.loop-set.invariant.sound);
      kept = λ q h. spread_kept m (skipped m before) set is q
          (skip_kept m c.requires.starts first before q (c.loop-set.invariant.kept q h));
      onward = λ p h f. (is.next p).1 (inr (h, f));
    }
