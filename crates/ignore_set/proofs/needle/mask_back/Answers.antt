use Rattle.std.proofs.Common.{◌≡◌, ◌+◌, ◌-◌, drop, ap, sym, ◌∙◌, arith}
use Rattle.std.specs.Prelude.{bit_or}
use Rattle.std.proofs.lemmas.List.{take_rest}
use Rattle.std.proofs.lemmas.Nat.{or_comm}
use Rattle.ignore_set.specs.Others.{first_bit, mask_of}
use Rattle.ignore_set.proofs.MaskLemmas.{mask_step}
use Rattle.ignore_set.proofs.needle.mask_back.Goals as goal

pub loop-at-preserved : goal.loop-at-preserved
loop-at-preserved c =
    let bytes = c.as_bytes-bytes.result.now in
    let at = c.loop-at.at - 1 in
    let next : c.loop-at.at ≡ at + 1 = omega arith in
    let bit = c.first_bit-mask.ensures ∙ ap first_bit (take_rest bytes at) in
    let mask = c.loop-at.invariant.mask ∙ ap (λ k. mask_of (drop k bytes)) next in
    record {
      mask = or_comm c.loop-at.mask c.first_bit-mask.result
          ∙ (ap (λ b. bit_or b c.loop-at.mask) bit ∙ (ap (λ m. bit_or (first_bit (drop at bytes)) m) mask
          ∙ sym (mask_step bytes at (omega arith))));
      least = omega (arith, c.loop-at-test.true);
    }

pub returns : goal.returns
returns c =
    let down : c.loop-at.at ≡ c.args.from = omega (arith, c.loop-at-test.false, c.loop-at.invariant.least) in
    c.loop-at.invariant.mask ∙ (ap (λ k. mask_of (drop k c.as_bytes-bytes.result.now)) down
    ∙ ap (λ l. mask_of (drop c.args.from l)) c.as_bytes-bytes.ensures.value)
