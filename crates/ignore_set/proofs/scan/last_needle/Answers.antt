use Rattle.std.proofs.Common.{◌≡◌, ◌+◌, ◌-◌, ◌<◌, map, slice_get, Some, take, ap, sym, subst, ◌∙◌, arith}
use Rattle.std.proofs.lemmas.Bool.{false≢true}
use Rattle.std.proofs.lemmas.Option.{slice_get-get_or, slice_get_within}
use Rattle.ignore_set.proofs.ScanLemmas.{IsScanned, IsTriedWith, few_more, scan_skip, scan_miss, scan_found, scan_early, scan_end, taken}
use Rattle.ignore_set.proofs.ScanLemmas.{under_take}
use Rattle.ignore_set.proofs.scan.last_needle.Goals as goal

pub loop-j-preserved-then-not-may_be_in : goal.loop-j-preserved-then-not-may_be_in
loop-j-preserved-then-not-may_be_in g c =
    let ms = map g.M.HasPattern.member c.args.members.now in
    let text = c.args.text.now in
    let others = c.args.left.now.needles.now in
    let under = c.args.left.now.under.now in
    let n = c.index-others-j.result in
    let j = c.loop-j.j - 1 in
    let next : c.loop-j.j ≡ j + 1 = omega arith in
    let here = slice_get-get_or others j n (omega arith) ∙ ap Some (sym c.index-others-j.is) in
    let scanned = subst (λ k. IsScanned text c.args.is_dir ms others under k c.loop-j.tried c.loop-j.rest c.loop-j.passes) next
    c.loop-j.invariant.scanned in
    let over = c.requires.over (let fits = slice_get_within others j n here in omega (arith, fits)) in
    record {
      scanned = scan_skip text c.args.is_dir ms others under j c.loop-j.tried c.loop-j.rest c.loop-j.passes n here
          (λ m h has a. false≢true (sym c.if-not-may_be_in.true ∙ c.may_be_in.ensures text over has)) scanned;
      least = omega (arith, c.loop-j-test.true);
    }

pub returns-then-i-best-clause-value : goal.returns-then-i-best-clause-value
returns-then-i-best-clause-value g c =
    let ms = map g.M.HasPattern.member c.args.members.now in
    let text = c.args.text.now in
    let others = c.args.left.now.needles.now in
    let under = c.args.left.now.under.now in
    let n = c.index-others-j.result in
    let j = c.loop-j.j - 1 in
    let next : c.loop-j.j ≡ j + 1 = omega arith in
    let here = slice_get-get_or others j n (omega arith) ∙ ap Some (sym c.index-others-j.is) in
    let scanned = subst (λ k. IsScanned text c.args.is_dir ms others under k c.loop-j.tried c.loop-j.rest c.loop-j.passes) next
    c.loop-j.invariant.scanned in
    scan_early text c.args.is_dir ms others under j c.loop-j.tried c.loop-j.rest c.loop-j.passes c.args.best n
    c.requires.candidates.needles here (omega (arith, c.index-i.ensures, c.if-i-best.true)) scanned

pub returns-then-i-best-clause-count : goal.returns-then-i-best-clause-count
returns-then-i-best-clause-count g c = (c.loop-j.tried, c.loop-j.invariant.scanned.few, λ none. c.loop-j.invariant.scanned.below)

pub loop-j-preserved-then-i-tried : goal.loop-j-preserved-then-i-tried
loop-j-preserved-then-i-tried g c =
    let ms = map g.M.HasPattern.member c.args.members.now in
    let text = c.args.text.now in
    let others = c.args.left.now.needles.now in
    let under = c.args.left.now.under.now in
    let n = c.index-others-j.result in
    let j = c.loop-j.j - 1 in
    let next : c.loop-j.j ≡ j + 1 = omega arith in
    let here = slice_get-get_or others j n (omega arith) ∙ ap Some (sym c.index-others-j.is) in
    let scanned = subst (λ k. IsScanned text c.args.is_dir ms others under k c.loop-j.tried c.loop-j.rest c.loop-j.passes) next
    c.loop-j.invariant.scanned in
    let same : n.index ≡ c.loop-j.tried = omega (arith, c.index-i.ensures, c.if-i-tried.true) in
    record {
      scanned = scan_skip text c.args.is_dir ms others under j c.loop-j.tried c.loop-j.rest c.loop-j.passes n here
          (λ m h has a. scanned.failed m (ap (λ k. slice_get ms k) (sym same) ∙ h) a) scanned;
      least = omega (arith, c.loop-j-test.true);
    }

pub loop-j-preserved-then-not-is_in : goal.loop-j-preserved-then-not-is_in
loop-j-preserved-then-not-is_in g c =
    let ms = map g.M.HasPattern.member c.args.members.now in
    let text = c.args.text.now in
    let others = c.args.left.now.needles.now in
    let under = c.args.left.now.under.now in
    let n = c.index-others-j.result in
    let j = c.loop-j.j - 1 in
    let next : c.loop-j.j ≡ j + 1 = omega arith in
    let here = slice_get-get_or others j n (omega arith) ∙ ap Some (sym c.index-others-j.is) in
    let scanned = subst (λ k. IsScanned text c.args.is_dir ms others under k c.loop-j.tried c.loop-j.rest c.loop-j.passes) next
    c.loop-j.invariant.scanned in
    record {
      scanned = scan_skip text c.args.is_dir ms others under j c.loop-j.tried c.loop-j.rest c.loop-j.passes n here
          (λ m h has a. false≢true (sym c.if-not-is_in.true ∙ c.is_in.ensures.1 has)) scanned;
      least = omega (arith, c.loop-j-test.true);
    }

pub last_with-requires-clause-under : goal.last_with-requires-clause-under
last_with-requires-clause-under g c =
    under_take c.args.left.now.under.now (map g.M.HasPattern.member c.args.members.now) c.loop-j.rest c.requires.candidates.under

pub last_with-requires-clause-here : goal.last_with-requires-clause-here
last_with-requires-clause-here g c =
    let ms = map g.M.HasPattern.member c.args.members.now in
    let others = c.args.left.now.needles.now in
    let n = c.index-others-j.result in
    let j = c.loop-j.j - 1 in
    let here = slice_get-get_or others j n (omega arith) ∙ ap Some (sym c.index-others-j.is) in
    let f = c.requires.candidates.needles.formless j n here in
    (f.0, ap (λ k. slice_get ms k) c.index-i.ensures ∙ f.1, f.2)

pub last_with-requires-clause-apart : goal.last_with-requires-clause-apart
last_with-requires-clause-apart g c = λ k got.
    let others = c.args.left.now.needles.now in
    let under = c.args.left.now.under.now in
    let n = c.index-others-j.result in
    let j = c.loop-j.j - 1 in
    let here = slice_get-get_or others j n (omega arith) ∙ ap Some (sym c.index-others-j.is) in
    c.requires.candidates.apart j k n here
    (subst (λ i. slice_get under k ≡ Some i) c.index-i.ensures (taken under c.loop-j.rest k c.index-i.result got).1)

pub returns-then-found-gt0-clause-value : goal.returns-then-found-gt0-clause-value
returns-then-found-gt0-clause-value g c =
    let ms = map g.M.HasPattern.member c.args.members.now in
    let text = c.args.text.now in
    let others = c.args.left.now.needles.now in
    let under = c.args.left.now.under.now in
    let n = c.index-others-j.result in
    let j = c.loop-j.j - 1 in
    let rest = c.loop-j.rest in
    let found = c.in_ok-found.found in
    let next : c.loop-j.j ≡ j + 1 = omega arith in
    let here = slice_get-get_or others j n (omega arith) ∙ ap Some (sym c.index-others-j.is) in
    let scanned = subst (λ k. IsScanned text c.args.is_dir ms others under k c.loop-j.tried rest c.loop-j.passes) next
    c.loop-j.invariant.scanned in
    let tries = subst (λ i. IsTriedWith text c.args.is_dir ms (take rest under) i found.after found.left found.passes) c.index-i.ensures
    (record { value = c.in_ok-found.ensures.value; own = c.in_ok-found.ensures.own; count = c.in_ok-found.ensures.count }) in
    scan_found text c.args.is_dir ms others under j c.loop-j.tried rest c.loop-j.passes found.after found.left found.passes c.args.best n
    c.requires.candidates.needles here c.if-found-gt0.true (omega (arith, c.if-i-best.false, c.index-i.ensures)) tries scanned

pub returns-then-found-gt0-clause-count : goal.returns-then-found-gt0-clause-count
returns-then-found-gt0-clause-count g c =
    let ms = map g.M.HasPattern.member c.args.members.now in
    let text = c.args.text.now in
    let others = c.args.left.now.needles.now in
    let under = c.args.left.now.under.now in
    let n = c.index-others-j.result in
    let j = c.loop-j.j - 1 in
    let rest = c.loop-j.rest in
    let found = c.in_ok-found.found in
    let next : c.loop-j.j ≡ j + 1 = omega arith in
    let here = slice_get-get_or others j n (omega arith) ∙ ap Some (sym c.index-others-j.is) in
    let scanned = subst (λ k. IsScanned text c.args.is_dir ms others under k c.loop-j.tried rest c.loop-j.passes) next
    c.loop-j.invariant.scanned in
    let tries = subst (λ i. IsTriedWith text c.args.is_dir ms (take rest under) i found.after found.left found.passes) c.index-i.ensures
    (record { value = c.in_ok-found.ensures.value; own = c.in_ok-found.ensures.own; count = c.in_ok-found.ensures.count }) in
    let less : n.index < c.loop-j.tried =
    omega (arith, scanned.early j n (omega arith) here, c.if-i-tried.false, c.index-i.ensures) in (
      n.index,
      few_more text c.args.is_dir ms others under j c.loop-j.tried rest c.loop-j.passes found.after found.left found.passes n.index
          c.saturating_add-passes.result less (omega (arith, c.saturating_add-passes.ensures)) tries scanned,
      λ none. absurd (omega (arith, c.if-found-gt0.true, none)),
    )

pub loop-j-preserved : goal.loop-j-preserved
loop-j-preserved g c =
    let ms = map g.M.HasPattern.member c.args.members.now in
    let text = c.args.text.now in
    let others = c.args.left.now.needles.now in
    let under = c.args.left.now.under.now in
    let n = c.index-others-j.result in
    let j = c.loop-j.j - 1 in
    let rest = c.loop-j.rest in
    let found = c.in_ok-found.found in
    let next : c.loop-j.j ≡ j + 1 = omega arith in
    let here = slice_get-get_or others j n (omega arith) ∙ ap Some (sym c.index-others-j.is) in
    let scanned = subst (λ k. IsScanned text c.args.is_dir ms others under k c.loop-j.tried rest c.loop-j.passes) next
    c.loop-j.invariant.scanned in
    let none : found.after ≡ 0 = omega (arith, c.if-found-gt0.false) in
    let tries = subst (λ i. IsTriedWith text c.args.is_dir ms (take rest under) i 0 found.left found.passes) c.index-i.ensures
    (subst (λ a. IsTriedWith text c.args.is_dir ms (take rest under) c.index-i.result a found.left found.passes) none
    (record { value = c.in_ok-found.ensures.value; own = c.in_ok-found.ensures.own; count = c.in_ok-found.ensures.count })) in
    let less : n.index < c.loop-j.tried =
    omega (arith, scanned.early j n (omega arith) here, c.if-i-tried.false, c.index-i.ensures) in
    record {
      scanned = subst (λ i. IsScanned text c.args.is_dir ms others under j i found.left c.saturating_add-passes.result) (sym c.index-i.ensures)
          (scan_miss text c.args.is_dir ms others under j c.loop-j.tried rest c.loop-j.passes found.left found.passes
          c.saturating_add-passes.result n c.requires.candidates.needles here less (omega (arith, c.saturating_add-passes.ensures)) tries scanned);
      least = omega (arith, c.loop-j-test.true);
    }

pub returns-clause-value : goal.returns-clause-value
returns-clause-value g c =
    let ms = map g.M.HasPattern.member c.args.members.now in
    scan_end c.args.text.now c.args.is_dir ms c.args.left.now.needles.now c.args.left.now.under.now c.loop-j.j c.first_from-from.result
    c.loop-j.tried c.loop-j.rest c.loop-j.passes c.args.best (omega (arith, c.loop-j-test.false)) c.first_from-from.ensures.below
    c.loop-j.invariant.scanned

pub returns-clause-count : goal.returns-clause-count
returns-clause-count g c = (c.loop-j.tried, c.loop-j.invariant.scanned.few, λ none. c.loop-j.invariant.scanned.below)

pub first_from-from-requires : goal.first_from-from-requires
first_from-from-requires g c = c.requires.candidates.needles.rising
