use Rattle.std.proofs.Common.{not, sym, ap, ◌∙◌}
use Rattle.ignore_walk.specs.Entry.{entry_of}
use Rattle.ignore_walk.proofs.GroundLemmas.{skipped-filtered, skipped-ignored, skipped-large}
use Rattle.ignore_walk.proofs.ground.Ground.is_skipped.Goals as goal

pub returns-then-branch : goal.returns-then-branch
returns-then-branch g c = record {
  value = λ s root b name suits chain text path sound.
      let lent = c.lent.ensures.suits s suits in
      let e = entry_of c.args.entry.now in
      let rules = c.in_ok-is_ignored.ensures.value s root b name lent.settings lent.outside chain text path in
      sym (skipped-ignored s root b name e (sym rules ∙ c.if-branch.true));
}

pub returns-then-branch-2 : goal.returns-then-branch-2
returns-then-branch-2 g c = record {
  value = λ s root b name suits chain text path sound.
      let lent = c.lent.ensures.suits s suits in
      let e = entry_of c.args.entry.now in
      let rules = c.in_ok-is_ignored.ensures.value s root b name lent.settings lent.outside chain text path in
      let size = c.in_ok-is_too_large.ensures.value s suits.honest suits.settings in
      sym (skipped-large s root b name e (sym rules ∙ c.if-branch.false) (sym size ∙ c.if-branch-2.true));
}

pub returns : goal.returns
returns g c = record {
  value = λ s root b name suits chain text path sound.
      let lent = c.lent.ensures.suits s suits in
      let e = entry_of c.args.entry.now in
      let rules = c.in_ok-is_ignored.ensures.value s root b name lent.settings lent.outside chain text path in
      let size = c.in_ok-is_too_large.ensures.value s suits.honest suits.settings in
      let kept = c.filter.ensures s.keep suits.filter sound in
      ap not kept ∙ sym (skipped-filtered s root b name e (sym rules ∙ c.if-branch.false) (sym size ∙ c.if-branch-2.false));
}
