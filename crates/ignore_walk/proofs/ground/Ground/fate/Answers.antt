use Rattle.std.proofs.Common.{◌≡◌, true, false, not, ◌||◌, sym, ◌∙◌}
use Rattle.ignore_dir.specs.Limits.{is_deepest}
use Rattle.ignore_walk.specs.Entry.{entry_of}
use Rattle.ignore_walk.specs.Walked.{leads_in}
use Rattle.ignore_walk.proofs.GroundLemmas.{differ-foreign, fate-enter, fate-load, fate-yield, inner-leads, leaf-is}
use Rattle.ignore_walk.proofs.ground.Ground.fate.Goals as goal

pub returns-then-is_leaf : goal.returns-then-is_leaf
returns-then-is_leaf g c = record {
  value = λ s root b suits device known leads kept.
      let e = entry_of c.args.found.now.entry in
      fate-yield s root b e kept
      (leaf-is s b e c.args.self.now.settings c.args.leads_in c.depth.result c.is_leaf.result true suits.settings leads c.depth.ensures c.is_leaf.ensures c.if-is_leaf.true);
}

pub returns-then-differ : goal.returns-then-differ
returns-then-differ g c = record {
  value = λ s root b suits device known leads kept.
      let e = entry_of c.args.found.now.entry in
      let inner : not (leads_in s b e) || is_deepest s.settings.max_depth e.depth ≡ false =
      leaf-is s b e c.args.self.now.settings c.args.leads_in c.depth.result c.is_leaf.result false suits.settings leads c.depth.ensures c.is_leaf.ensures c.if-is_leaf.false in
      let into = leads ∙ inner-leads (leads_in s b e) (is_deepest s.settings.max_depth e.depth) inner in
      fate-load s root b e kept inner
      (sym (differ-foreign s root e c.args.device c.args.found.now.device (device into) (known into)) ∙ (sym c.differ.ensures ∙ c.if-differ.true));
}

pub returns : goal.returns
returns g c = record {
  value = λ s root b suits device known leads kept.
      let e = entry_of c.args.found.now.entry in
      let inner : not (leads_in s b e) || is_deepest s.settings.max_depth e.depth ≡ false =
      leaf-is s b e c.args.self.now.settings c.args.leads_in c.depth.result c.is_leaf.result false suits.settings leads c.depth.ensures c.is_leaf.ensures c.if-is_leaf.false in
      let into = leads ∙ inner-leads (leads_in s b e) (is_deepest s.settings.max_depth e.depth) inner in
      fate-enter s root b e kept inner
      (sym (differ-foreign s root e c.args.device c.args.found.now.device (device into) (known into)) ∙ (sym c.differ.ensures ∙ c.if-differ.false));
}
