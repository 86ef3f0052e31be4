use Rattle.std.proofs.Common.{false, IfOk, Result, ap, subst}
use Rattle.ignore_base.specs.Problem.{Problem}
use Rattle.ignore_dir.specs.declared.settings.Settings.{Settings}
use Rattle.ignore_walk.specs.Child.{or_failed}
use Rattle.ignore_walk.specs.Entry.{Entry}
use Rattle.ignore_walk.specs.Found.{IsFound}
use Rattle.ignore_walk.specs.Whole.{root_of}
use Rattle.ignore_walk.proofs.RootLemmas.{root_entry-is}
use Rattle.ignore_walk.proofs.ground.Ground.root_entry.Goals as goal

pub returns-clause-value : goal.returns-clause-value
returns-clause-value g c = λ s suits is_dir.
    let root = c.args.root.now in
    let found = or_failed root 0 (root_of s root) (s.tree.stat root false) in
    subst (λ (r : Result Entry Problem). IfOk c.on_device.result (λ found. IsFound s (λ e. c.args.is_dir) found r))
    (root_entry-is s root c.args.is_dir is_dir)
    (c.on_device.ensures.value s found suits.honest suits.device
    (c.in_ok-item.ensures.value s suits.honest (ap (λ (x : Settings). x.follow_links) suits.settings)))

pub returns-clause-no_end : goal.returns-clause-no_end
returns-clause-no_end g c = c.on_device.ensures.no_end c.in_ok-item.ensures.no_end
