use Rattle.std.proofs.Common.{◌∙◌, ◌+◌, ap, drop, sym}
use Rattle.ig_options.specs.Settings.{with_names}
use Rattle.ig_options.proofs.LoopLemmas.{here, names_done, names_more}
use Rattle.ig_options.proofs.settings.push_names.Goals as goal

pub loop-name-init : goal.loop-name-init
loop-name-init c = ap (λ ns. with_names ns c.args.walk.now) c.as_slice-name-items.ensures

pub loop-name-preserved : goal.loop-name-preserved
loop-name-preserved c =
    let at = here c.as_slice-name-items.result.now c.loop-name.name-index c.name-item.result c.as_str.result.now c.loop-name-test.true c.name-item.is
    c.as_str.ensures in
    ap (with_names (drop (c.loop-name.name-index + 1) c.as_slice-name-items.result.now)) c.in_ok-push_custom_ignore_filename.ensures.added
    ∙ (sym (names_more c.as_slice-name-items.result.now c.loop-name.name-index c.as_str.result.now c.loop-name.walk at) ∙ c.loop-name.invariant)

pub returns-clause-added : goal.returns-clause-added
returns-clause-added c =
    let l = c.loop-name in
    sym (names_done c.as_slice-name-items.result.now l.name-index l.walk c.loop-name-test.false) ∙ l.invariant
