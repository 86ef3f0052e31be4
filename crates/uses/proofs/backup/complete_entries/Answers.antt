use Rattle.std.proofs.Common.{Ok, Some, map, subst, sym}
use Rattle.std.proofs.lemmas.Result.{IfOk-weaker}
use Rattle.ignore.specs.WalkWords.{item_of}
use Rattle.uses.proofs.StoredLemmas.{holds, list_of}
use Rattle.uses.proofs.backup.complete_entries.Goals as goal

pub returns-clause-complete : goal.returns-clause-complete
returns-clause-complete g c =
    IfOk-weaker c.entries_of.result _ _
    (λ entries all tree honest.
    list_of _ (record { builder = Some c.args.builder }) c.args.env.now c.args.builder.now.options _ tree
    (map item_of c.in_ok-collect_walk.field-0.items) (map (λ e. item_of (Ok e)) entries.items) all
    (c.in_ok-collect_walk.ensures.headline tree honest))
    c.entries_of.ensures.all

pub returns-clause-agreed : goal.returns-clause-agreed
returns-clause-agreed g c = λ tree ms honest asked.
    IfOk-weaker c.entries_of.result _ _
    (λ entries all.
    holds _ (record { builder = Some c.args.builder }) c.args.env.now c.args.builder.now.options _ tree ms
    (map item_of c.in_ok-collect_walk.field-0.items) (map (λ e. item_of (Ok e)) entries.items) all
    (c.in_ok-collect_walk.ensures.only tree honest)
    (λ o s e items n outside scene open_ whole.
    c.walk_agrees_with_matchers.ensures.whole (record { builder = Some c.args.builder }) c.args.env.now c.args.builder.now.options _ tree o s ms e
    items n outside scene open_ asked whole))
    c.entries_of.ensures.all
