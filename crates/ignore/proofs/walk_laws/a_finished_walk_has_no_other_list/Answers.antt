use Rattle.std.proofs.Common.{ℕ, map, subst}
use Rattle.ignore_walk.specs.Entry.{item_of}
use Rattle.ignore_walk.specs.Runs.{IsRun}
use Rattle.ignore.proofs.HeadlineLemmas.{scene_suits, finished_run}
use Rattle.ignore.proofs.walk_laws.a_finished_walk_has_no_other_list.Goals as goal

pub returns : goal.returns
returns g c = λ f owner env b order w all by limit drains done tree honest.
    let o = by tree honest in (
      o.0,
      o.1,
      λ s items n scene whole.
          let r = o.2 s items n (scene_suits g.F.Files g.S.Callbacks f owner b order tree o.0 s honest scene) whole in
          let run = c.a_run_yields_the_list.ensures s w all items n drains r in
          finished_run (map item_of all) items b.limit n done
          (subst (λ (left : ℕ). IsRun (map item_of all) items left n) limit run),
    )
