use Rattle.std.proofs.Common.{◌≤◌, ℕ, subst}
use Rattle.ignore.proofs.HeadlineLemmas.{scene_suits}
use Rattle.ignore.proofs.OutsideOnly.{scene_by}
use Rattle.ignore.proofs.walk_laws.a_finished_walk_is_the_headline.Goals as goal

pub returns : goal.returns
returns g c = λ f owner env b order w all by limit drains done tree honest outside read s scene.
    let o = by tree honest in
    let by_read = scene_by g.S.Callbacks owner env b order tree outside o.0 s read o.1 scene in
    let starts = o.2 s (scene_suits g.F.Files g.S.Callbacks f owner b order tree o.0 s honest by_read) in
    let l = c.a_finished_run_is_a_list.ensures s b.roots w all drains starts done in
    (l.0, subst (λ (left : ℕ). l.0 ≤ left) limit l.1, l.2)
