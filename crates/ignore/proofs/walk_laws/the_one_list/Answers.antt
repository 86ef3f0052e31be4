use Rattle.std.proofs.Common.{[]}
use Rattle.ignore_walk.proofs.VisitLemmas.{chosen_ordered}
use Rattle.ignore.specs.Closures.{chosen_order}
use Rattle.ignore.proofs.walk_laws.the_one_list.Goals as goal

pub returns : goal.returns
returns g c = λ f owner env b order tree o s all honest outside scene headline.
    let w = headline tree honest o outside s scene in
    record {
      outside = o;
      read = outside;
      scene = s;
      is = scene;
      steps = w.0;
      given = w.2;
      within = w.1;
      only = λ h items n other whole.
          let l = headline tree honest o outside h other in
          (c.one_list.ensures.roots h [] b.roots items all n l.0
          (chosen_ordered (chosen_order b order) (g.S.Callbacks.compares owner) h.order other.sorted) whole l.2).0;
    }
