use Rattle.std.proofs.Common.{refl}
use Rattle.ignore_walk.specs.Suits.{order_by}
use Rattle.ignore.specs.Closures.{chosen_order, order_of}
use Rattle.ignore.proofs.SceneLemmas.{compares_by, filters_by}
use Rattle.ignore.proofs.walk_laws.a_scene_with_closures.Goals as goal

pub returns : goal.returns
returns g c = λ tree outside keep cmp weak compares filters.
    let b = c.args.builder.now in
    let l = c.one_load.ensures.some tree b.options.settings in (
      record {
        tree = tree;
        loads = l.0;
        settings = b.options.settings;
        outside = outside;
        same_file_system = b.options.same_file_system;
        keep = keep;
        order = order_by (chosen_order b.options (order_of (λ s. s.order) b.sorter)) cmp;
      },
      record {
        tree = refl;
        loads = l.1;
        settings = refl;
        outside = refl;
        device = refl;
        filter = filters_by b.filter _ keep filters;
        sorted = (cmp, compares_by b.sorter _ cmp compares, weak, refl);
      },
      refl,
      refl,
    )
