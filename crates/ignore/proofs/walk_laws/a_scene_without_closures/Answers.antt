use Rattle.std.proofs.Common.{true, refl}
use Rattle.std.proofs.lemmas.Cmp.{nat_list_cmp_total}
use Rattle.std.proofs.lemmas.List.MinMax.{ranks_by}
use Rattle.std.specs.Cmp.Lexicographic.{slice_cmp}
use Rattle.std.specs.Ordering.{nat_cmp}
use Rattle.ignore_walk.specs.Suits.{order_by}
use Rattle.ignore.proofs.walk_laws.a_scene_without_closures.Goals as goal

pub returns : goal.returns
returns g c = λ tree outside plain none.
    let b = c.args.builder.now in
    let l = c.one_load.ensures.some tree b.options.settings in (
      record {
        tree = tree;
        loads = l.0;
        settings = b.options.settings;
        outside = outside;
        same_file_system = b.options.same_file_system;
        keep = λ _. true;
        order = order_by b.options.order (slice_cmp nat_cmp);
      },
      record {
        tree = refl;
        loads = l.1;
        settings = refl;
        outside = refl;
        device = refl;
        filter = rw none (λ e. refl);
        sorted = rw plain (slice_cmp nat_cmp, λ a b. refl, ranks_by nat_list_cmp_total (λ name. name), refl);
      },
    )
