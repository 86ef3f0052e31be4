use Rattle.std.proofs.Common.{◌≡◌, ◌∷◌, true, List, reverse, Option, None, Some, map, option_map, refl, string_bytes, sym, subst, ap, ◌∙◌}
use Rattle.ignore_dir.specs.Above.{dirs_above, names_above, paths_above}
use Rattle.ignore_dir.specs.AboveBy.{IsAboveBy}
use Rattle.ignore_dir.specs.Chains.{placed_along, slashed}
use Rattle.ignore_dir.specs.Load.{AreLoads}
use Rattle.ignore_dir.specs.LoadsBy.{reads_of, stats_of}
use Rattle.ignore_files.specs.Gives.{IsHonest}
use Rattle.ignore_query.specs.declared.kept.Cache.{Cache}
use Rattle.ignore_query.specs.declared.kept.Kept.TheVariants.{Loaded}
use Rattle.ignore_dir.specs.Lists.{Placed}
use Rattle.ignore_levels.specs.Levels.{IsChain, IsRising, counting}
use Rattle.ignore_query.specs.Reached.{scene_of}
use Rattle.ignore_query.proofs.KeptLoadLemmas.{along-rising}
use Rattle.ignore_query.proofs.ListLemmas.{above-rising, first_agrees, placed_above}
use Rattle.ignore_query.proofs.StandLemmas.{grows_levels}
use Rattle.std.specs.Option.{option_to_list}
use Rattle.ignore_base.specs.Problem.{Problem, problem_of}
use Rattle.ignore_dir.specs.Soft.{AllSoft, IsSoft}
use Rattle.ignore_dir.proofs.SoftLemmas.{joined_all-soft, more_soft}
use Rattle.ignore_query.proofs.kept.Cache.keep_above.Goals as goal

pub returns-in_err-self-clause-grows : goal.returns-in_err-self-clause-grows
returns-in_err-self-clause-grows g c =
    grows_levels g.F.Files c.args.call.now.files.now c.args.call.now.asked.now c.args.self.now
    (record c.args.self.now { levels = c.add_all.new.self }) (refl, (refl, refl)) c.in_err-self.ensures.levels (λ key. refl)

soft_from : (p : Option Problem) → AllSoft (option_to_list p) → IsSoft p
soft_from None h = tt
soft_from (Some p) h = h.0

pub returns-clause-soft : goal.returns-clause-soft
returns-clause-soft g c = λ soft.
    let found = map (option_map problem_of) c.in_ok-found.found.errors.items in
    let one = subst IsSoft (sym c.in_ok-joined_some.ensures) (soft_from _ (joined_all-soft found c.in_ok-found.ensures.soft)) in
    subst AllSoft (sym c.in_ok-push_some.ensures.added) (more_soft (map problem_of c.args.errors.now.items)
    (option_map problem_of c.in_ok-joined_some.field-0) soft one)

pub returns-clause-grows : goal.returns-clause-grows
returns-clause-grows g c =
    let files = c.args.call.now.files.now in
    let asked = c.args.call.now.asked.now in
    let found = c.in_ok-found.found in
    let dirs = found.dirs.items in
    let base = string_bytes found.base in
    let reported = map (option_map problem_of) found.errors.items in
    let loads : IsAboveBy g.F.Files files asked.settings (string_bytes asked.root) dirs base reported =
    subst (λ r. IsAboveBy g.F.Files files asked.settings r dirs base reported) c.as_str.ensures.value
    (subst (λ s. IsAboveBy g.F.Files files s c.as_str.result.now dirs base reported) c.ground.ensures.settings
    (subst (λ f. IsAboveBy g.F.Files f c.ground.result.settings.now c.as_str.result.now dirs base reported) c.ground.ensures.files
    c.in_ok-found.ensures.answered)) in
    record {
      stays = record {
        above = λ on. let off = c.if-self.false in absurd (cc (on, off));
        dirs = λ names k h. h;
        levels = c.in_ok-self.ensures.levels;
      };
      loaded = record {
        above = λ off on. record {
          dirs = dirs;
          reported = reported;
          loads = loads;
          stands = c.in_ok-self.ensures.chain
              (along-rising (stats_of g.F.Files files) (reads_of g.F.Files files) asked.settings loads.0 dirs base reported loads.2);
        };
        dirs = λ names place clean none now. let is : None ≡ Some (Loaded place) = sym none ∙ now in absurd (cc (is));
      };
      agrees = λ tree loads honest are there agrees.
          let scene = scene_of c.args.call.now.asked.now tree loads in
          let found = c.in_ok-found.found in
          let set = c.ground.ensures.settings in
          let honest' = subst (λ f. IsHonest g.F.Files f tree) (sym c.ground.ensures.files) honest in
          let are' = subst (λ s. AreLoads tree s loads) (sym set) are in
          let root = c.as_str.ensures.value in
          let dirs : found.dirs.items ≡ placed_above scene = c.in_ok-found.ensures.dirs tree loads honest' are'
          ∙ (ap (λ s. placed_along 1 (dirs_above loads s (paths_above tree s c.as_str.result.now)) (names_above tree s c.as_str.result.now)) set
          ∙ ap (λ r. placed_along 1 (dirs_above loads scene.settings (paths_above tree scene.settings r)) (names_above tree scene.settings r)) root) in
          let base = c.in_ok-found.ensures.base tree honest'
          ∙ (ap (λ s. 47 ∷ slashed (names_above tree s c.as_str.result.now)) set ∙ ap (λ r. 47 ∷ slashed (names_above tree scene.settings r)) root) in
          let after : Cache = record {
            has_above = true;
            above = c.in_ok-self.field-0;
            base = found.base;
            levels = c.add_all.new.self;
            dirs = c.args.self.now.dirs;
          } in
          first_agrees scene c.args.self.now after agrees c.if-self.false refl there
          (subst (λ (l : List Placed). IsChain c.add_all.new.self.slots.items c.in_ok-self.field-0 (counting (reverse l))) dirs
          (c.in_ok-self.ensures.chain (subst (IsRising 0) (sym dirs) (above-rising scene))))
          base refl;
    }
