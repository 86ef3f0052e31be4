use Rattle.std.proofs.Common.{◌≡◌, ◌++◌, cond, false, is_some, List, Some, None, map, sym, ap, ◌∙◌, subst}
use Rattle.std.proofs.lemmas.List.{append-nil}
use Rattle.std.specs.BTreeMap.{get_by_text}
use Rattle.std.specs.Str.{bytes_eq}
use Rattle.ignore_base.specs.Problem.{Problem, problem_of}
use Rattle.ignore_query.specs.declared.kept.Cache.{Cache}
use Rattle.ignore_query.specs.Listed.{kept_at}
use Rattle.ignore_query.specs.Reached.{scene_of}
use Rattle.ignore_query.proofs.KeepLemmas.{AddsOne, Puts, problems_known, problems_new, put_agrees, puts_from, puts_key, right_kept}
use Rattle.ignore_query.proofs.ListLemmas.{put_shared}
use Rattle.ignore_query.proofs.NeedLemmas.{known_kept, put_kept, stays_put}
use Rattle.ignore_query.proofs.KeptLoadLemmas.{found_with, loads_put}
use Rattle.ignore_query.proofs.StandLemmas.{grows_levels}
use Rattle.ignore_query.proofs.kept.Cache.keep.Goals as goal

pub returns-in-Some-clause-problems : goal.returns-in-Some-clause-problems
returns-in-Some-clause-problems g c = λ tree loads honest are names agrees clean key next.
    let scene = scene_of c.args.call.now.asked.now tree loads in
    let old = map problem_of c.args.errors.now.items in
    let found = ap (λ t. get_by_text c.args.self.now.dirs.map t) (sym key) ∙ sym c.in-Some.ensures.value in
    sym (ap (λ (l : List Problem). old ++ l) (problems_known scene c.args.self.now names c.in-Some.kept.now found) ∙ append-nil old)

pub returns-in-Some-clause-kept : goal.returns-in-Some-clause-kept
returns-in-Some-clause-kept g c = known_kept c.args.self.now c.args.key.now c.in-Some.kept.now (sym c.in-Some.ensures.value)

-- Levels alone.

pub returns-in_err-kept-clause-grows : goal.returns-in_err-kept-clause-grows
returns-in_err-kept-clause-grows g c =
    grows_levels g.F.Files c.args.call.now.files.now c.args.call.now.asked.now c.args.self.now c.find.new.self c.find.ensures.above
    c.find.ensures.levels (λ t. ap (λ d. get_by_text d.map t) c.find.ensures.dirs)

pub returns-in_err-insert-clause-grows : goal.returns-in_err-insert-clause-grows
returns-in_err-insert-clause-grows g c =
    let after : Cache = record c.find.new.self { dirs = c.insert.new.self } in
    grows_levels g.F.Files c.args.call.now.files.now c.args.call.now.asked.now c.args.self.now after c.find.ensures.above
    c.find.ensures.levels (λ t. c.in_err-insert.ensures.unchanged t ∙ ap (λ d. get_by_text d.map t) c.find.ensures.dirs)

-- One directory more.

pub returns : goal.returns
returns g c =
    let before = c.args.self.now in
    let mid = c.find.new.self in
    let after : Cache = record mid { dirs = c.insert.new.self } in
    let k = c.in_ok-kept.kept in
    let files = c.args.call.now.files.now in
    let asked = c.args.call.now.asked.now in
    let n = c.requires.next in
    let absent = sym c.in_default.ensures.value in
    let puts : Puts before after c.args.key.now k =
    puts_from before mid after c.args.key.now k c.find.ensures.dirs
    (λ cs. c.in_ok-insert.ensures.added cs
    ∙ ap (λ t. cond (bytes_eq t cs) (Some k) (get_by_text mid.dirs.map cs)) c.in_ok-text.ensures.ok) in
    let named = subst (λ t. Puts before after t k) n.key puts in
    let stays = stays_put before after c.args.key.now k puts absent c.find.ensures.above c.find.ensures.levels in
    record {
      grows = record {
        stays = stays;
        loaded = loads_put g.F.Files files asked before after n.names c.args.place k n.clean named stays n.next
            (found_with g.F.Files files asked mid c.insert.new.self c.args.place n.names k (c.in_ok-kept.ensures.loaded n.names n.clean n.key));
        agrees = λ tree loads honest are there agrees.
            let scene = scene_of asked tree loads in
            let right = c.in_ok-kept.ensures.value tree loads honest are n.names agrees n.clean n.key n.next in
            let adds : AddsOne scene before after n.names c.args.place k = record {
              clean = n.clean;
              next = n.next;
              puts = named;
              absent = ap (λ t. get_by_text before.dirs.map t) (sym n.key) ∙ absent;
              same = c.find.ensures.above;
              keeps = c.find.ensures.levels;
              right = right_kept scene mid after n.names k (λ at level e. e) right;
              below = c.in_ok-kept.ensures.below;
            } in
            put_agrees scene before after n.names c.args.place k agrees adds (put_shared scene before after n.names c.args.place k agrees adds);
      };
      kept = put_kept before after c.args.key.now k puts;
      found = puts_key before after c.args.key.now k puts;
      problems = λ tree loads honest are names agrees clean key next.
          let none' : kept_at before names ≡ None = ap (λ t. get_by_text before.dirs.map t) (sym key) ∙ absent in
          c.in_ok-kept.ensures.problems tree loads honest are names agrees clean key next
          ∙ ap (λ (l : List Problem). map problem_of c.args.errors.now.items ++ l)
          (sym (problems_new (scene_of asked tree loads) before names none'));
      known = λ some.
          let off : is_some (get_by_text before.dirs.map c.args.key.now) ≡ false = ap (λ o. is_some o) absent in absurd (cc (some, off));
      soft = c.in_ok-kept.ensures.soft;
    }

pub insert-requires : goal.insert-requires
insert-requires g c =
    let n = c.requires.next in record { named = (n.names, n.clean, c.in_ok-text.ensures.ok ∙ n.key) }
