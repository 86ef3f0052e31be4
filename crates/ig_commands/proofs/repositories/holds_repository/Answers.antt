use Rattle.std.proofs.Common.{◌≡◌, ◌∙◌, ◌+◌, ◌-◌, [], ◌∷◌, List, true, false, arith, rules, subst, sym}
use Rattle.ignore_base.specs.Text.{Path}
use Rattle.ig_commands.specs.Repositories.{OneShows, most_folders}
use Rattle.ig_commands.proofs.RepositoryLemmas.{none_show, one_found, one_less, one_too_many}
use Rattle.ig_commands.proofs.repositories.holds_repository.Goals as goal

-- the folder itself is looked into first
pub loop-dir-init : goal.loop-dir-init
loop-dir-init g c = λ tree held honest h.
    let items : c.push_back.new.self.items ≡ c.args.path.now ∷ [] = search rules in
    subst (λ (dirs : List Path). OneShows tree dirs most_folders held) items h

-- one folder is looked into, which shows none
pub loop-dir-preserved : goal.loop-dir-preserved
loop-dir-preserved g c = λ tree held honest h.
    let l = c.loop-dir in
    let left : l.left ≡ (l.left - 1) + 1 = omega (arith, c.if-left-eq0.false) in
    l.invariant tree held honest
    (one_less tree c.in-Some.dir c.as_str.result.now c.pop_front.new.self.items l.waiting.items c.look_into.new.waiting.items l.left
    (l.left - 1) held c.in-Some.ensures.items c.as_str.ensures left
    (sym (c.in_ok-look_into.ensures.shows tree honest) ∙ c.if-branch.false)
    (c.in_ok-look_into.ensures.adds tree honest c.if-branch.false) h)

-- none waits
pub returns : goal.returns
returns g c =
    let l = c.loop-dir in
    let items : l.waiting.items ≡ [] = search rules in
    record {
      held = λ tree honest. l.invariant tree false honest
          (subst (λ (dirs : List Path). OneShows tree dirs l.left false) (sym items) (none_show tree l.left));
    }

-- one shows a repository
pub returns-then-branch : goal.returns-then-branch
returns-then-branch g c =
    let l = c.loop-dir in
    record {
      held = λ tree honest. l.invariant tree true honest
          (one_found tree c.in-Some.dir c.as_str.result.now c.pop_front.new.self.items l.waiting.items l.left c.in-Some.ensures.items
          c.as_str.ensures (sym (c.in_ok-look_into.ensures.shows tree honest) ∙ c.if-branch.true));
    }

-- there are more than are looked into
pub returns-then-left-eq0 : goal.returns-then-left-eq0
returns-then-left-eq0 g c =
    let l = c.loop-dir in
    record {
      held = λ tree honest. l.invariant tree true honest
          (one_too_many tree c.in-Some.dir c.pop_front.new.self.items l.waiting.items l.left true c.in-Some.ensures.items
          c.if-left-eq0.true);
    }
