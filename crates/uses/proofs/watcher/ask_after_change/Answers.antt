use Rattle.std.proofs.Common.{◌≡◌, IfOk, string_bytes, subst}
use Rattle.ignore.specs.WalkWords.{Agrees, AreLoads, Asked, is_asked, names_of, query, scene_of}
use Rattle.uses.proofs.WatchLemmas.{same_kept, stays_outside}
use Rattle.uses.proofs.watcher.ask_after_change.Goals as goal

pub returns-clause-value : goal.returns-clause-value
returns-clause-value g c = λ before after loads later honest are agreed changed.
    let old = c.args.matcher.now in
    let kept = c.forget.new.self.cache in
    let same = same_kept (scene_of old.asked before loads) (scene_of old.asked after later) old.cache kept c.args.dir.now changed
    (λ names clean. c.forget.ensures.forgotten names clean changed.asked) in
    let P : Asked → Type 0 = λ a. AreLoads after a.settings later → Agrees (scene_of a after later) kept
    → IfOk c.matched_with_errors.result (λ r. r.0 ≡ (query (scene_of a after later) c.args.path.now c.args.is_dir).0) in
    subst P c.forget.ensures.same (λ l h. c.matched_with_errors.ensures.value after later honest l h) are
    (c.forget.ensures.agrees before after loads later agreed same)

pub returns-clause-agrees : goal.returns-clause-agrees
returns-clause-agrees g c = λ before after loads later honest are agreed changed.
    let old = c.args.matcher.now in
    let kept = c.forget.new.self.cache in
    let same = same_kept (scene_of old.asked before loads) (scene_of old.asked after later) old.cache kept c.args.dir.now changed
    (λ names clean. c.forget.ensures.forgotten names clean changed.asked) in
    let P : Asked → Type 0 = λ a. AreLoads after a.settings later → Agrees (scene_of a after later) kept
    → Agrees (scene_of a after later) c.matched_with_errors.new.self.cache in
    subst P c.forget.ensures.same (λ l h. c.matched_with_errors.ensures.leaves.agrees after later honest l h) are
    (c.forget.ensures.agrees before after loads later agreed same)

pub returns-clause-stays : goal.returns-clause-stays
returns-clause-stays g c = λ names k clean out kept.
    let old = c.args.matcher.now in
    let dir = c.args.dir.now in
    c.matched_with_errors.ensures.leaves.stays.dirs names k
    (stays_outside (is_asked (string_bytes old.asked.root) dir) old.cache c.forget.new.self.cache (names_of dir) names k
    (λ asked. c.forget.ensures.forgotten names clean asked) c.forget.ensures.unchanged out kept)
