use Rattle.std.proofs.Common.{◌∙◌, ap, sym, subst}
use Rattle.ignore.specs.WalkWords.{AreLoads, IsYielded, answer_at, keeps}
use Rattle.uses.proofs.StoredLemmas.{about_is, test_is}
use Rattle.uses.proofs.backup.is_stored.Goals as goal

pub returns-clause-stored : goal.returns-clause-stored
returns-clause-stored g c = λ s e items honest are open_ in_ agreed about.
    let m = c.args.matcher.now in
    let loads = subst (λ t. AreLoads s.tree t s.loads) (sym in_.settings) are in
    let asked = c.in_ok-answer.ensures.value s.tree s.loads honest loads agreed in
    test_is c.keeps.result (keeps (answer_at s m about.place e)) (IsYielded items e)
    (c.keeps.ensures ∙ ap keeps (asked ∙ about_is s m c.args.path.now c.args.is_dir e items about))
    (c.walk_agrees_with_matchers.ensures.entry s m about.place e items about.steps open_ in_ about.reached about.given)
