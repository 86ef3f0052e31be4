use Rattle.std.proofs.Common.{◌≡◌, ℕ, List, IfOk, subst, sym}
use Rattle.std.specs.Str.{IsCharBoundary, chars}
use Rattle.std.proofs.lemmas.Str.{IsCharBoundary-start}
use Rattle.ignore_base.specs.Match.{match_map}
use Rattle.ignore_rules.specs.Answer.{list_answer}
use Rattle.ignore_rules.specs.Kept.{kept_rules}
use Rattle.ignore_rules.specs.Rules.{Ruleset}
use Rattle.ignore_rules.proofs.gitignore.matcher.Gitignore.answer.Goals as goal

pub returns-clause-answered : goal.returns-clause-answered
returns-clause-answered c =
    let at = subst (λ (l : List ℕ). IsCharBoundary l 0) (sym c.new.ensures) (IsCharBoundary-start c.args.stripped.now c.utf8.stripped) in
    let kept = subst (λ (l : List ℕ). IfOk c.answer.result (λ m. match_map (λ g. g.now) m
    ≡ list_answer (kept_rules c.self.inside.kept).rules (chars l) c.args.is_dir)) c.new.ensures (c.answer.ensures.answered at) in
    subst (λ (r : Ruleset). IfOk c.answer.result (λ m. match_map (λ g. g.now) m ≡ list_answer r.rules (chars c.args.stripped.now) c.args.is_dir))
    c.self.view_is kept
