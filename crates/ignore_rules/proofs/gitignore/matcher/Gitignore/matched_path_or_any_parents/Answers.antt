use Rattle.std.proofs.Common.{sym, ap, ◌∙◌}
use Rattle.std.proofs.lemmas.Bool.{eqb-true}
use Rattle.std.specs.Str.{chars}
use Rattle.ignore_base.specs.Paths.{strip_of}
use Rattle.ignore_rules.proofs.ParentLemmas.{nearest-nil, no_first_slash}
use Rattle.ignore_rules.proofs.gitignore.matcher.Gitignore.matched_path_or_any_parents.Goals as goal

pub returns-then-is_empty-clause-answered : goal.returns-then-is_empty-clause-answered
returns-then-is_empty-clause-answered c =
    nearest-nil c.args.self.now.rules (chars (strip_of c.args.self.now.root c.args.path.now)) c.args.is_dir
    (eqb-true _ 0 (sym c.is_empty.ensures ∙ c.if-is_empty.true))

pub nearest_answer-requires : goal.nearest_answer-requires
nearest_answer-requires c = λ e.
    let stripped = c.strip-path.ensures ∙ ap (λ root. strip_of root c.args.path.now) c.path.ensures in
    no_first_slash c.args.self.now c.args.path.now c.strip-path.result.now stripped c.requires
    (sym c.is_empty.ensures ∙ c.if-is_empty.false) e
