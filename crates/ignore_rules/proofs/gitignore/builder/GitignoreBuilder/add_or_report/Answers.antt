use Rattle.std.proofs.Common.{List, ℕ, [], ◌∷◌, ◌++◌, map, refl, sym, ap, subst, ◌∙◌, inl, inr}
use Rattle.std.specs.Arc.{arc_str_bytes}
use Rattle.std.proofs.lemmas.List.{map-append}
use Rattle.ignore_base.specs.Problem.{problem_of}
use Rattle.ignore_rules.specs.RuleFile.{at_line_of}
use Rattle.ignore_rules.specs.Rules.{AddsLineOf, Refuses, line_of_file}
use Rattle.ignore_rules.proofs.FileLemmas.{not_memory}
use Rattle.ignore_rules.proofs.gitignore.builder.GitignoreBuilder.add_or_report.Goals as goal

pub returns-in-Ok-clause-added_or_reported : goal.returns-in-Ok-clause-added_or_reported
returns-in-Ok-clause-added_or_reported c =
    inl (
      subst (λ (l : List ℕ). AddsLineOf c.args.self.now
          (line_of_file (arc_str_bytes c.args.from.now) c.args.number) l c.push_line_of.new.self) c.line_content.ensures c.in-Ok.ensures.added,
      refl,
    )

pub returns-in_ok-push-in-Err-clause-added_or_reported : goal.returns-in_ok-push-in-Err-clause-added_or_reported
returns-in_ok-push-in-Err-clause-added_or_reported c =
    let p = problem_of c.in-Err.error in
    let refuses = not_memory p (sym c.is_memory.ensures ∙ c.if-is_memory.false) c.in-Err.ensures.refused in
    inr (
      p,
      subst (λ (l : List ℕ). Refuses c.args.self.now.options l p) c.line_content.ensures refuses,
      c.in-Err.ensures.unchanged,
      ap (map problem_of) c.in_ok-push-in-Err.ensures.items
          ∙ (map-append problem_of c.args.problems.now.items (c.in_ok-error-in-Err.error ∷ [])
          ∙ ap (λ q. map problem_of c.args.problems.now.items ++ q ∷ []) (c.in_ok-error-in-Err.ensures
          ∙ ap (λ (path : List ℕ). at_line_of path c.args.number p) c.as_str.ensures.value)),
    )
