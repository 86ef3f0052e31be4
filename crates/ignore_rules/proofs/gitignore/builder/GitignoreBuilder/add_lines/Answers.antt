use Rattle.std.proofs.Common.{◌+◌, List, [], ◌∷◌, ◌++◌, map, sym, ap, subst, ◌∙◌, arith, rules}
use Rattle.std.proofs.lemmas.List.{map-append}
use Rattle.ignore_base.specs.Problem.{Problem, problem_of}
use Rattle.ignore_rules.specs.RuleFile.{AddsLines, lines_read}
use Rattle.ignore_rules.proofs.FileLemmas.{one_more, stopped_here, done_here, keeps_then}
use Rattle.ignore_rules.proofs.gitignore.builder.GitignoreBuilder.add_lines.Goals as goal

pub loop-text-preserved : goal.loop-text-preserved
loop-text-preserved c =
    let line = c.in-Text.ensures in
    record {
      within = line.2;
      counted = omega (arith, line.1);
      leads =
          one_more c.args.path.now _ c.args.self.now
          (c.loop-text.number + 1) c.in-Text.text.now _ _ c.loop-text.self _ _ _ c.loop-text.invariant.leads line.0
          (rw c.in_ok-from.ensures.ok at c.in_ok-add_or_report-in-Text.ensures.added_or_reported);
      kept = keeps_then c.args.self.now c.loop-text.self c.add_or_report.new.self c.loop-text.invariant.kept c.add_or_report.ensures.kept;
    }

pub returns-in-Fault-clause-added : goal.returns-in-Fault-clause-added
returns-in-Fault-clause-added c =
    let before = map problem_of c.loop-text.problems.items in
    let stop = c.in-Fault.ensures in
    let error = c.in_ok-error-in-Fault.ensures in
    let problems = ap (map problem_of) c.in_ok-push-in-Fault.ensures.items
    ∙ map-append problem_of c.loop-text.problems.items (c.in_ok-error-in-Fault.error ∷ []) in
    let adds = stopped_here c.args.path.now _ c.args.self.now
    (c.loop-text.number + 1) c.in-Fault.fault _ stop.0 c.loop-text.self before c.loop-text.invariant.leads stop.1 in
    subst (λ (l : List Problem). AddsLines c.args.path.now 1 (lines_read c.args.bytes.now c.args.fault) c.args.self.now c.loop-text.self l)
    (sym (problems ∙ ap (λ p. before ++ p ∷ []) (search (rules, error)))) adds

pub returns-in-End-clause-added : goal.returns-in-End-clause-added
returns-in-End-clause-added c =
    done_here c.args.path.now _ c.args.self.now (c.loop-text.number + 1) _ c.loop-text.self
    (map problem_of c.loop-text.problems.items) c.loop-text.invariant.leads c.in-End.ensures
