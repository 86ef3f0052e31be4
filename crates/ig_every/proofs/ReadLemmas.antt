-- Bytes that stand for a file.
use Rattle.std.proofs.Common.{Option, Result, Ok, Err, IfOk, option_map, subst}
use Rattle.std.proofs.lemmas.Result.{IfOk-weaker}
use Rattle.ignore_base.specs.Problem.{Problem, problem_of}
use Rattle.ignore_base.specs.Text.{Bytes, Path}
use Rattle.ignore_base.specs.declared.error.Error.{Error}
use Rattle.ignore_files.specs.declared.types.Contents.{Contents}
use Rattle.ignore_files.specs.declared.types.Refusal.{Refusal}
use Rattle.ignore_rules.specs.RuleFile.{AddsAnswer, AddsContents}
use Rattle.ignore_rules.specs.Rules.{Ruleset}
use Rattle.ig_every.specs.Reading.{IsInput, IsRead, IsReadBy, begun_by, input_file}
use Rattle.ig_every.specs.declared.reading.HowRead.{HowRead}
use Rattle.ig_every.specs.declared.reading.RulesRead.{RulesRead}

-- what a call for these bytes returned is what a file of them has
pub is_read : (how : HowRead) (path : Path) (bytes : Bytes) (answer : Result Contents Refusal) (rules : Ruleset) (problem : Option Problem)
    → IsInput bytes answer → IsReadBy how path answer rules problem → IsRead how path (input_file bytes) rules problem
is_read how path bytes (Ok contents) rules problem is r =
    record {
      builder = r.builder;
      added = subst (λ (c : Contents). AddsContents path (Ok c) (begun_by how) r.builder problem) is r.added;
      value = r.value;
    }
is_read how path bytes (Err refusal) rules problem is r =
    absurd (subst (λ (x : Refusal). AddsAnswer path (Err x) (begun_by how) r.builder problem) is r.added)

-- the same of a result
pub are_read : (r : Result RulesRead Error) (how : HowRead) (path : Path) (bytes : Bytes)
    → IfOk r (λ x. (answer : Result Contents Refusal) × IsInput bytes answer × IsReadBy how path answer x.rules (option_map problem_of x.problem))
    → IfOk r (λ x. IsRead how path (input_file bytes) x.rules (option_map problem_of x.problem))
are_read r how path bytes h =
    IfOk-weaker r _ _ (λ x found. is_read how path bytes found.0 x.rules (option_map problem_of x.problem) found.1 found.2) h
