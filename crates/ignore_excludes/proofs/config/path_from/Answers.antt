-- What was read whole gives the value of its bytes.
use Rattle.std.proofs.Common.{◌≡◌, None, Some, Result, Ok, Err, sym, subst, ◌∙◌}
use Rattle.std.specs.Prelude.{MatchResult}
use Rattle.ignore_base.specs.declared.fault.Fault.{Fault}
use Rattle.ignore_files.specs.declared.types.Contents.{Contents}
use Rattle.ignore_files.specs.declared.types.Refusal.{Refusal}
use Rattle.ignore_files.specs.declared.types.Refusal.TheVariants.{Fault as Refused}
use Rattle.ignore_excludes.proofs.ExcludesPlaces.{AnswerGives-whole}
use Rattle.ignore_excludes.proofs.config.path_from.Goals as goal

-- the answer that was separated from its faults
abbrev Separates : Result Contents Refusal → Result Contents Fault → Type 0
Separates answer found = MatchResult found (λ v. answer ≡ Ok v) (λ f. answer ≡ Err (Refused f))

pub returns-in-None : goal.returns-in-None
returns-in-None g c =
    let answer : c.contents.result ≡ Ok c.in-Ok.contents = subst (Separates c.contents.result) c.in-Ok.is c.in_ok-answered.ensures.answered in (
      Ok c.in-Ok.contents,
      subst (λ (r : Result Contents Refusal). g.F.Files.contents_gives c.args.files.now c.args.path.now r) answer c.contents.ensures,
      AnswerGives-whole c.in-Ok.contents c.as_slice.result.now None
          (sym c.is_some.ensures ∙ c.if-is_some.false) c.as_slice.ensures c.in-None.ensures.value,
    )

pub returns : goal.returns
returns g c =
    let answer : c.contents.result ≡ Ok c.in-Ok.contents = subst (Separates c.contents.result) c.in-Ok.is c.in_ok-answered.ensures.answered in (
      c.in-Some.value.now,
      (
        Ok c.in-Ok.contents,
        subst (λ (r : Result Contents Refusal). g.F.Files.contents_gives c.args.files.now c.args.path.now r) answer c.contents.ensures,
        AnswerGives-whole c.in-Ok.contents c.as_slice.result.now (Some c.in-Some.value.now)
            (sym c.is_some.ensures ∙ c.if-is_some.false) c.as_slice.ensures c.in-Some.ensures.value,
      ),
      c.in_ok-expanded-in-Some.ensures,
    )
