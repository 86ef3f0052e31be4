use Rattle.std.proofs.Common.{MatchOption, string_bytes, subst}
use Rattle.std.specs.Str.{chars}
use Rattle.ignore_every.specs.Findings.{DecidesNever, IsShortest}
use Rattle.ignore_every.specs.declared.findings.Question.{Question}
use Rattle.ignore_every.proofs.judge.finding_of.Goals as goal

pub returns-in-Some : goal.returns-in-Some
returns-in-Some c =
    let judge = c.args.reached.now in
    let rules = judge.rules.now.rules in
    let index = c.args.index in
    let q = c.in-Some.question in
    let shortest : IsShortest judge.search.reached rules index (chars (string_bytes q.path)) q.is_dir =
    subst (λ o. MatchOption o (DecidesNever judge.search.reached rules index) (λ (p : Question). IsShortest judge.search.reached rules index (chars (string_bytes p.path)) p.is_dir))
    c.in-Some.is c.in_ok-found.ensures in
    subst (λ r. IsShortest r rules index (chars (string_bytes q.path)) q.is_dir) c.requires.reached.mode shortest

pub returns-in_ok-finding-in-None : goal.returns-in_ok-finding-in-None
returns-in_ok-finding-in-None c =
    let judge = c.args.reached.now in
    let rules = judge.rules.now.rules in
    let index = c.args.index in
    let never : DecidesNever judge.search.reached rules index =
    subst (λ o. MatchOption o (DecidesNever judge.search.reached rules index) (λ (p : Question). IsShortest judge.search.reached rules index (chars (string_bytes p.path)) p.is_dir))
    c.in-None.is c.in_ok-found.ensures in
    c.in_ok-finding-in-None.ensures (subst (λ r. DecidesNever r rules index) c.requires.reached.mode never)
