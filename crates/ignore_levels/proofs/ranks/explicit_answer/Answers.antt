use Rattle.std.proofs.Common.{◌≡◌, ◌+◌, ◌-◌, drop, true, false, subst, arith, rules}
use Rattle.ignore_base.specs.Match.{is_none}
use Rattle.ignore_base.specs.declared.match_result.Match.TheVariants.{None}
use Rattle.ignore_dir.specs.Ranks.{explicit_answer}
use Rattle.ignore_levels.proofs.RankLemmas.{explicit_found, explicit_missed}
use Rattle.ignore_levels.proofs.ranks.explicit_answer.Goals as goal

pub returns-then-not-is_none : goal.returns-then-not-is_none
returns-then-not-is_none c = record {
  answered =
      let i = c.loop-i.i - 1 in
      let next : c.loop-i.i ≡ i + 1 = omega arith in
      let none = subst (λ n. explicit_answer (drop n c.args.explicit.now) c.args.path.now c.args.is_dir ≡ None) next c.loop-i.invariant in
      let found : is_none c.in_ok-answer.answer ≡ false = search rules in
      let answer = c.in_ok-answer.answer in
      let path = c.args.path.now in
      explicit_found (λ g. g.now) c.args.explicit.now i c.index-explicit-i.result path c.args.is_dir answer (omega arith)
      c.index-explicit-i.is none c.in_ok-answer.ensures.answered found;
}

pub loop-i-preserved : goal.loop-i-preserved
loop-i-preserved c =
    let i = c.loop-i.i - 1 in
    let next : c.loop-i.i ≡ i + 1 = omega arith in
    let none = subst (λ n. explicit_answer (drop n c.args.explicit.now) c.args.path.now c.args.is_dir ≡ None) next c.loop-i.invariant in
    let missed : is_none c.in_ok-answer.answer ≡ true = search rules in
    let answer = c.in_ok-answer.answer in
    let path = c.args.path.now in
    explicit_missed (λ g. g.now) c.args.explicit.now i c.index-explicit-i.result path c.args.is_dir answer (omega arith)
    c.index-explicit-i.is none c.in_ok-answer.ensures.answered missed
