use Rattle.std.proofs.Common.{◌≡◌, ◌-◌, Option, Some, Bor, length, drop, refl, sym, ap, ◌∙◌, subst, true, false, rules}
use Rattle.std.specs.Option.{option_copied}
use Rattle.std.specs.Str.{IsCharBoundary, IsUtf8, chars}
use Rattle.ignore_base.specs.Match.{is_none, match_map}
use Rattle.ignore_base.specs.Text.{Path}
use Rattle.ignore_rules.specs.Answer.{list_answer}
use Rattle.ignore_rules.specs.Rules.{Rule, Ruleset}
use Rattle.ignore_levels.specs.declared.list.Level.{Level}
use Rattle.ignore_levels.specs.declared.list.Place.{Place}
use Rattle.ignore_levels.specs.declared.ranks.Sought.{Sought}
use Rattle.ignore_levels.specs.Levels.{level_at}
use Rattle.ignore_levels.proofs.FloorLemmas.{is_low}
use Rattle.ignore_levels.specs.Sites.{in_directory, sited}
use Rattle.ignore_levels.proofs.RankLemmas.{at_site, none_of}
use Rattle.ignore_levels.proofs.RestLemmas.{Rest, begin, boundary-after_slash, ended, floored, found, missed, next, no_level_left}
use Rattle.ignore_levels.proofs.ranks.nearest.Goals as goal

pub loop-at-init : goal.loop-at-init
loop-at-init c = record {
  same = refl;
  utf8 = subst IsUtf8 c.text-ceiling.ensures c.text-ceiling.utf8;
  rest = λ chain is after.
      let slots = c.args.levels.now.slots.items in
      let asked = c.args.sought.now in
      let all = begin slots c.args.rank asked.text asked.is_dir c.args.floor c.args.place chain is after in
      subst (λ (t : Path). Rest slots c.args.rank asked.text asked.is_dir c.args.floor (length t) c.ruled-at.result chain)
      (sym c.text-ceiling.ensures)
      (subst (λ (p : Option Place). Rest slots c.args.rank asked.text asked.is_dir c.args.floor (length asked.text) p chain)
      (sym c.ruled-at.ensures) all);
}

pub returns-in_default-level-clause-answered : goal.returns-in_default-level-clause-answered
returns-in_default-level-clause-answered c = λ chain is after.
    let slots = c.args.levels.now.slots.items in
    let asked = c.args.sought.now in
    let rest = subst (λ (p : Option Place). Rest slots c.args.rank asked.text asked.is_dir c.args.floor c.loop-at.ceiling p chain)
    c.in-Some.is (c.loop-at.invariant.rest chain is after) in
    absurd (no_level_left slots c.in-Some.here rest.rest (sym c.level.ensures ∙ ap (λ (o : Option (Bor Level)). option_copied o) c.in_default-level.is) rest.is)

pub returns-then-not-is_between-clause-answered : goal.returns-then-not-is_between-clause-answered
returns-then-not-is_between-clause-answered c = λ chain is after.
    let slots = c.args.levels.now.slots.items in
    let asked = c.args.sought.now in
    let level = c.in-Some-level.level.now in
    let at : level_at slots c.in-Some.here ≡ Some level =
    sym c.level.ensures ∙ ap (λ (o : Option (Bor Level)). option_copied o) c.in-Some-level.is in
    let rest = subst (λ (p : Option Place). Rest slots c.args.rank asked.text asked.is_dir c.args.floor c.loop-at.ceiling p chain)
    c.in-Some.is (c.loop-at.invariant.rest chain is after) in
    let step = next slots c.args.rank asked.text asked.is_dir c.args.floor c.loop-at.ceiling c.in-Some.here level chain at rest in
    let low = is_low c.is_between.result c.args.floor level.offset c.loop-at.ceiling c.if-not-is_between.true c.is_between.ensures.1
    step.own.0 step.within in
    sym (floored slots c.args.rank asked.text asked.is_dir c.args.floor c.loop-at.ceiling level chain low step)

pub returns-then-not-is_none-clause-answered : goal.returns-then-not-is_none-clause-answered
returns-then-not-is_none-clause-answered c = λ chain is after.
    let slots = c.args.levels.now.slots.items in
    let asked = c.args.sought.now in
    let level = c.in-Some-level.level.now in
    let at : level_at slots c.in-Some.here ≡ Some level =
    sym c.level.ensures ∙ ap (λ (o : Option (Bor Level)). option_copied o) c.in-Some-level.is in
    let rest = subst (λ (p : Option Place). Rest slots c.args.rank asked.text asked.is_dir c.args.floor c.loop-at.ceiling p chain)
    c.in-Some.is (c.loop-at.invariant.rest chain is after) in
    let step = next slots c.args.rank asked.text asked.is_dir c.args.floor c.loop-at.ceiling c.in-Some.here level chain at rest in
    let between = c.is_between.ensures.0 c.if-not-is_between.false in
    let some : is_none c.in_ok-answer.answer ≡ false = search rules in
    let boundary = boundary-after_slash asked.text level.offset c.loop-at.invariant.utf8 step.own in
    let answered = subst (λ (s : Sought). IsCharBoundary s.text level.offset → match_map (λ (g : Bor Rule). g.now) c.in_ok-answer.answer
    ≡ list_answer c.list_of-list.result.now.rules (chars (drop level.offset s.text)) s.is_dir) c.loop-at.invariant.same
    c.in_ok-answer.ensures.answered boundary
    ∙ ap (λ (l : Ruleset). list_answer l.rules (chars (drop level.offset asked.text)) asked.is_dir) c.list_of-list.ensures in
    let site = in_directory c.args.rank (drop level.offset asked.text) in
    c.ruled_by.ensures.ruled asked.text
    ∙ found slots c.args.rank asked.text asked.is_dir c.args.floor (λ (g : Bor Rule). sited site g.now) c.in_ok-answer.answer
    c.loop-at.ceiling level chain between.1 step (at_site site c.in_ok-answer.answer _ answered) some

pub loop-at-preserved : goal.loop-at-preserved
loop-at-preserved c = record {
  same = c.in_ok-answer.ensures.same ∙ c.loop-at.invariant.same;
  utf8 = c.loop-at.invariant.utf8;
  rest = λ chain is after.
      let slots = c.args.levels.now.slots.items in
      let asked = c.args.sought.now in
      let level = c.in-Some-level.level.now in
      let at : level_at slots c.in-Some.here ≡ Some level =
      sym c.level.ensures ∙ ap (λ (o : Option (Bor Level)). option_copied o) c.in-Some-level.is in
      let rest = subst (λ (p : Option Place). Rest slots c.args.rank asked.text asked.is_dir c.args.floor c.loop-at.ceiling p chain)
      c.in-Some.is (c.loop-at.invariant.rest chain is after) in
      let step = next slots c.args.rank asked.text asked.is_dir c.args.floor c.loop-at.ceiling c.in-Some.here level chain at rest in
      let between = c.is_between.ensures.0 c.if-not-is_between.false in
      let none : is_none c.in_ok-answer.answer ≡ true = search rules in
      let boundary = boundary-after_slash asked.text level.offset c.loop-at.invariant.utf8 step.own in
      let answered = subst (λ (s : Sought). IsCharBoundary s.text level.offset → match_map (λ (g : Bor Rule). g.now) c.in_ok-answer.answer
      ≡ list_answer c.list_of-list.result.now.rules (chars (drop level.offset s.text)) s.is_dir) c.loop-at.invariant.same
      c.in_ok-answer.ensures.answered boundary
      ∙ ap (λ (l : Ruleset). list_answer l.rules (chars (drop level.offset asked.text)) asked.is_dir) c.list_of-list.ensures in
      subst (λ (p : Option Place). Rest slots c.args.rank asked.text asked.is_dir c.args.floor (level.offset - 1) p chain)
      (sym c.ruled-at-in-Some.ensures)
      (missed slots c.args.rank asked.text asked.is_dir c.args.floor c.loop-at.ceiling level chain between.1 step
      (none_of (λ (g : Bor Rule). sited (in_directory c.args.rank (drop level.offset asked.text)) g.now) c.in_ok-answer.answer _
      (at_site (in_directory c.args.rank (drop level.offset asked.text)) c.in_ok-answer.answer _ answered) none));
}

pub returns-clause-answered : goal.returns-clause-answered
returns-clause-answered c = λ chain is after.
    let slots = c.args.levels.now.slots.items in
    let asked = c.args.sought.now in
    let rest = subst (λ (p : Option Place). Rest slots c.args.rank asked.text asked.is_dir c.args.floor c.loop-at.ceiling p chain)
    c.in_default.is (c.loop-at.invariant.rest chain is after) in
    sym (ended slots c.args.rank asked.text asked.is_dir c.args.floor c.loop-at.ceiling chain rest)

pub returns-then-not-is_none-clause-inside : goal.returns-then-not-is_none-clause-inside
returns-then-not-is_none-clause-inside c =
    let some : is_none c.in_ok-answer.answer ≡ false = search rules in
    c.ruled_by.ensures.inside c.args.sought.now.text
    (subst (λ (s : Sought). IsCharBoundary s.text c.in-Some-level.level.now.offset) c.loop-at.invariant.same (c.in_ok-answer.ensures.inside some))
