use Rattle.std.proofs.Common.{ap, option_map, refl, reverse, sym, subst, ◌∙◌}
use Rattle.std.proofs.Math.Logic.{∥∥₁_map}
use Rattle.ignore_base.specs.Problem.{problem_of}
use Rattle.ignore_dir.specs.Scene.{scene}
use Rattle.ignore_dir.specs.Steps.{Reached}
use Rattle.ignore_levels.specs.Levels.{counting, slots_of}
use Rattle.ignore_levels.proofs.PassLemmas.{keeps-then}
use Rattle.ignore_guide.specs.Forest.{StandsIn}
use Rattle.ignore_guide.specs.Guide.{IsRootBy}
use Rattle.ignore_guide.proofs.EnterLemmas.{root-whole, stands-root}
use Rattle.ignore_guide.proofs.ForestLemmas.{forest-grown}
use Rattle.ignore_guide.proofs.SettleLemmas.{above-placed, forest-root-any}
use Rattle.ignore_guide.proofs.StandLemmas.{above-below, above-rising, chains-kept, others-stay, places-kept}
use Rattle.ignore_guide.proofs.guide.Guide.root.Goals as goal

pub invariant_of-self : goal.invariant_of-self
invariant_of-self g c =
    let old = c.args.self.now in
    record {
      forest = ∥∥₁_map old.forest (λ f. forest-grown (slots_of old.levels) (slots_of c.above.new.levels) old.places old.places f
          c.above.ensures.levels (λ place. refl));
    }

pub invariant_of-self-2 : goal.invariant_of-self-2
invariant_of-self-2 g c =
    let old = c.args.self.now in
    let rooted = c.in_ok-rooted.rooted in
    let o = rooted.opened in
    let st = old.settings in
    let dirs = rooted.above.items in
    let by = c.in_ok-rooted.ensures.answered in
    let rising = above-rising g.F.Files c.args.files.now st c.args.root.now dirs o.text by.far by.is_above in
    let below = above-below g.F.Files c.args.files.now st c.args.root.now dirs o.text by.far by.is_above in
    let chain = c.in_ok-level.ensures.chain rising in
    record {
      forest = ∥∥₁_map old.forest (λ f. forest-root-any c.settle.result (slots_of old.levels) (slots_of c.above.new.levels) (slots_of c.settle.new.levels)
          old.places c.settle.new.places c.in_ok-level.level (counting (reverse dirs)) o _ c.in_ok-level.ensures.levels c.settle.ensures.levels
          (c.in_ok-level.ensures.fresh rising) chain c.settle.ensures.unchanged c.settle.ensures.new c.settle.ensures.others c.settle.ensures.settled
          (c.settle.ensures.stands (record { chain = reverse dirs; text = o.text; path = o.path }) chain below
          (above-placed o.text dirs c.in_ok-rooted.ensures.placed) c.in_ok-rooted.ensures.ends) f);
    }

pub returns-in_err-level-clause-kept : goal.returns-in_err-level-clause-kept
returns-in_err-level-clause-kept g c =
    let old = c.args.self.now in
    places-kept (slots_of old.levels) (slots_of c.above.new.levels) old.places old.places (λ place e h. h)
    (chains-kept (slots_of old.levels) (slots_of c.above.new.levels) c.in_err-level.ensures.levels)

pub returns-in_err-arrived-clause-kept : goal.returns-in_err-arrived-clause-kept
returns-in_err-arrived-clause-kept g c =
    let old = c.args.self.now in
    places-kept (slots_of old.levels) (slots_of c.settle.new.levels) old.places c.settle.new.places (λ place e h. c.in_err-arrived.ensures.unchanged place ∙ h)
    (chains-kept (slots_of old.levels) (slots_of c.settle.new.levels) (keeps-then _ _ _ c.in_ok-level.ensures.levels c.in_err-arrived.ensures.levels))

pub returns-clause-kept : goal.returns-clause-kept
returns-clause-kept g c =
    let old = c.args.self.now in
    places-kept (slots_of old.levels) (slots_of c.settle.new.levels) old.places c.settle.new.places
    (others-stay old.places c.settle.new.places c.in_ok-arrived.arrived.place c.in_ok-arrived.ensures.new c.in_ok-arrived.ensures.others)
    (chains-kept (slots_of old.levels) (slots_of c.settle.new.levels) (keeps-then _ _ _ c.in_ok-level.ensures.levels c.in_ok-arrived.ensures.levels))

pub returns-clause-answered : goal.returns-clause-answered
returns-clause-answered g c =
    let rooted = c.in_ok-rooted.rooted in
    let o = rooted.opened in
    let f = c.args.files.now in
    let st = c.args.self.now.settings in
    let root = c.args.root.now in
    let by = c.in_ok-rooted.ensures.answered in
    let is = by.is_above in
    let stand = stands-root (slots_of c.above.new.levels) c.in_ok-level.level (slots_of c.settle.new.levels) c.settle.new.places
    c.in_ok-arrived.arrived.place o.depth rooted.above.items o.dir o.text o.path root c.in_ok-arrived.ensures.stands
    (c.in_ok-level.ensures.chain (above-rising g.F.Files f st root rooted.above.items o.text by.far is))
    (above-below g.F.Files f st root rooted.above.items o.text by.far is)
    c.in_ok-rooted.ensures.placed c.in_ok-rooted.ensures.ends c.in_ok-rooted.ensures.path c.in_ok-rooted.ensures.depth in
    let reported = ap (option_map problem_of) c.in_ok-arrived.ensures.error in (
      rooted.above.items,
      o.text,
      o.dir,
      subst (λ p. IsRootBy g.F.Files f st root rooted.above.items o.text o.dir p) (sym reported) by,
      stand,
    )

pub returns-clause-stands : goal.returns-clause-stands
returns-clause-stands g c = λ tree loads honest are.
    let rooted = c.in_ok-rooted.rooted in
    let o = rooted.opened in
    let f = c.args.files.now in
    let st = c.args.self.now.settings in
    let root = c.args.root.now in
    let by = c.in_ok-rooted.ensures.answered in
    let is = by.is_above in
    let s = scene tree loads st c.args.self.now.outside root in
    let stand = stands-root (slots_of c.above.new.levels) c.in_ok-level.level (slots_of c.settle.new.levels) c.settle.new.places
    c.in_ok-arrived.arrived.place o.depth rooted.above.items o.dir o.text o.path root c.in_ok-arrived.ensures.stands
    (c.in_ok-level.ensures.chain (above-rising g.F.Files f st root rooted.above.items o.text by.far is))
    (above-below g.F.Files f st root rooted.above.items o.text by.far is)
    c.in_ok-rooted.ensures.placed c.in_ok-rooted.ensures.ends c.in_ok-rooted.ensures.path c.in_ok-rooted.ensures.depth in
    subst (λ (at : Reached). StandsIn (slots_of c.settle.new.levels) c.settle.new.places c.in_ok-arrived.arrived.place 1 at)
    (root-whole s rooted.above.items o.dir o.text (c.steps_are_whole.ensures.root s) (c.in_ok-rooted.ensures.above tree loads honest are)
    (c.in_ok-rooted.ensures.dir tree loads honest are) (c.in_ok-rooted.ensures.text tree loads honest are)) stand

pub returns-clause-problem : goal.returns-clause-problem
returns-clause-problem g c = λ tree loads honest are.
    ap (option_map problem_of) c.in_ok-arrived.ensures.error ∙ c.in_ok-rooted.ensures.problem tree loads honest are
