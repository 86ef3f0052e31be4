use Rattle.std.proofs.Common.{◌≡◌, ◌+◌, List, ℕ, Some, ap, option_map, sym, subst, ◌∙◌}
use Rattle.std.proofs.Math.Logic.{∥∥₁_map}
use Rattle.std.specs.Option.{option_copied}
use Rattle.ignore_base.specs.Paths.{join_of}
use Rattle.ignore_base.specs.Problem.{problem_of}
use Rattle.ignore_dir.specs.LoadsBy.{LoadsBy, reads_of, stats_of}
use Rattle.ignore_dir.specs.Steps.{entry}
use Rattle.ignore_dir.specs.declared.dir.Dir.{Dir}
use Rattle.ignore_levels.specs.Levels.{slots_of}
use Rattle.ignore_guide.specs.Forest.{StandsIn}
use Rattle.ignore_guide.specs.Guide.{holding}
use Rattle.ignore_guide.specs.Places.{entered_at}
use Rattle.ignore_guide.proofs.EnterLemmas.{path-there, stands-below}
use Rattle.ignore_guide.proofs.SettleLemmas.{forest-below-any}
use Rattle.ignore_guide.proofs.StandLemmas.{chains-kept, others-stay, places-kept}
use Rattle.ignore_guide.proofs.guide.Guide.enter.Goals as goal

pub invariant_of-self-2 : goal.invariant_of-self-2
invariant_of-self-2 g c =
    let old = c.args.self.now in
    let o = c.in_ok-opened.opened in
    let around = c.in-Some.dir.now in
    let there : entered_at old.places c.args.parent ≡ Some around = sym c.get.ensures ∙ ap option_copied c.in-Some.is in
    record {
      forest = ∥∥₁_map old.forest (λ f. forest-below-any c.settle.result (slots_of old.levels) (slots_of c.settle.new.levels) old.places c.settle.new.places
          c.args.parent around o c.args.name.now there c.settle.ensures.levels c.settle.ensures.unchanged c.settle.ensures.new c.settle.ensures.others
          c.settle.ensures.settled c.settle.ensures.stands c.in_ok-opened.ensures.text c.in_ok-opened.ensures.path c.in_ok-opened.ensures.depth f);
    }

pub returns-in_err-arrived-clause-kept : goal.returns-in_err-arrived-clause-kept
returns-in_err-arrived-clause-kept g c =
    let old = c.args.self.now in
    places-kept (slots_of old.levels) (slots_of c.settle.new.levels) old.places c.settle.new.places (λ place e h. c.in_err-arrived.ensures.unchanged place ∙ h)
    (chains-kept (slots_of old.levels) (slots_of c.settle.new.levels) c.in_err-arrived.ensures.levels)

pub returns-clause-kept : goal.returns-clause-kept
returns-clause-kept g c =
    let old = c.args.self.now in
    places-kept (slots_of old.levels) (slots_of c.settle.new.levels) old.places c.settle.new.places
    (others-stay old.places c.settle.new.places c.in_ok-arrived.arrived.place c.in_ok-arrived.ensures.new c.in_ok-arrived.ensures.others)
    (chains-kept (slots_of old.levels) (slots_of c.settle.new.levels) c.in_ok-arrived.ensures.levels)

pub returns-clause-answered : goal.returns-clause-answered
returns-clause-answered g c = λ depth at s.
    let old = c.args.self.now in
    let f = c.args.files.now in
    let st = old.settings in
    let name = c.args.name.now in
    let o = c.in_ok-opened.opened in
    let around = c.in-Some.dir.now in
    let there : Some around ≡ entered_at old.places c.args.parent = sym (ap option_copied c.in-Some.is) ∙ c.get.ensures in
    let path = path-there (slots_of old.levels) old.places c.args.parent depth at around there s in
    let stand = stands-below (slots_of old.levels) (slots_of c.settle.new.levels) old.places c.settle.new.places c.args.parent c.in_ok-arrived.arrived.place
    around depth o.depth at o.dir name o.text o.path there s c.in_ok-arrived.ensures.stands c.in_ok-opened.ensures.text c.in_ok-opened.ensures.path
    c.in_ok-opened.ensures.depth in
    let reported = ap (option_map problem_of) c.in_ok-arrived.ensures.error in (
      o.dir,
      subst (λ p. LoadsBy (stats_of g.F.Files f) (reads_of g.F.Files f) st (join_of at.path name) o.dir p) (sym reported)
          (subst (λ (p : List ℕ). LoadsBy (stats_of g.F.Files f) (reads_of g.F.Files f) st (join_of p name) o.dir (option_map problem_of o.error)) path
          c.in_ok-opened.ensures.answered),
      stand,
    )

pub returns-clause-stands : goal.returns-clause-stands
returns-clause-stands g c = λ depth at s tree loads honest are.
    let old = c.args.self.now in
    let name = c.args.name.now in
    let o = c.in_ok-opened.opened in
    let around = c.in-Some.dir.now in
    let there : Some around ≡ entered_at old.places c.args.parent = sym (ap option_copied c.in-Some.is) ∙ c.get.ensures in
    let path = path-there (slots_of old.levels) old.places c.args.parent depth at around there s in
    let stand = stands-below (slots_of old.levels) (slots_of c.settle.new.levels) old.places c.settle.new.places c.args.parent c.in_ok-arrived.arrived.place
    around depth o.depth at o.dir name o.text o.path there s c.in_ok-arrived.ensures.stands c.in_ok-opened.ensures.text c.in_ok-opened.ensures.path
    c.in_ok-opened.ensures.depth in
    let dir : o.dir ≡ (loads (join_of at.path name)).0 = c.in_ok-opened.ensures.dir tree loads honest are
    ∙ ap (λ (p : List ℕ). (loads (join_of p name)).0) path in
    subst (λ (d : Dir). StandsIn (slots_of c.settle.new.levels) c.settle.new.places c.in_ok-arrived.arrived.place (depth + 1) (holding d (entry at name))) dir
    stand

pub returns-clause-problem : goal.returns-clause-problem
returns-clause-problem g c = λ depth at s tree loads honest are.
    let old = c.args.self.now in
    let around = c.in-Some.dir.now in
    let there : Some around ≡ entered_at old.places c.args.parent = sym (ap option_copied c.in-Some.is) ∙ c.get.ensures in
    let path = path-there (slots_of old.levels) old.places c.args.parent depth at around there s in
    ap (option_map problem_of) c.in_ok-arrived.ensures.error
    ∙ (c.in_ok-opened.ensures.problem tree loads honest are ∙ ap (λ (p : List ℕ). (loads (join_of p c.args.name.now)).1) path)
