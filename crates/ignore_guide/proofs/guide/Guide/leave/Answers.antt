use Rattle.std.proofs.Common.{◌≡◌, Some, ap, is_some, sym, ◌∙◌}
use Rattle.std.proofs.Math.Logic.{∥∥₁_elim, ∥∥₁_map}
use Rattle.std.specs.Option.{option_copied}
use mathlib.Core.HLevel.{⊥_prop}
use Rattle.ignore_levels.specs.Levels.{counting, slots_of}
use Rattle.ignore_guide.specs.Places.{entered_at}
use Rattle.ignore_guide.proofs.ForestLemmas.{apart-all, forest-left}
use Rattle.ignore_guide.proofs.guide.Guide.leave.Goals as goal

pub invariant_of-self : goal.invariant_of-self
invariant_of-self c =
    let old = c.args.self.now in
    let place = c.args.place in
    let dir = c.in-Some.dir.now in
    let there : entered_at old.places place ≡ Some dir = sym c.get.ensures ∙ ap option_copied c.in-Some.is in
    let none = c.has_children.ensures.none c.if-has_children.false (ap is_some there) in
    record {
      forest = ∥∥₁_map old.forest (λ f. forest-left (slots_of old.levels) (slots_of c.free_down.new.levels) old.places c.leave.new.self f place dir there none
          c.free_down.ensures.levels c.free_down.ensures.kept c.leave.ensures.others (c.leave.ensures.gone (ap is_some there)).1);
    }

pub returns-clause-kept : goal.returns-clause-kept
returns-clause-kept c = λ other depth at ne s.
    let old = c.args.self.now in
    let place = c.args.place in
    let dir = c.in-Some.dir.now in
    let there : entered_at old.places place ≡ Some dir = sym c.get.ensures ∙ ap option_copied c.in-Some.is in
    let none = c.has_children.ensures.none c.if-has_children.false (ap is_some there) in
    record {
      dir = s.dir;
      there = c.leave.ensures.others other ne ∙ s.there;
      deep = s.deep;
      stands = record {
        chain = c.free_down.ensures.kept s.dir.level (counting at.chain) s.stands.chain
            (λ owned own passes. ∥∥₁_elim old.forest ⊥_prop
            (λ f. apart-all (slots_of old.levels) old.places f place dir there none other s.dir owned s.there ne own passes));
        inside = s.stands.inside;
        text = s.stands.text;
        path = s.stands.path;
      };
    }

pub returns-clause-there : goal.returns-clause-there
returns-clause-there c =
    let there : entered_at c.args.self.now.places c.args.place ≡ Some c.in-Some.dir.now = sym c.get.ensures ∙ ap option_copied c.in-Some.is in
    (ap is_some there, c.has_children.ensures.none c.if-has_children.false (ap is_some there))
