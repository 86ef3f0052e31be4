use Rattle.std.proofs.Common.{◌≢◌, Option, Some, sym, subst, ◌∙◌}
use Rattle.ignore_levels.specs.Levels.{slots_of}
use Rattle.ignore_levels.specs.declared.list.Place.{Place}
use Rattle.ignore_levels.proofs.PassLemmas.{keeps-then, passes-kept}
use Rattle.ignore_guide.specs.Forest.{Owns}
use Rattle.ignore_guide.specs.Forest.Owns.{first}
use Rattle.ignore_guide.proofs.FreeLemmas.{owns-kept, owns-step}
use Rattle.ignore_guide.proofs.free.free_down.Goals as goal

pub loop-step-preserved : goal.loop-step-preserved
loop-step-preserved c =
    let inv = c.loop-step.invariant in
    let old = slots_of c.args.levels.now in
    let now = slots_of c.loop-step.levels in
    let new = slots_of c.free.new.self in
    let floor = c.args.floor in
    let place = c.in-Some.place in
    let apart : Some place ≢ floor = λ e. c.is_same.ensures.apart c.if-is_same.false (c.in-Some.is ∙ e) in
    let owned : (level : Place) → Owns now floor (Some place) level → Owns old floor c.args.from level =
    λ level h. inv.owned level (subst (λ (o : Option Place). Owns now floor o level) (sym c.in-Some.is) h) in
    record {
      levels = keeps-then new now old c.free.ensures.levels inv.levels;
      owned = λ level h. owned level (owns-step now floor place level apart
          (subst (λ (o : Option Place). Owns now floor o level) c.parent_of-next.ensures (owns-kept c.free.ensures.levels floor h)));
      kept = λ other chain is free. c.free.ensures.kept other chain (inv.kept other chain is free)
          (λ passes. free place (owned place (first apart)) (passes-kept inv.levels passes));
    }
