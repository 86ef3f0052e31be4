use Rattle.std.proofs.Common.{refl}
use Rattle.ignore_levels.specs.declared.list.Slot.TheVariants.{Free}
use Rattle.ignore_levels.proofs.ChainLemmas.{chain-kept_but}
use Rattle.ignore_levels.proofs.SlotLemmas.{get-set, keeps_but-set, level-within}
use Rattle.ignore_levels.proofs.PassLemmas.{keeps-freed}
use Rattle.ignore_levels.proofs.list.Levels.free.Goals as goal

pub returns-then-is_some-clause-kept : goal.returns-then-is_some-clause-kept
returns-then-is_some-clause-kept c = λ other chain is apart.
    let old = c.args.self.now in
    chain-kept_but _ _ c.args.place (keeps_but-set old.slots.items c.args.place (Free old.free)) is apart

pub returns-then-is_some-clause-listed : goal.returns-then-is_some-clause-listed
returns-then-is_some-clause-listed c = λ level is.
    let old = c.args.self.now in
    (refl, get-set old.slots.items c.args.place.index (Free old.free) (level-within old.slots.items c.args.place level is))

pub returns-then-is_some-clause-levels : goal.returns-then-is_some-clause-levels
returns-then-is_some-clause-levels c =
    let old = c.args.self.now in
    keeps-freed old.slots.items c.args.place.index old.free
