-- What is removed is the definition with the name.
use Rattle.std.proofs.Common.{◌≡◌, ◌∙◌, sym, ap, subst}
use Rattle.std.specs.List.{remove}
use Rattle.ignore_types.specs.Types.{IsAscending, without}
use Rattle.ignore_types.proofs.TypeLemmas.{without-found, without-absent, IsAscending-without}
use Rattle.ignore_types.proofs.types.definitions.Definitions.remove.Goals as goal
use Rattle.ignore_types.proofs.types.definitions.Definitions.remove.Goals.{After-drop-remove-in-Ok}

removed : (c : After-drop-remove-in-Ok) → c.remove.new.self.items ≡ without c.args.name.now c.self.inside.sorted.items
removed c =
    c.remove.ensures.items ∙ sym (ap (λ l. remove l c.in-Ok.i) c.as_slice.ensures.value)
    ∙ sym (without-found c.args.name.now c.as_slice.result.now c.in-Ok.i (c.in-Ok.ensures {u = tt}))
    ∙ ap (without c.args.name.now) c.as_slice.ensures.value

pub invariant_of-self : goal.invariant_of-self
invariant_of-self c = subst IsAscending (sym (removed c)) (IsAscending-without c.args.name.now c.self.inside.sorted.items c.self.invariant)

pub returns-in-Ok : goal.returns-in-Ok
returns-in-Ok c = removed c ∙ ap (without c.args.name.now) c.self.view_is

pub returns-in_default : goal.returns-in_default
returns-in_default c =
    sym c.self.view_is ∙ sym c.as_slice.ensures.value
    ∙ sym (without-absent c.args.name.now c.as_slice.result.now c.in_default.field-0 (c.in_default.ensures {u = tt}))
    ∙ ap (without c.args.name.now) (c.as_slice.ensures.value ∙ c.self.view_is)
