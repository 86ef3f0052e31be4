-- What is found is the definition with the name.
use Rattle.std.proofs.Common.{◌≡◌, get_or, sym, ap, ◌∙◌, Some}
use Rattle.ignore_types.specs.Types.{definition_of}
use Rattle.ignore_types.proofs.TypeLemmas.{definition_of-found, definition_of-absent}
use Rattle.ignore_types.proofs.types.definitions.Definitions.get.Goals as goal

pub returns-in-Ok : goal.returns-in-Ok
returns-in-Ok c =
    let at = c.in-Ok.ensures {u = tt} in
    let items : c.self.inside.sorted.items ≡ c.as_slice.result.now = c.self.view_is ∙ sym c.as_slice.ensures.value in
    ap Some (c.index.ensures ∙ ap (λ l. get_or l c.in-Ok.i c.index.result.now) items ∙ at.here c.index.result.now)
    ∙ sym (definition_of-found c.args.name.now c.as_slice.result.now c.in-Ok.i at)
    ∙ ap (definition_of c.args.name.now) c.as_slice.ensures.value

pub returns-in-Err : goal.returns-in-Err
returns-in-Err c =
    sym (definition_of-absent c.args.name.now c.as_slice.result.now _ (c.in-Err.ensures {u = tt}))
    ∙ ap (definition_of c.args.name.now) c.as_slice.ensures.value
