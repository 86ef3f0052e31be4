-- What is added stands in its place.
use Rattle.std.proofs.Common.{◌≡◌, ◌∙◌, sym, ap, subst, set, string_bytes}
use Rattle.std.specs.List.{insert}
use Rattle.ignore_types.specs.Types.{IsAscending, with_glob}
use Rattle.ignore_types.specs.PlaceSteps.{IsAt, IsGap}
use Rattle.ignore_types.proofs.TypeLemmas.{with_glob-found, with_glob-absent, longer, IsAscending-with_glob}
use Rattle.ignore_types.proofs.types.definitions.Definitions.add.Goals as goal
use Rattle.ignore_types.proofs.types.definitions.Definitions.add.Goals.{In_ok-push_glob-in-Ok, In_ok-insert-in-Err}

pushed : (c : In_ok-push_glob-in-Ok) → set c.self.inside.sorted.items c.in-Ok.i c.push_glob.new.self
    ≡ with_glob c.args.name.now c.args.glob.now c.self.inside.sorted.items
pushed c =
    let at : IsAt c.args.name.now c.self.inside.sorted.items c.in-Ok.i = subst
    (λ l. IsAt c.args.name.now l c.in-Ok.i) c.as_slice.ensures.value (c.in-Ok.ensures {u = tt}) in
    let element : c.index_mut.result.now ≡ at.definition = c.index_mut.ensures.value ∙ at.here c.index_mut.result.now in
    let bytes : string_bytes c.in_ok-glob-in-Ok.glob ≡ c.args.glob.now = c.in_ok-glob-in-Ok.ensures.ok in
    let changed : c.push_glob.new.self ≡ longer at.definition c.args.glob.now = c.in_ok-push_glob-in-Ok.ensures.added
    ∙ (λ i. longer (element i) (bytes i)) in
    ap (λ d. set c.self.inside.sorted.items c.in-Ok.i d) changed
    ∙ sym (with_glob-found c.args.name.now c.args.glob.now c.self.inside.sorted.items c.in-Ok.i at)

inserted : (c : In_ok-insert-in-Err) → c.insert.new.self.items ≡ with_glob c.args.name.now c.args.glob.now c.self.inside.sorted.items
inserted c =
    let gap : IsGap c.args.name.now c.self.inside.sorted.items c.in-Err.i = subst
    (λ l. IsGap c.args.name.now l c.in-Err.i) c.as_slice.ensures.value (c.in-Err.ensures {u = tt}) in
    c.in_ok-insert-in-Err.ensures.items
    ∙ ap (λ d. insert c.self.inside.sorted.items c.in-Err.i d) c.in_ok-definition-in-Err.ensures
    ∙ sym (with_glob-absent c.args.name.now c.args.glob.now c.self.inside.sorted.items c.in-Err.i gap)

pub invariant_of-self : goal.invariant_of-self
invariant_of-self c =
    subst IsAscending (sym (pushed c)) (IsAscending-with_glob c.args.name.now c.args.glob.now c.self.inside.sorted.items c.self.invariant)

pub invariant_of-self-in-Continue-branch-4 : goal.invariant_of-self-in-Continue-branch-4
invariant_of-self-in-Continue-branch-4 c =
    subst IsAscending (sym (inserted c)) (IsAscending-with_glob c.args.name.now c.args.glob.now c.self.inside.sorted.items c.self.invariant)

pub returns-in_ok-push_glob-in-Ok-clause-added : goal.returns-in_ok-push_glob-in-Ok-clause-added
returns-in_ok-push_glob-in-Ok-clause-added c = pushed c ∙ ap (with_glob c.args.name.now c.args.glob.now) c.self.view_is

pub returns-in_ok-insert-in-Err-clause-added : goal.returns-in_ok-insert-in-Err-clause-added
returns-in_ok-insert-in-Err-clause-added c = inserted c ∙ ap (with_glob c.args.name.now c.args.glob.now) c.self.view_is
