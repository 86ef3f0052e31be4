use Rattle.std.proofs.Common.{◌≡◌, ◌<◌, ◌≤◌, [], ◌∷◌, ◌++◌, List, length, slice_get, refl, ap, ◌∙◌, subst, arith}
use Rattle.std.proofs.lemmas.Option.{get_or_from_slice_get}
use Rattle.ignore_levels.specs.declared.list.Slot.{Slot}
use Rattle.ignore_levels.specs.declared.list.Slot.TheVariants.{Used, Free}
use Rattle.ignore_levels.specs.Levels.{level_at, level_in, next_of}
use Rattle.ignore_levels.proofs.SlotLemmas.{get-end, get-set, keeps-append, keeps-set, length-written, within}
use Rattle.ignore_levels.proofs.list.Levels.put.Goals as goal

pub returns-then-place-as_slice-clause-put : goal.returns-then-place-as_slice-clause-put
returns-then-place-as_slice-clause-put c = λ vacant.
    let old = c.args.self.now.slots.items in
    let i = c.args.place.index in
    let lt = subst (λ (l : List Slot). i < length l) c.as_slice.ensures.value c.if-place-as_slice.true in
    ap level_in (get-set old i (Used c.args.level) lt)

pub returns-then-place-as_slice-clause-kept : goal.returns-then-place-as_slice-clause-kept
returns-then-place-as_slice-clause-kept c = λ vacant.
    keeps-set c.args.self.now.slots.items c.args.place.index (Used c.args.level) vacant.0

pub returns-then-place-as_slice-clause-filled : goal.returns-then-place-as_slice-clause-filled
returns-then-place-as_slice-clause-filled c = λ next free.
    let old = c.args.self.now.slots.items in
    let i = c.args.place.index in
    let is = c.index.ensures ∙ get_or_from_slice_get old i (Free next) c.index.result.now free in
    (refl, c.next_of-self.ensures ∙ ap next_of is, length-written old i (Used c.args.level))

pub returns-in_err-push-clause-filled : goal.returns-in_err-push-clause-filled
returns-in_err-push-clause-filled c = λ next free.
    let old = c.args.self.now.slots.items in
    let i = c.args.place.index in
    let lt = within old i (Free next) free in
    let ge = subst (λ (l : List Slot). length l ≤ i) c.as_slice.ensures.value c.if-place-as_slice.false in
    absurd (omega (arith, lt, ge))

pub returns-clause-put : goal.returns-clause-put
returns-clause-put c = λ vacant.
    let old = c.args.self.now.slots.items in
    let i = c.args.place.index in
    let level = c.args.level in
    let ge : length old ≤ i = subst (λ (l : List Slot). length l ≤ i) c.as_slice.ensures.value c.if-place-as_slice.false in
    let le : i ≤ length old = vacant.1 in
    let at : i ≡ length old = omega (arith, ge, le) in
    ap level_in (ap (λ (l : List Slot). slice_get l i) c.in_ok-push.ensures.items
    ∙ (ap (λ k. slice_get (old ++ Used level ∷ []) k) at ∙ get-end old (Used level)))

pub returns-clause-kept : goal.returns-clause-kept
returns-clause-kept c = λ vacant place level is.
    ap (λ (l : List Slot). level_at l place) c.in_ok-push.ensures.items
    ∙ keeps-append c.args.self.now.slots.items (Used c.args.level ∷ []) place level is

pub returns-clause-filled : goal.returns-clause-filled
returns-clause-filled c = λ next free.
    let old = c.args.self.now.slots.items in
    let i = c.args.place.index in
    let lt = within old i (Free next) free in
    let ge = subst (λ (l : List Slot). length l ≤ i) c.as_slice.ensures.value c.if-place-as_slice.false in
    absurd (omega (arith, lt, ge))
