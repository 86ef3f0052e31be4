use Rattle.std.proofs.Common.{◌≡◌, ◌+◌, ◌∷◌, ◌||◌, ℕ, Bool, List, drop, sym, ap, subst, ◌∙◌, bytes_eq}
use Rattle.std.proofs.lemmas.List.{at_drop_more}
use Rattle.std.proofs.lemmas.Slice.Eq.{bytes_eq-Decides}
use Rattle.ignore_levels.specs.Levels.{IsChain, counting}
use Rattle.ignore_walk.specs.Shared.{AreShared, is_among, paths_of, placed_through}
use Rattle.ignore_walk.specs.declared.above.Seen.{Seen}
use Rattle.ignore_walk.proofs.above.find.Goals as goal

pub returns-then-eq-clause-place : goal.returns-then-eq-clause-place
returns-then-eq-clause-place c = λ g slots are.
    let path = c.args.path.now in
    let i = c.loop-other.other-index in
    let rest = drop (i + 1) c.args.seen.now in
    let x = c.other-item.result in
    let here : AreShared g slots (x ∷ rest) =
    subst (λ (y : Seen). AreShared g slots (y ∷ rest)) (sym c.other-item.is)
    (subst (AreShared g slots) (at_drop_more (λ (l : List Seen). l) c.args.seen.now i x c.loop-other-test.true) (c.loop-other.invariant.shared g slots are)) in
    let same : path ≡ x.path = (bytes_eq-Decides path x.path).0
    (ap (λ (p : List ℕ). bytes_eq path p) (sym c.as_str.ensures) ∙ (sym c.eq.ensures ∙ c.if-eq.true)) in
    subst (λ (p : List ℕ). IsChain slots x.place (counting (placed_through g p))) (sym same) here.0

pub loop-other-preserved : goal.loop-other-preserved
loop-other-preserved c =
    let path = c.args.path.now in
    let i = c.loop-other.other-index in
    let rest = drop (i + 1) c.args.seen.now in
    let x = c.other-item.result in
    let next = at_drop_more (λ (l : List Seen). l) c.args.seen.now i x c.loop-other-test.true
    ∙ ap (λ (y : Seen). y ∷ rest) (sym c.other-item.is) in
    let differs = ap (λ (p : List ℕ). bytes_eq path p) (sym c.as_str.ensures) ∙ (sym c.eq.ensures ∙ c.if-eq.false) in
    record {
      among = c.loop-other.invariant.among
          ∙ (ap (λ (l : List Seen). is_among path (paths_of l)) next ∙ ap (λ (b : Bool). b || is_among path (paths_of rest)) differs);
      shared = λ g slots are. (subst (AreShared g slots) next (c.loop-other.invariant.shared g slots are)).1;
    }
