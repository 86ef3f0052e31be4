use Rattle.std.proofs.Common.{◌≡◌, ◌+◌, ◌-◌, ◌++◌, ◌∷◌, [], ℕ, suc, arith, refl, sym, subst, length, count_by}
use Rattle.std.proofs.lemmas.Iterator.{YieldsList-from_chars}
use Rattle.std.proofs.lemmas.Iterator.Consumers.{YieldsList-turn, YieldsList-end}
use Rattle.std.proofs.lemmas.List.{length_push, length-map}
use Rattle.std.proofs.lemmas.Option.{slice_get_read}
use Rattle.std.specs.Str.{chars}
use Rattle.ignore_glob.specs.Nodes.{Marked}
use Rattle.ignore_glob.specs.Flags.{IsFlagged, AreFlags, Count}
use Rattle.ignore_glob.specs.NodeLists.{node_view, nodes_view}
use Rattle.ignore_glob.proofs.MarkSteps.{marked_next, count_next, later, later-sum, none_later, count_later}
use Rattle.ignore_glob.proofs.glob.marks.matches_counted.Goals as goal

pub loop-c-preserved : goal.loop-c-preserved
loop-c-preserved c =
    let nodes = nodes_view c.args.nodes.now in
    let text = chars c.args.text.now in
    let fold = c.args.fold in
    let i = length c.loop-c.yielded in
    let turn = YieldsList-turn
    (YieldsList-from_chars c.args.text.now c.utf8.text cc) c.loop-c.yielded _ c.loop-c.yielded_by _ _ c.in-Some.c c.in-Some.is
    c.next.ensures.steps in
    let at = slice_get_read text (length text) i _ refl turn.0 turn.1 in
    let next = c.advance.new.flags.all.items in
    let long = length-map c.args.nodes.now node_view in
    let marked = marked_next fold nodes text c.loop-c.here.all.items next i c.in-Some.c c.loop-c.invariant.flags at
    (omega (arith, long, c.advance.ensures.len)) c.advance.ensures.flagged in
    let one_more : suc i ≡ length (c.loop-c.yielded ++ c.in-Some.c ∷ []) = omega (arith, length_push c.loop-c.yielded c.in-Some.c) in
    let P : ℕ → Type 0 = λ o. AreFlags nodes (Marked fold nodes text o) next in
    let n = c.loop-c.invariant.count.0 in
    let m = n + count_by (λ b. b) next in
    let Q : ℕ → Type 0 = λ o. Count fold nodes text o m in
    record {
      continues = (tt, tt);
      flags = subst P one_more marked;
      next = omega (arith, c.loop-c.invariant.flags.len, long);
      count = (
        m,
        subst Q one_more (count_next fold nodes text next i n c.loop-c.invariant.count.1 marked),
        omega (arith, c.count.ensures, c.saturating_add-count.ensures, c.loop-c.invariant.count.2),
      );
    }

pub returns-clause-matched : goal.returns-clause-matched
returns-clause-matched c =
    let nodes = nodes_view c.args.nodes.now in
    let text = chars c.args.text.now in
    let ended = YieldsList-end
    (YieldsList-from_chars c.args.text.now c.utf8.text cc) c.loop-c.yielded _ c.loop-c.yielded_by _ _ c.in-None.is c.next.ensures.steps in
    let P : ℕ → Type 0 = λ o. AreFlags nodes (Marked c.args.fold nodes text o) c.loop-c.here.all.items in
    let flags = subst P ended.1 c.loop-c.invariant.flags in
    let both = flags.flagged (length c.args.nodes.now) in
    (λ t. both.0 (c.has.ensures.0 t), λ m. c.has.ensures.1 (both.1 m))

pub returns-clause-count : goal.returns-clause-count
returns-clause-count c =
    let nodes = nodes_view c.args.nodes.now in
    let text = chars c.args.text.now in
    let ended = YieldsList-end
    (YieldsList-from_chars c.args.text.now c.utf8.text cc) c.loop-c.yielded _ c.loop-c.yielded_by _ _ c.in-None.is c.next.ensures.steps in
    let n = c.loop-c.invariant.count.0 in
    let Q : ℕ → Type 0 = λ o. Count c.args.fold nodes text o n in
    (n, subst Q ended.1 c.loop-c.invariant.count.1, c.loop-c.invariant.count.2)

pub returns-then-is_clear-clause-matched : goal.returns-then-is_clear-clause-matched
returns-then-is_clear-clause-matched c =
    let nodes = nodes_view c.args.nodes.now in
    let text = chars c.args.text.now in
    let fold = c.args.fold in
    let i = length c.loop-c.yielded in
    let k = length text - i in
    let turn = YieldsList-turn
    (YieldsList-from_chars c.args.text.now c.utf8.text cc) c.loop-c.yielded _ c.loop-c.yielded_by _ _ c.in-Some.c c.in-Some.is
    c.next.ensures.steps in
    let end : later fold nodes text k i ≡ length text = omega (arith, later-sum fold nodes text k i, turn.0) in
    let none : (q : ℕ) → Marked fold nodes text i q → ⊥ = λ q m. c.if-is_clear.ensures refl q ((c.loop-c.invariant.flags.flagged q).1 m) in
    let last = length c.args.nodes.now in
    let P : ℕ → Type 0 = λ o. Marked fold nodes text o last in
    (λ t. absurd (cc t), λ m. absurd (none_later fold nodes text k i none last (subst P (sym end) m)))

pub returns-then-is_clear-clause-count : goal.returns-then-is_clear-clause-count
returns-then-is_clear-clause-count c =
    let nodes = nodes_view c.args.nodes.now in
    let text = chars c.args.text.now in
    let fold = c.args.fold in
    let i = length c.loop-c.yielded in
    let k = length text - i in
    let turn = YieldsList-turn
    (YieldsList-from_chars c.args.text.now c.utf8.text cc) c.loop-c.yielded _ c.loop-c.yielded_by _ _ c.in-Some.c c.in-Some.is
    c.next.ensures.steps in
    let end : later fold nodes text k i ≡ length text = omega (arith, later-sum fold nodes text k i, turn.0) in
    let flags = c.loop-c.invariant.flags in
    let clear : (q : ℕ) → IsFlagged c.loop-c.here.all.items q → ⊥ = λ q f. c.if-is_clear.ensures refl q f in
    let none : (q : ℕ) → Marked fold nodes text i q → ⊥ = λ q m. clear q ((flags.flagged q).1 m) in
    let n = c.loop-c.invariant.count.0 in
    let Q : ℕ → Type 0 = λ o. Count fold nodes text o n in (
      n,
      subst Q end (count_later fold nodes text c.loop-c.here.all.items flags.len clear k i n none c.loop-c.invariant.count.1),
      c.loop-c.invariant.count.2,
    )
