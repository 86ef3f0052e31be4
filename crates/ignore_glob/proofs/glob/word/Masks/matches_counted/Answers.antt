use Rattle.std.proofs.Common.{rules, ◌≡◌, ◌<◌, ◌^◌, ◌+◌, ◌-◌, ◌++◌, ◌∷◌, [], ◌↔◌, ℕ, suc, arith, refl, sym, subst, length}
use Rattle.std.specs.Prelude.{count_ones}
use Rattle.std.proofs.lemmas.Nat.{ones_le_self}
use Rattle.std.proofs.lemmas.Iterator.{YieldsList-from_chars}
use Rattle.std.proofs.lemmas.Iterator.Consumers.{YieldsList-turn, YieldsList-end}
use Rattle.std.proofs.lemmas.List.{length_push}
use Rattle.std.proofs.lemmas.Option.{slice_get_read}
use Rattle.std.specs.Str.{chars}
use Rattle.ignore_glob.specs.Nodes.{Marked}
use Rattle.ignore_glob.specs.Flags.{IsFlagged, Count}
use Rattle.ignore_glob.specs.NodeLists.{nodes_view}
use Rattle.ignore_glob.specs.Words.{Has}
use Rattle.ignore_glob.proofs.MarkSteps.{marked_past, later, later-sum, none_later, count_later}
use Rattle.ignore_glob.proofs.WordBits.{has_none, flags_of, flags_of-length, flag_has}
use Rattle.ignore_glob.proofs.WordLemmas.{free_small, start_small}
use Rattle.ignore_glob.proofs.WordClosing.{first_marks, word_count}
use Rattle.ignore_glob.proofs.glob.word.Masks.matches_counted.Goals as goal

pub close-here-requires-clause-free : goal.close-here-requires-clause-free
close-here-requires-clause-free c = free_small (nodes_view c.args.nodes.now) c.args.self c.requires.word

pub close-here-requires-clause-starts : goal.close-here-requires-clause-starts
close-here-requires-clause-starts c = start_small (nodes_view c.args.nodes.now) c.args.self c.requires.word

pub loop-c-init : goal.loop-c-init
loop-c-init c = record {
  continues = (tt, tt);
  marks = first_marks c.args.fold (nodes_view c.args.nodes.now) c.args.self
      (chars c.args.text.now) c.close-here.result c.requires.word c.close-here.ensures;
  count =
      let nodes = nodes_view c.args.nodes.now in
      let text = chars c.args.text.now in
      let word = c.close-here.result in
      let marks = first_marks c.args.fold nodes c.args.self text word c.requires.word c.close-here.ensures in
      let fits : word < 2 ^ 64 = search rules in
      let some = ones_le_self word in (
        count_ones word,
        word_count c.args.fold nodes text c.requires.on 0 word marks,
        omega (arith, c.from-count.ensures, some, fits),
      );
}

pub loop-c-preserved : goal.loop-c-preserved
loop-c-preserved c =
    let nodes = nodes_view c.args.nodes.now in
    let text = chars c.args.text.now in
    let fold = c.args.fold in
    let i = length c.loop-c.yielded in
    let turn = YieldsList-turn
    (YieldsList-from_chars c.args.text.now c.utf8.text cc) c.loop-c.yielded _ c.loop-c.yielded_by _ _ c.in-Some.c c.in-Some.is
    c.next.ensures.steps in
    let at = slice_get_read text (length text) i _ refl turn.0 turn.1 in
    let one_more : suc i ≡ length (c.loop-c.yielded ++ c.in-Some.c ∷ []) = omega (arith, length_push c.loop-c.yielded c.in-Some.c) in
    let next = c.advance-here.result in
    let past = marked_past fold nodes text (Has c.loop-c.here)
    (Has next) i c.in-Some.c c.loop-c.invariant.marks at c.advance-here.ensures in
    let P : ℕ → Type 0 = λ o. (q : ℕ) → Has next q ↔ Marked fold nodes text o q in
    let n = c.loop-c.invariant.count.0 in
    let m = n + count_ones next in
    let Q : ℕ → Type 0 = λ o. Count fold nodes text o m in
    record {
      continues = (tt, tt);
      marks = subst P one_more past;
      count = (
        m,
        subst Q one_more (n, count_ones next, c.loop-c.invariant.count.1, word_count fold nodes text c.requires.on (suc i) next past, refl),
        omega (arith, c.from.ensures, c.saturating_add-count.ensures, c.loop-c.invariant.count.2),
      );
    }

pub returns-clause-matched : goal.returns-clause-matched
returns-clause-matched c =
    let nodes = nodes_view c.args.nodes.now in
    let text = chars c.args.text.now in
    let ended = YieldsList-end
    (YieldsList-from_chars c.args.text.now c.utf8.text cc) c.loop-c.yielded _ c.loop-c.yielded_by _ _ c.in-None.is c.next.ensures.steps in
    let P : ℕ → Type 0 = λ o. (q : ℕ) → Has c.loop-c.here q ↔ Marked c.args.fold nodes text o q in
    let marks = subst P ended.1 c.loop-c.invariant.marks in
    let both = marks (length c.args.nodes.now) in
    (λ t. both.0 (c.has.ensures.0 t), λ m. c.has.ensures.1 (both.1 m))

pub returns-then-here-eq0-clause-matched : goal.returns-then-here-eq0-clause-matched
returns-then-here-eq0-clause-matched c =
    let nodes = nodes_view c.args.nodes.now in
    let text = chars c.args.text.now in
    let fold = c.args.fold in
    let i = length c.loop-c.yielded in
    let k = length text - i in
    let turn = YieldsList-turn
    (YieldsList-from_chars c.args.text.now c.utf8.text cc) c.loop-c.yielded _ c.loop-c.yielded_by _ _ c.in-Some.c c.in-Some.is
    c.next.ensures.steps in
    let end : later fold nodes text k i ≡ length text = omega (arith, later-sum fold nodes text k i, turn.0) in
    let zero : c.loop-c.here ≡ 0 = c.if-here-eq0.true in
    let none : (q : ℕ) → Marked fold nodes text i q → ⊥ =
    λ q m. has_none q (subst (λ (w : ℕ). Has w q) zero ((c.loop-c.invariant.marks q).1 m)) in
    let last = length c.args.nodes.now in
    let P : ℕ → Type 0 = λ o. Marked fold nodes text o last in
    (λ t. absurd (cc t), λ m. absurd (none_later fold nodes text k i none last (subst P (sym end) m)))

pub returns-clause-count : goal.returns-clause-count
returns-clause-count c =
    let nodes = nodes_view c.args.nodes.now in
    let text = chars c.args.text.now in
    let ended = YieldsList-end
    (YieldsList-from_chars c.args.text.now c.utf8.text cc) c.loop-c.yielded _ c.loop-c.yielded_by _ _ c.in-None.is c.next.ensures.steps in
    let n = c.loop-c.invariant.count.0 in
    let Q : ℕ → Type 0 = λ o. Count c.args.fold nodes text o n in
    (n, subst Q ended.1 c.loop-c.invariant.count.1, c.loop-c.invariant.count.2)

pub returns-then-here-eq0-clause-count : goal.returns-then-here-eq0-clause-count
returns-then-here-eq0-clause-count c =
    let nodes = nodes_view c.args.nodes.now in
    let text = chars c.args.text.now in
    let fold = c.args.fold in
    let i = length c.loop-c.yielded in
    let k = length text - i in
    let turn = YieldsList-turn
    (YieldsList-from_chars c.args.text.now c.utf8.text cc) c.loop-c.yielded _ c.loop-c.yielded_by _ _ c.in-Some.c c.in-Some.is
    c.next.ensures.steps in
    let end : later fold nodes text k i ≡ length text = omega (arith, later-sum fold nodes text k i, turn.0) in
    let zero : c.loop-c.here ≡ 0 = c.if-here-eq0.true in
    let none : (q : ℕ) → Marked fold nodes text i q → ⊥ =
    λ q m. has_none q (subst (λ (w : ℕ). Has w q) zero ((c.loop-c.invariant.marks q).1 m)) in
    let flags = flags_of (length nodes + 1) 0 in
    let clear : (q : ℕ) → IsFlagged flags q → ⊥ = λ q f. has_none q (flag_has (length nodes + 1) 0 q f) in
    let n = c.loop-c.invariant.count.0 in
    let Q : ℕ → Type 0 = λ o. Count fold nodes text o n in (
      n,
      subst Q end (count_later fold nodes text flags (flags_of-length (length nodes + 1) 0) clear k i n none c.loop-c.invariant.count.1),
      c.loop-c.invariant.count.2,
    )
