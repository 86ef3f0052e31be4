use Rattle.std.proofs.Common.{rules, ◌≡◌, ◌<◌, ◌^◌, ◌-◌, ◌++◌, ◌∷◌, [], ◌↔◌, ℕ, suc, arith, refl, sym, subst, length}
use Rattle.std.proofs.lemmas.Iterator.{YieldsList-from_chars}
use Rattle.std.proofs.lemmas.Iterator.Consumers.{YieldsList-turn, YieldsList-end}
use Rattle.std.proofs.lemmas.List.{length_push, length-map}
use Rattle.std.specs.Prelude.{bit_and}
use Rattle.std.proofs.lemmas.Option.{slice_get_read}
use Rattle.std.specs.Str.{chars}
use Rattle.ignore_glob.specs.Nodes.{Marked}
use Rattle.ignore_glob.specs.NodeLists.{node_view, nodes_view}
use Rattle.ignore_glob.specs.Words.{Has}
use Rattle.ignore_glob.proofs.MarkSteps.{marked_past, later, later-sum, none_later}
use Rattle.ignore_glob.proofs.WordBits.{has_none, has_and, lowest, lowest_there}
use Rattle.ignore_glob.proofs.WordLemmas.{fits, free_small, start_small}
use Rattle.ignore_glob.proofs.WordCertain.{certain}
use Rattle.ignore_glob.proofs.WordClosing.{first_marks}
use Rattle.ignore_glob.proofs.glob.word.Masks.matches.Goals as goal

pub close-here-requires-clause-free : goal.close-here-requires-clause-free
close-here-requires-clause-free c = free_small (nodes_view c.args.nodes.now) c.args.self c.requires.word

pub close-here-requires-clause-starts : goal.close-here-requires-clause-starts
close-here-requires-clause-starts c = start_small (nodes_view c.args.nodes.now) c.args.self c.requires.word

pub loop-c-init : goal.loop-c-init
loop-c-init c = record {
  continues = (tt, tt);
  marks = first_marks c.args.fold (nodes_view c.args.nodes.now) c.args.self
      (chars c.args.text.now) c.close-here.result c.requires.word c.close-here.ensures;
}

pub loop-c-preserved : goal.loop-c-preserved
loop-c-preserved c =
    let nodes = nodes_view c.args.nodes.now in
    let text = chars c.args.text.now in
    let fold = c.args.fold in
    let i = length c.loop-c.yielded in
    let turn = YieldsList-turn
    (YieldsList-from_chars c.args.text.now c.utf8.text cc) c.loop-c.yielded _ c.loop-c.yielded_by _ _ c.in-Some.c c.in-Some.is
    c.next.ensures.steps in
    let at = slice_get_read text (length text) i _ refl turn.0 turn.1 in
    let one_more : suc i ≡ length (c.loop-c.yielded ++ c.in-Some.c ∷ []) = omega (arith, length_push c.loop-c.yielded c.in-Some.c) in
    let next = c.advance-here.result in
    let past = marked_past fold nodes text (Has c.loop-c.here)
    (Has next) i c.in-Some.c c.loop-c.invariant.marks at c.advance-here.ensures in
    let P : ℕ → Type 0 = λ o. (q : ℕ) → Has next q ↔ Marked fold nodes text o q in
    record { continues = (tt, tt); marks = subst P one_more past }

pub returns : goal.returns
returns c =
    let nodes = nodes_view c.args.nodes.now in
    let text = chars c.args.text.now in
    let ended = YieldsList-end
    (YieldsList-from_chars c.args.text.now c.utf8.text cc) c.loop-c.yielded _ c.loop-c.yielded_by _ _ c.in-None.is c.next.ensures.steps in
    let P : ℕ → Type 0 = λ o. (q : ℕ) → Has c.loop-c.here q ↔ Marked c.args.fold nodes text o q in
    let marks = subst P ended.1 c.loop-c.invariant.marks in
    let both = marks (length c.args.nodes.now) in
    (λ t. both.0 (c.has.ensures.0 t), λ m. c.has.ensures.1 (both.1 m))

pub returns-then-here-eq0 : goal.returns-then-here-eq0
returns-then-here-eq0 c =
    let nodes = nodes_view c.args.nodes.now in
    let text = chars c.args.text.now in
    let fold = c.args.fold in
    let i = length c.loop-c.yielded in
    let k = length text - i in
    let turn = YieldsList-turn
    (YieldsList-from_chars c.args.text.now c.utf8.text cc) c.loop-c.yielded _ c.loop-c.yielded_by _ _ c.in-Some.c c.in-Some.is
    c.next.ensures.steps in
    let end : later fold nodes text k i ≡ length text = omega (arith, later-sum fold nodes text k i, turn.0) in
    let zero : c.loop-c.here ≡ 0 = c.if-here-eq0.true in
    let none : (q : ℕ) → Marked fold nodes text i q → ⊥ =
    λ q m. has_none q (subst (λ (w : ℕ). Has w q) zero ((c.loop-c.invariant.marks q).1 m)) in
    let last = length c.args.nodes.now in
    let P : ℕ → Type 0 = λ o. Marked fold nodes text o last in
    (λ t. absurd (cc t), λ m. absurd (none_later fold nodes text k i none last (subst P (sym end) m)))

pub matches_all-all-requires : goal.matches_all-all-requires
matches_all-all-requires c =
    let short = (fits (nodes_view c.args.nodes.now) c.args.self c.requires.word).short in
    omega (arith, short, length-map c.args.nodes.now node_view)

pub returns-then-here-all-ne0 : goal.returns-then-here-all-ne0
returns-then-here-all-ne0 c =
    let nodes = nodes_view c.args.nodes.now in
    let m = c.args.self in
    let text = chars c.args.text.now in
    let i = length c.loop-c.yielded in
    let turn = YieldsList-turn
    (YieldsList-from_chars c.args.text.now c.utf8.text cc) c.loop-c.yielded _ c.loop-c.yielded_by _ _ c.in-Some.c c.in-Some.is
    c.next.ensures.steps in
    let both : ℕ = bit_and c.loop-c.here c.matches_all-all.result in
    let p = lowest both in
    let fits : both < 2 ^ 64 = search rules in
    let there = (has_and c.loop-c.here c.matches_all-all.result p).0 (lowest_there both (omega (arith, c.if-here-all-ne0.true)) fits) in
    let known = c.matches_all-all.ensures p there.1 in
    let long = length-map c.args.nodes.now node_view in
    let last = certain c.args.fold nodes text m c.requires.word p i known.0 known.1 (omega (arith, known.2, long)) (omega (arith, turn.0))
    ((c.loop-c.invariant.marks p).0 there.0) in
    ((λ _. subst (λ (q : ℕ). Marked c.args.fold nodes text (length text) q) long last), (λ _. refl))
