use Rattle.std.proofs.Common.{◌≡◌, ◌∙◌, ℕ, ◌+◌, ◌∷◌, ◌++◌, [], Bool, List, ap, cond, inl, refl, rules, string_bytes, subst, sym}
use Rattle.std.proofs.lemmas.Result.{err_from_is_err_and}
use Rattle.std.specs.Io.Iter.{split_known_bytes}
use Rattle.std.specs.Io.KnownBytes.{Appends}
use Rattle.std.specs.List.{flat_map}
use Rattle.commands.proofs.LineLemmas.{appends_nothing}
use Rattle.commands.proofs.WriteLemmas.{appends_kept}
use Rattle.ignore_dir.specs.Load.{AreLoads, Loaded}
use Rattle.ignore_files.specs.Gives.{IsHonest}
use Rattle.ignore_files.specs.Tree.{Tree}
use Rattle.ignore_query.specs.Agrees.{Agrees}
use Rattle.ignore_query.specs.Reached.{dir_of, scene_of}
use Rattle.ignore_query.specs.declared.asked.Asked.{Asked}
use Rattle.ig_commands.specs.Counts.{capped}
use Rattle.ig_commands.specs.Input.{end_byte}
use Rattle.ig_commands.specs.Why.{IsSaid, is_found, is_wrong, reports, written}
use Rattle.ig_commands.proofs.InputLemmas.{known_all, known_first, known_more, known_none}
use Rattle.ig_commands.proofs.StopLemmas.{ends_after, ends_read, ends_unwritten}
use Rattle.ig_commands.proofs.TurnLemmas.{counts_more, text_more}
use Rattle.ig_commands.proofs.WhyLemmas.{said_more}
use Rattle.ig_commands.proofs.input.answer_all.Goals as goal
use Rattle.ig_commands.proofs.input.answer_all.Goals.{then-asking, else-asking}

pub loop-text-init : goal.loop-text-init
loop-text-init g c =
    let o = c.args.asking.now.options.now in
    let end : c.if-asking.end ≡ end_byte o =
    elim c.if-asking.branch [
      | then-asking w ↦ w.end-is ∙ sym (ap (λ (b : Bool). cond b 0 10) w.if-asking.true)
      | else-asking w ↦ w.end-is ∙ sym (ap (λ (b : Bool). cond b 0 10) w.if-asking.false)
    ] in
    let same = c.into_iter-text-iterator.ensures.into_iter_gives in
    record {
      can = search rules;
      ends = search rules;
      byte = rw same (c.split-text-items.ensures.byte ∙ end);
      answers = (
        [],
        [],
        known_none o [] (g.R.Read.remaining c.args.input) (split_known_bytes g.R.Read.remaining c.into_iter-text-iterator.result)
            (ap (split_known_bytes g.R.Read.remaining) same ∙ c.split-text-items.ensures.bytes),
        appends_nothing (g.W.Output.contents c.args.out.now),
        appends_nothing (g.E.Write.contents c.args.err.now),
        c.begun-counts.ensures.reported,
        c.begun-counts.ensures.found,
        λ tree loads honest are agrees. (refl, agrees),
      );
      same = refl;
    }

pub loop-text-preserved : goal.loop-text-preserved
loop-text-preserved g c =
    let o = c.args.asking.now.options.now in
    let l = c.loop-text in
    let first = c.args.matcher.now in
    let root = string_bytes first.asked.root in
    let so = l.invariant.answers in
    let a = c.in_ok-seen.ensures.answers in
    let step = rw (c.in-Some.is, c.in-Ok.is) at c.next.ensures.steps.2 in
    let n : c.saturating_add-number.result ≡ capped (l.number + 1) = search rules in
    let at_root : string_bytes l.matcher.asked.root ≡ root = ap (λ (x : Asked). string_bytes x.root) l.invariant.same in
    let asked = subst
    (λ (x : Asked). (tree : Tree) (loads : List ℕ → Loaded) → IsHonest g.F.Files c.args.asking.now.world.now.files.now tree
    → AreLoads tree x.settings loads → Agrees (scene_of x tree loads) l.matcher.cache
    → IsSaid (scene_of x tree loads) (dir_of x) a.0 l.matcher.cache c.answer.new.matcher.cache a.1
    × Agrees (scene_of x tree loads) c.answer.new.matcher.cache) l.invariant.same a.7 in
    record {
      can = search rules;
      ends = search rules;
      byte = c.next.ensures.steps.1 ∙ l.invariant.byte;
      answers = (
        so.0 ++ a.0 ∷ [],
        so.1 ++ a.1 ∷ [],
        known_more o [] (g.R.Read.remaining c.args.input) (split_known_bytes g.R.Read.remaining l.text-iterator)
            (split_known_bytes g.R.Read.remaining c.next.new.self) _ l.number c.saturating_add-number.result c.in-Ok.text.items
            so.0 (so.0 ++ a.0 ∷ []) a.0 l.invariant.byte so.2 step n a.2 refl,
        appends_kept _ _ _ _ (text_more (written o root) so.1 a.1 _ _ _ so.3
            (subst (λ r. Appends (g.W.Output.contents l.out) (g.W.Output.contents c.answer.new.out) (written o r a.1)) at_root a.3)) c.flush.ensures.written,
        text_more (reports c.args.asking.now.options.now root) so.1 a.1 _ _ _ so.4
            (subst (λ r. Appends (g.E.Write.contents l.err) (g.E.Write.contents c.answer.new.err) (reports c.args.asking.now.options.now r a.1)) at_root a.4),
        counts_more (is_wrong c.args.asking.now.options.now) so.1 a.1 _ _ _ so.5 c.with-counts.ensures.reported a.5,
        counts_more is_found so.1 a.1 _ _ _ so.6 c.with-counts.ensures.found a.6,
        λ tree loads honest are agrees.
            let s = scene_of first.asked tree loads in
            let before = so.7 tree loads honest are agrees in
            let one = asked tree loads honest are before.1 in
            (said_more s (dir_of first.asked) so.0 a.0 first.cache l.matcher.cache c.answer.new.matcher.cache so.1 a.1 before.0 one.0, one.1),
      );
      same = c.answer.ensures.same ∙ l.invariant.same;
    }

pub returns-clause-answers : goal.returns-clause-answers
returns-clause-answers g c =
    let l = c.loop-text in
    let so = l.invariant.answers in (
      so.0,
      so.1,
      known_all c.args.asking.now.options.now (g.R.Read.remaining c.args.input) (split_known_bytes g.R.Read.remaining l.text-iterator) l.number so.0
          so.2 (rw c.in-None.is at c.next.ensures.steps.2),
      so.3,
      so.4,
      so.5,
      so.6,
      λ tree loads honest are agrees. (so.7 tree loads honest are agrees).0,
    )

-- standard input can't be read any more
pub returns-in-Err-clause-ended : goal.returns-in-Err-clause-ended
returns-in-Err-clause-ended g c =
    let l = c.loop-text in
    let so = l.invariant.answers in
    let root = string_bytes c.args.matcher.now.asked.root in (
      so.0,
      so.1,
      l.matcher.cache,
      known_first c.args.asking.now.options.now (g.R.Read.remaining c.args.input) (split_known_bytes g.R.Read.remaining l.text-iterator) l.number so.0 so.2,
      ends_read _ _ (Appends (g.W.Output.contents c.args.out.now) (g.W.Output.contents l.out)) (Appends (g.E.Write.contents c.args.err.now) (g.E.Write.contents l.err))
          c.read_stop.result c.read_stop.ensures.ended so.3 so.4,
      λ tree loads honest are agrees. (so.7 tree loads honest are agrees).0,
    )

-- the paths before the one that ended it are answered
pub returns-in_err-seen-clause-ended : goal.returns-in_err-seen-clause-ended
returns-in_err-seen-clause-ended g c =
    let l = c.loop-text in
    let so = l.invariant.answers in
    let root = string_bytes c.args.matcher.now.asked.root in
    let p = err_from_is_err_and c.from_residual.result c.from_residual.ensures.1 in
    rw (p.1, p.2) (
      so.0,
      so.1,
      l.matcher.cache,
      known_first c.args.asking.now.options.now (g.R.Read.remaining c.args.input) (split_known_bytes g.R.Read.remaining l.text-iterator) l.number so.0 so.2,
      inl (ends_after (flat_map (written c.args.asking.now.options.now root) so.1) (flat_map (reports c.args.asking.now.options.now root) so.1)
          (g.W.Output.contents c.args.out.now) (g.W.Output.contents l.out) (g.W.Output.contents c.answer.new.out)
          (g.E.Write.contents c.args.err.now) (g.E.Write.contents l.err) (g.E.Write.contents c.answer.new.err)
          c.in_err-seen.field-0.0 so.3 so.4 c.in_err-seen.ensures.ended),
      λ tree loads honest are agrees. (so.7 tree loads honest are agrees).0,
    )

-- what is kept of the output can't be written
pub returns-in_err-flush-clause-ended : goal.returns-in_err-flush-clause-ended
returns-in_err-flush-clause-ended g c =
    let o = c.args.asking.now.options.now in
    let l = c.loop-text in
    let first = c.args.matcher.now in
    let root = string_bytes first.asked.root in
    let so = l.invariant.answers in
    let a = c.in_ok-seen.ensures.answers in
    let step = rw (c.in-Some.is, c.in-Ok.is) at c.next.ensures.steps.2 in
    let n : c.saturating_add-number.result ≡ capped (l.number + 1) = search rules in
    let at_root : string_bytes l.matcher.asked.root ≡ root = ap (λ (x : Asked). string_bytes x.root) l.invariant.same in
    let asked = subst
    (λ (x : Asked). (tree : Tree) (loads : List ℕ → Loaded) → IsHonest g.F.Files c.args.asking.now.world.now.files.now tree
    → AreLoads tree x.settings loads → Agrees (scene_of x tree loads) l.matcher.cache
    → IsSaid (scene_of x tree loads) (dir_of x) a.0 l.matcher.cache c.answer.new.matcher.cache a.1
    × Agrees (scene_of x tree loads) c.answer.new.matcher.cache) l.invariant.same a.7 in
    let known = known_more o [] (g.R.Read.remaining c.args.input) (split_known_bytes g.R.Read.remaining l.text-iterator)
    (split_known_bytes g.R.Read.remaining c.next.new.self) _ l.number c.saturating_add-number.result c.in-Ok.text.items
    so.0 (so.0 ++ a.0 ∷ []) a.0 l.invariant.byte so.2 step n a.2 refl in
    let p = err_from_is_err_and c.from_residual-in_err-flush.result c.from_residual-in_err-flush.ensures.1 in
    rw (p.1, p.2) (
      so.0 ++ a.0 ∷ [],
      so.1 ++ a.1 ∷ [],
      c.answer.new.matcher.cache,
      known_first o (g.R.Read.remaining c.args.input) (split_known_bytes g.R.Read.remaining c.next.new.self) c.saturating_add-number.result (so.0 ++ a.0 ∷ []) known,
      inl (ends_unwritten _ _ (Appends (g.W.Output.contents c.args.out.now) (g.W.Output.contents c.flush.new.out)) (Appends (g.E.Write.contents c.args.err.now) (g.E.Write.contents c.answer.new.err))
          c.in_err-flush.field-0.0 c.in_err-flush.ensures.ended
          (text_more (reports c.args.asking.now.options.now root) so.1 a.1 _ _ _ so.4
          (subst (λ r. Appends (g.E.Write.contents l.err) (g.E.Write.contents c.answer.new.err) (reports c.args.asking.now.options.now r a.1)) at_root a.4))),
      λ tree loads honest are agrees.
          let s = scene_of first.asked tree loads in
          let before = so.7 tree loads honest are agrees in
          said_more s (dir_of first.asked) so.0 a.0 first.cache l.matcher.cache c.answer.new.matcher.cache so.1 a.1 before.0 (asked tree loads honest are before.1).0,
    )
