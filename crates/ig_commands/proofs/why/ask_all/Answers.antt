use Rattle.std.proofs.Common.{◌≡◌, ◌∙◌, ℕ, ◌+◌, ◌∷◌, ◌++◌, [], List, ap, drop, refl, string_bytes, subst, sym, take, take-append-drop}
use Rattle.std.proofs.lemmas.List.{take_all, take_more}
use Rattle.std.proofs.lemmas.Result.{err_from_is_err_and}
use Rattle.std.specs.Io.KnownBytes.{Appends}
use Rattle.std.specs.List.{flat_map}
use Rattle.commands.proofs.LineLemmas.{appends_nothing}
use Rattle.ignore_dir.specs.Load.{AreLoads, Loaded}
use Rattle.ignore_files.specs.Gives.{IsHonest}
use Rattle.ignore_files.specs.Tree.{Tree}
use Rattle.ignore_query.specs.Agrees.{Agrees}
use Rattle.ignore_query.specs.Reached.{dir_of, scene_of}
use Rattle.ignore_query.specs.declared.asked.Asked.{Asked}
use Rattle.ig_options.specs.declared.given.Given.{Given}
use Rattle.ig_commands.specs.Why.{AreSaid, IsSaid, Said, is_found, is_wrong, reports, said_of, written}
use Rattle.ig_commands.proofs.StopLemmas.{ends_after}
use Rattle.ig_commands.proofs.TurnLemmas.{counts_more, text_more}
use Rattle.ig_commands.proofs.WhyLemmas.{said_more}
use Rattle.ig_commands.proofs.why.ask_all.Goals as goal

pub loop-given-init : goal.loop-given-init
loop-given-init g c = record {
  answers = (
    [],
    appends_nothing (g.W.Output.contents c.args.out.now),
    appends_nothing (g.E.Write.contents c.args.err.now),
    c.begun-counts.ensures.reported,
    c.begun-counts.ensures.found,
    λ tree loads honest are agrees. refl,
  );
  agrees = λ tree loads honest are agrees. agrees;
  same = refl;
}

-- the matcher asks about the same as at first
pub loop-given-preserved : goal.loop-given-preserved
loop-given-preserved g c =
    let l = c.loop-given in
    let first = c.args.matcher.now in
    let so = l.invariant.answers in
    let given : Given = c.given-item.result in
    let one : Said = said_of c.in_ok-said.said in
    let all = c.deref-given-items.result.now in
    let root : c.root.result.now ≡ string_bytes first.asked.root =
    c.root.ensures ∙ ap (λ (a : Asked). string_bytes a.root) (c.in_ok-said.ensures.same ∙ l.invariant.same) in
    let asked = subst
    (λ (a : Asked). (tree : Tree) (loads : List ℕ → Loaded) → IsHonest g.F.Files c.args.world.now.files.now tree
    → AreLoads tree a.settings loads → Agrees (scene_of a tree loads) l.matcher.cache
    → IsSaid (scene_of a tree loads) (dir_of a) given l.matcher.cache c.ask.new.matcher.cache one) l.invariant.same
    c.in_ok-said.ensures.said in
    let keeps = subst
    (λ (a : Asked). (tree : Tree) (loads : List ℕ → Loaded) → IsHonest g.F.Files c.args.world.now.files.now tree
    → AreLoads tree a.settings loads → Agrees (scene_of a tree loads) l.matcher.cache
    → Agrees (scene_of a tree loads) c.ask.new.matcher.cache) l.invariant.same c.in_ok-said.ensures.agrees in
    let more : take (l.given-index + 1) all ≡ take l.given-index all ++ given ∷ [] =
    take_more all l.given-index given c.loop-given-test.true
    ∙ ap (λ x. take l.given-index all ++ x ∷ []) (sym c.given-item.is) in
    record {
      answers = (
        so.0 ++ one ∷ [],
        text_more (written c.args.options.now (string_bytes first.asked.root)) so.0 one _ _ _ so.1
            (subst (λ r. Appends (g.W.Output.contents l.out) (g.W.Output.contents c.write_said.new.out) (written c.args.options.now r one)) root
            c.in_ok-write_said.ensures.writes),
        text_more (reports c.args.options.now (string_bytes first.asked.root)) so.0 one _ _ _ so.2
            (subst (λ r. Appends (g.E.Write.contents l.err) (g.E.Write.contents c.write_said.new.err) (reports c.args.options.now r one)) root
            c.in_ok-write_said.ensures.reports),
        counts_more (is_wrong c.args.options.now) so.0 one _ _ _ so.3 c.with-counts.ensures.reported c.in_ok-write_said.ensures.reported,
        counts_more is_found so.0 one _ _ _ so.4 c.with-counts.ensures.found c.in_ok-write_said.ensures.found,
        λ tree loads honest are agrees.
            let s = scene_of first.asked tree loads in
            subst (λ (gs : List Given). AreSaid s (dir_of first.asked) gs first.cache c.ask.new.matcher.cache (so.0 ++ one ∷ [])) (sym more)
            (said_more s (dir_of first.asked) (take l.given-index all) given first.cache l.matcher.cache c.ask.new.matcher.cache so.0 one
            (so.5 tree loads honest are agrees) (asked tree loads honest are (l.invariant.agrees tree loads honest are agrees))),
      );
      agrees = λ tree loads honest are agrees. keeps tree loads honest are (l.invariant.agrees tree loads honest are agrees);
      same = c.in_ok-said.ensures.same ∙ l.invariant.same;
    }

pub returns-clause-answers : goal.returns-clause-answers
returns-clause-answers g c =
    let l = c.loop-given in
    let first = c.args.matcher.now in
    let so = l.invariant.answers in (
      so.0,
      so.1,
      so.2,
      so.3,
      so.4,
      λ tree loads honest are agrees.
          subst (λ (gs : List Given). AreSaid (scene_of first.asked tree loads) (dir_of first.asked) gs first.cache l.matcher.cache so.0)
          (take_all l.given-index c.deref-given-items.result.now c.loop-given-test.false ∙ c.deref-given-items.ensures.value) (so.5 tree loads honest are agrees),
    )

-- the paths before the one that ended it are answered
pub returns-in_err-said-clause-ended : goal.returns-in_err-said-clause-ended
returns-in_err-said-clause-ended g c =
    let l = c.loop-given in
    let so = l.invariant.answers in
    let all = c.deref-given-items.result.now in
    let p = err_from_is_err_and c.from_residual.result c.from_residual.ensures.1 in
    rw (p.1, p.2, c.in_err-said.ensures.ended) (
      so.0,
      take l.given-index all,
      drop l.given-index all,
      l.matcher.cache,
      (so.1, so.2),
      sym c.deref-given-items.ensures.value ∙ sym (take-append-drop l.given-index all),
      so.5,
    )

pub returns-in_err-write_said-clause-ended : goal.returns-in_err-write_said-clause-ended
returns-in_err-write_said-clause-ended g c =
    let l = c.loop-given in
    let root = string_bytes c.args.matcher.now.asked.root in
    let so = l.invariant.answers in
    let all = c.deref-given-items.result.now in
    let p = err_from_is_err_and c.from_residual-in_err-write_said.result c.from_residual-in_err-write_said.ensures.1 in
    rw (p.1, p.2) (
      so.0,
      take l.given-index all,
      drop l.given-index all,
      l.matcher.cache,
      ends_after (flat_map (written c.args.options.now root) so.0) (flat_map (reports c.args.options.now root) so.0)
          (g.W.Output.contents c.args.out.now) (g.W.Output.contents l.out) (g.W.Output.contents c.write_said.new.out)
          (g.E.Write.contents c.args.err.now) (g.E.Write.contents l.err) (g.E.Write.contents c.write_said.new.err)
          c.in_err-write_said.field-0.0 so.1 so.2 c.in_err-write_said.ensures.ended,
      sym c.deref-given-items.ensures.value ∙ sym (take-append-drop l.given-index all),
      so.5,
    )
