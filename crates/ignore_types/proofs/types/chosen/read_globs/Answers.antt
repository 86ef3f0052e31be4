-- Each glob is read in its turn, up to the first invalid one.
use Rattle.std.proofs.Common.{◌≡◌, ◌+◌, ◌++◌, ◌∷◌, [], suc, map, take, drop, string_bytes, sym, subst, inl, inr}
use Rattle.std.specs.List.{AllZip}
use Rattle.std.proofs.lemmas.Result.{err_from_is_err_and}
use Rattle.ignore_base.specs.Problem.{problem_of}
use Rattle.ignore_types.specs.Building.{IsReadAs, IsGlobProblem}
use Rattle.ignore_types.proofs.ChoiceLemmas.{split-map, map-take-push, AllZip-push}
use Rattle.ignore_types.proofs.types.chosen.read_globs.Goals as goal

pub returns-in_err-glob-clause-refused : goal.returns-in_err-glob-clause-refused
returns-in_err-glob-clause-refused c =
    let p = err_from_is_err_and c.from_residual.result c.from_residual.ensures.1 in
    rw (p.1, p.2) (elim c.in_err-glob.ensures.refused [
      | inl memory ↦ inl memory
      | inr fault ↦ inr (record {
        before = map string_bytes (take c.loop-glob.glob-index c.args.globs.now);
        goods = c.loop-glob.all.items;
        bad = string_bytes c.glob-item.result;
        after = map string_bytes (drop (suc c.loop-glob.glob-index) c.args.globs.now);
        split = split-map string_bytes c.args.globs.now c.loop-glob.glob-index c.glob-item.result c.loop-glob-test.true c.glob-item.is;
        good = c.loop-glob.invariant;
        fails = subst (IsGlobProblem (problem_of c.in_err-glob.field-0.0)) c.as_str.ensures.value fault;
      })
    ])

pub loop-glob-preserved : goal.loop-glob-preserved
loop-glob-preserved c =
    let i = c.loop-glob.glob-index in
    let item = c.glob-item.result in
    let more : map string_bytes (take (i + 1) c.args.globs.now)
    ≡ map string_bytes (take i c.args.globs.now)
    ++ string_bytes item ∷ [] = map-take-push string_bytes c.args.globs.now i item c.loop-glob-test.true c.glob-item.is in
    let read : IsReadAs (string_bytes item) c.in_ok-glob.glob = subst
    (λ t. IsReadAs t c.in_ok-glob.glob) c.as_str.ensures.value c.in_ok-glob.ensures.read in
    let items : c.push.new.self.items ≡ c.loop-glob.all.items ++ c.in_ok-glob.glob ∷ [] = c.in_ok-push.ensures.items in
    subst (λ l. AllZip IsReadAs l c.push.new.self.items) (sym more)
    (subst (λ l. AllZip IsReadAs (map string_bytes (take i c.args.globs.now) ++ string_bytes item ∷ []) l) (sym items)
    (AllZip-push IsReadAs (map string_bytes (take i c.args.globs.now)) c.loop-glob.all.items
    (string_bytes item) c.in_ok-glob.glob c.loop-glob.invariant read))
