use Rattle.std.proofs.Common.{◌≡◌, map, ℕ, [], List, Ok, Err, codes, refl, sym, ap, ◌∙◌, subst, IfOk, option_map, string_bytes}
use Rattle.std.proofs.lemmas.Result.{IfOk-weaker}
use Rattle.ignore_base.specs.Problem.{problem_of}
use Rattle.ignore_dir.specs.Above.{canonical_names, directories_along, dirs_above, problems_of_loads}
use Rattle.ignore_dir.specs.AboveBy.{AreNamesBy}
use Rattle.ignore_dir.specs.Chains.{placed_along}
use Rattle.ignore_dir.specs.LoadsBy.{as_answer, reads_of, stats_of}
use Rattle.ignore_dir.proofs.AboveByLemmas.{along-none}
use Rattle.ignore_dir.proofs.AboveLemmas.{answered-is, names_above-is}
use Rattle.ignore_dir.proofs.LoadsByLemmas.{answer-is}
use Rattle.ignore_dir.proofs.above.load_above.Goals as goal

pub returns-in_ok-names-in-Ok-clause-dirs : goal.returns-in_ok-names-in-Ok-clause-dirs
returns-in_ok-names-in-Ok-clause-dirs g c = λ tree loads honest are.
    let s = c.args.ground.now.settings.now in
    let is : map (λ n. n.now) c.as_slice.result.now ≡ canonical_names (Ok c.in-Ok.path) =
    ap (map (λ n. n.now)) c.as_slice.ensures.value ∙ (c.in_ok-names-in-Ok.ensures ∙ ap (λ p. canonical_names (Ok p)) c.as_str.ensures) in
    let path : tree.canonical c.args.root.now ≡ Ok c.in-Ok.path =
    answered-is (tree.canonical c.args.root.now) c.canonical.result _ (honest.canonical c.args.root.now c.canonical.result c.canonical.ensures)
    c.in_ok-path.ensures.answered ∙ c.in-Ok.is in
    let names = names_above-is tree s c.args.root.now c.in-Ok.path (map (λ n. n.now) c.as_slice.result.now)
    (sym c.needs_above.ensures ∙ c.if-not-needs_above.false) path is in
    subst (λ (ns : List (List ℕ)). IfOk c.load_along.result
    (λ a. a.dirs.items ≡ placed_along 1 (dirs_above loads s (directories_along (codes "/") ns)) ns)) names
    (c.load_along.ensures.dirs tree loads honest are)

pub returns-in_ok-names-in-Ok-clause-errors : goal.returns-in_ok-names-in-Ok-clause-errors
returns-in_ok-names-in-Ok-clause-errors g c = λ tree loads honest are.
    let s = c.args.ground.now.settings.now in
    let is : map (λ n. n.now) c.as_slice.result.now ≡ canonical_names (Ok c.in-Ok.path) =
    ap (map (λ n. n.now)) c.as_slice.ensures.value ∙ (c.in_ok-names-in-Ok.ensures ∙ ap (λ p. canonical_names (Ok p)) c.as_str.ensures) in
    let path : tree.canonical c.args.root.now ≡ Ok c.in-Ok.path =
    answered-is (tree.canonical c.args.root.now) c.canonical.result _ (honest.canonical c.args.root.now c.canonical.result c.canonical.ensures)
    c.in_ok-path.ensures.answered ∙ c.in-Ok.is in
    let names = names_above-is tree s c.args.root.now c.in-Ok.path (map (λ n. n.now) c.as_slice.result.now)
    (sym c.needs_above.ensures ∙ c.if-not-needs_above.false) path is in
    subst (λ (ns : List (List ℕ)). IfOk c.load_along.result
    (λ a. map (option_map problem_of) a.errors.items ≡ problems_of_loads loads (directories_along (codes "/") ns))) names
    (c.load_along.ensures.errors tree loads honest are)

pub returns-then-not-needs_above-clause-answered : goal.returns-then-not-needs_above-clause-answered
returns-then-not-needs_above-clause-answered g c =
    let files = c.args.ground.now.files.now in
    let s = c.args.ground.now.settings.now in
    let root = c.args.root.now in
    IfOk-weaker c.new.result _ _
    (λ a h. (
      [],
      subst (λ b. AreNamesBy b (λ answer. g.F.Files.canonical_gives files root (as_answer answer)) [])
          (sym (sym c.needs_above.ensures ∙ c.if-not-needs_above.true)) refl,
      along-none (stats_of g.F.Files files) (reads_of g.F.Files files) s a.dirs.items (string_bytes a.base)
          (map (option_map problem_of) a.errors.items) h.0 h.2 (ap (map (option_map problem_of)) h.1),
    ))
    c.new.ensures.value

pub returns-in-Err-clause-answered : goal.returns-in-Err-clause-answered
returns-in-Err-clause-answered g c =
    let files = c.args.ground.now.files.now in
    let s = c.args.ground.now.settings.now in
    let root = c.args.root.now in
    let gives = subst (g.F.Files.canonical_gives files root)
    (answer-is c.canonical.result _ c.in_ok-path.ensures.answered ∙ ap as_answer c.in-Err.is) c.canonical.ensures in
    IfOk-weaker c.new-in-Err.result _ _
    (λ a h. (
      [],
      subst (λ b. AreNamesBy b (λ answer. g.F.Files.canonical_gives files root (as_answer answer)) [])
          (sym (sym c.needs_above.ensures ∙ c.if-not-needs_above.false)) (Err c.in-Err.field-0, gives, refl),
      along-none (stats_of g.F.Files files) (reads_of g.F.Files files) s a.dirs.items (string_bytes a.base)
          (map (option_map problem_of) a.errors.items) h.0 h.2 (ap (map (option_map problem_of)) h.1),
    ))
    c.new-in-Err.ensures.value

pub returns-in_ok-names-in-Ok-clause-answered : goal.returns-in_ok-names-in-Ok-clause-answered
returns-in_ok-names-in-Ok-clause-answered g c =
    let files = c.args.ground.now.files.now in
    let root = c.args.root.now in
    let names = map (λ n. n.now) c.as_slice.result.now in
    let is : names ≡ canonical_names (Ok c.in-Ok.path) =
    ap (map (λ n. n.now)) c.as_slice.ensures.value ∙ (c.in_ok-names-in-Ok.ensures ∙ ap (λ p. canonical_names (Ok p)) c.as_str.ensures) in
    let gives = subst (g.F.Files.canonical_gives files root)
    (answer-is c.canonical.result _ c.in_ok-path.ensures.answered ∙ ap as_answer c.in-Ok.is) c.canonical.ensures in
    IfOk-weaker c.load_along.result _ _
    (λ a h. (
      names,
      subst (λ b. AreNamesBy b (λ answer. g.F.Files.canonical_gives files root (as_answer answer)) names)
          (sym (sym c.needs_above.ensures ∙ c.if-not-needs_above.false)) (Ok c.in-Ok.path, gives, is),
      h,
    ))
    c.load_along.ensures.answered
