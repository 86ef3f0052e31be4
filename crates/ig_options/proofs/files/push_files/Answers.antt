use Rattle.std.proofs.Common.{◌≡◌, List, ℕ, [], ◌∷◌, ◌++◌, Option, ◌∙◌, ap, map, option_map, refl, subst, sym}
use Rattle.std.proofs.lemmas.List.{append-nil}
use Rattle.ignore_base.specs.Problem.{Problem, problem_of}
use Rattle.ignore.specs.Asked.{base_dir}
use Rattle.ig_options.specs.Files.{AddsFiles, AddsFilesBy, explained}
use Rattle.ig_options.proofs.LoopLemmas.{file_by, files_by_done, files_by_more, files_done, files_more, here, one_more}
use Rattle.ig_options.proofs.files.push_files.Goals as goal

pub loop-path-init : goal.loop-path-init
loop-path-init g c = record {
  read = λ tree new rest honest h.
      let start = subst (λ (ts : List (List ℕ)). AddsFiles tree c.args.env.now ts c.args.walk.now new rest) c.as_slice-path-items.ensures h in
      subst (λ (ps : List (Option Problem)). AddsFiles tree c.args.env.now c.args.paths.now c.args.walk.now new ps)
      (sym (ap (λ es. map (option_map problem_of) es ++ rest) c.new-errors.ensures.items)) start;
  answered = λ new h.
      subst (λ (ts : List (List ℕ)). AddsFilesBy (g.F.Files.contents_gives c.args.files.now) c.args.env.now ts c.args.walk.now new)
      c.as_slice-path-items.ensures h;
}

pub loop-path-preserved : goal.loop-path-preserved
loop-path-preserved g c =
    let l = c.loop-path in
    let items = c.as_slice-path-items.result.now in
    let text = c.as_str.result.now in
    let next = c.add_ignore.new.self in
    let first = option_map problem_of c.in_ok-found.found in
    let error = c.in_ok-error.error in
    let at = here items l.path-index c.path-item.result text c.loop-path-test.true c.path-item.is c.as_str.ensures in
    record {
      read = λ tree new rest honest h.
          let told : option_map problem_of error ≡ explained tree text first =
          c.in_ok-error.ensures.value tree honest
          ∙ ap (λ (t : List ℕ). explained tree t first) (c.as_str-in-loop-path.ensures ∙ sym c.as_str.ensures) in
          let problems = ap (λ es. map (option_map problem_of) es ++ rest) c.in_ok-push.ensures.items
          ∙ (one_more (option_map problem_of) l.errors.items error rest
          ∙ ap (λ (p : Option Problem). map (option_map problem_of) l.errors.items ++ (p ∷ rest)) told) in
          subst (λ (ps : List (Option Problem)). AddsFiles tree c.args.env.now c.args.paths.now c.args.walk.now new ps)
          (sym problems)
          (l.invariant.read tree new (explained tree text first ∷ rest) honest
          (files_more tree c.args.env.now items l.path-index text l.walk next new first rest at (c.in_ok-found.ensures.read tree honest) h));
      answered = λ new h.
          let gives = g.F.Files.contents_gives c.args.files.now in
          let base = base_dir l.walk c.args.env.now in
          l.invariant.answered new
          (files_by_more gives c.args.env.now items l.path-index text l.walk next new at
          (file_by (gives text) text base base l.walk next first refl c.in_ok-found.ensures.answered (λ none. (c.in_ok-found.ensures.unknown none).1))
          h);
    }

pub returns-clause-read : goal.returns-clause-read
returns-clause-read g c = λ tree honest.
    let l = c.loop-path in
    subst (λ (ps : List (Option Problem)). AddsFiles tree c.args.env.now c.args.paths.now c.args.walk.now l.walk ps)
    (append-nil (map (option_map problem_of) l.errors.items))
    (l.invariant.read tree l.walk [] honest (files_done tree c.args.env.now c.as_slice-path-items.result.now l.path-index l.walk c.loop-path-test.false))

pub returns-clause-answered : goal.returns-clause-answered
returns-clause-answered g c =
    let l = c.loop-path in
    l.invariant.answered l.walk
    (files_by_done (g.F.Files.contents_gives c.args.files.now) c.args.env.now c.as_slice-path-items.result.now l.path-index l.walk c.loop-path-test.false)
