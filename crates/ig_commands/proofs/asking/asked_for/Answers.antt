use Rattle.std.proofs.Common.{◌∙◌, ap, inl, inr, map, option_map, subst}
use Rattle.std.proofs.lemmas.Result.{err_from_is_err_and}
use Rattle.ignore_base.specs.Problem.{problem_of}
use Rattle.ignore_base.specs.Text.{Path}
use Rattle.ignore.specs.Builder.{with_overrides, with_types}
use Rattle.ignore.specs.declared.options.WalkOptions.{WalkOptions}
use Rattle.ig_options.specs.Files.{AddsFiles, AddsFilesBy, named_files}
use Rattle.ig_options.specs.Globs.{AreGlobs}
use Rattle.ig_commands.proofs.asking.asked_for.Goals as goal

pub returns-clause-read : goal.returns-clause-read
returns-clause-read g c = λ tree honest.
    let o = c.args.options.now in
    let globs = c.in_ok-globs.globs in
    let types = c.in_ok-types.types in
    let built = c.in_ok-types.ensures.value in
    record {
      globs = globs;
      are_globs = subst (λ (dir : Path). AreGlobs o dir globs) c.base_dir.ensures c.in_ok-globs.ensures.value;
      draft = built.0;
      is_draft = built.1;
      types = types;
      are_types = built.2;
      found = map (option_map problem_of) c.in_ok-found.found.items;
      files = subst (λ (w : WalkOptions). AddsFiles tree c.args.world.now.env.now (named_files o) w c.add_files.new.walk (map (option_map problem_of) c.in_ok-found.found.items))
          (c.set_rules.ensures ∙ ap (λ (w : WalkOptions). with_types (with_overrides w globs) types) c.in_ok-walk.ensures.value)
          (c.in_ok-found.ensures.read tree honest);
      told = c.to_report-errors.ensures;
    }

-- the same over any files
pub returns-clause-answered : goal.returns-clause-answered
returns-clause-answered g c =
    let o = c.args.options.now in
    let globs = c.in_ok-globs.globs in
    let types = c.in_ok-types.types in
    let built = c.in_ok-types.ensures.value in
    record {
      globs = globs;
      are_globs = subst (λ (dir : Path). AreGlobs o dir globs) c.base_dir.ensures c.in_ok-globs.ensures.value;
      draft = built.0;
      is_draft = built.1;
      types = types;
      are_types = built.2;
      added = subst (λ (w : WalkOptions). AddsFilesBy (g.F.Files.contents_gives c.args.world.now.files.now) c.args.world.now.env.now (named_files o) w c.add_files.new.walk)
          (c.set_rules.ensures ∙ ap (λ (w : WalkOptions). with_types (with_overrides w globs) types) c.in_ok-walk.ensures.value)
          c.in_ok-found.ensures.answered;
    }

-- a glob is rejected, or memory ran out
pub returns-in_err-globs-clause-refused : goal.returns-in_err-globs-clause-refused
returns-in_err-globs-clause-refused g c =
    let p = err_from_is_err_and c.from_residual.result c.from_residual.ensures.1 in
    rw (p.1, p.2) (elim c.in_err-globs.ensures.refused [
      | inl m ↦ inl m
      | inr r ↦ inr (inl (rw c.base_dir.ensures at r))
    ])

-- so it is of a type
pub returns-in_err-types-clause-refused : goal.returns-in_err-types-clause-refused
returns-in_err-types-clause-refused g c =
    let p = err_from_is_err_and c.from_residual-in_err-types.result c.from_residual-in_err-types.ensures.1 in
    rw (p.1, p.2) (elim c.in_err-types.ensures.refused [ inl m ↦ inl m | inr r ↦ inr (inr r) ])
