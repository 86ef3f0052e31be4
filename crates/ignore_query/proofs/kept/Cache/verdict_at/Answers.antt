use Rattle.std.proofs.Common.{◌≡◌, ◌++◌, ◌∷◌, [], refl, ap, ◌∙◌, subst, IfOk}
use Rattle.ignore_base.specs.Paths.{join_of}
use Rattle.ignore_dir.specs.declared.verdict.Verdict.{Verdict}
use Rattle.ignore_dir.specs.Steps.{reached_in}
use Rattle.ignore_levels.specs.Levels.{counting}
use Rattle.ignore_query.specs.declared.kept.Kept.TheVariants.{Loaded}
use Rattle.ignore_query.specs.Reached.{scene_of}
use Rattle.ignore_query.proofs.ChainLemmas.{counting-after, front_names, joined_along, judged_in, text_in}
use Rattle.ignore_query.proofs.kept.Cache.verdict_at.Goals as goal

pub returns : goal.returns
returns c = record {
  value = λ tree loads front name agrees clean kept path.
      let g = scene_of c.args.asked.now tree loads in
      let base = c.as_str.result.now in
      let has = agrees.first front (Loaded c.args.place) kept in
      let right = agrees.right front (Loaded c.args.place) (front_names front (name ∷ []) clean) kept in
      let chain = (reached_in g front).chain in
      let grown = c.in_ok-push_str-2.ensures.bytes
      ∙ ap (λ t. t ++ c.args.path.now) (c.in_ok-push_str.ensures.bytes ∙ ap (λ t. t ++ base) c.in_ok-text.ensures.bytes) in
      let text = c.as_str-3.ensures.value ∙ (grown
      ∙ text_in g c.args.self.now front name base c.args.path.now agrees has c.as_str.ensures.value path) in
      let whole = c.as_str-4.ensures.value ∙ (c.in_ok-path.ensures ∙ (ap (λ r. join_of r c.args.path.now) c.as_str-2.ensures.value
      ∙ (ap (join_of g.root) path ∙ joined_along c.join_law.ensures.name g.root front name clean))) in
      let said = c.what_counts_decides.ensures.same g.settings g.outside chain c.as_str-3.result.now c.as_str-4.result.now c.args.is_dir
      ∙ judged_in g front name c.as_str-3.result.now c.as_str-4.result.now chain c.args.is_dir
      (c.steps_are_whole.ensures.verdict g front name c.args.is_dir) refl text whole in
      subst (λ (w : Verdict). IfOk c.verdict.result (λ v. v ≡ w)) said
      (c.verdict.ensures.value (counting chain) right.1 (counting-after g front name c.as_str-3.result.now text));
}
