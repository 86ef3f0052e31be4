use Rattle.std.proofs.Common.{◌≡◌, ℕ, IfOk, List, ◌++◌, ◌∷◌, [], sym, subst, ap, ◌∙◌}
use Rattle.ignore_base.specs.Match.{match_map}
use Rattle.ignore_base.specs.declared.match_result.Match.{Match}
use Rattle.ignore_base.specs.Paths.{join_of}
use Rattle.ignore_dir.specs.Steps.{reached_in}
use Rattle.ignore_levels.specs.Levels.{counting}
use Rattle.ignore_levels.specs.Reasons.{IsInside, why_of}
use Rattle.ignore_why.specs.Cited.{Cited, cited, cited_of}
use Rattle.ignore_query.specs.declared.kept.Kept.TheVariants.{Loaded}
use Rattle.ignore_query.specs.Reached.{scene_of}
use Rattle.ignore_query.proofs.ChainLemmas.{counting-after, front_names, joined_along, text_in}
use Rattle.ignore_query.proofs.WhyLemmas.{cited_in}
use Rattle.ignore_query.proofs.kept.Cache.causes_at.Goals as goal

pub returns : goal.returns
returns c = record {
  value = λ tree loads front name agrees clean kept path.
      let g = scene_of c.args.asked.now tree loads in
      let base = c.as_str.result.now in
      let has = agrees.first front (Loaded c.args.place) kept in
      let right = agrees.right front (Loaded c.args.place) (front_names front (name ∷ []) clean) kept in
      let chain = (reached_in g front).chain in
      let grown = c.in_ok-push_str-2.ensures.bytes
      ∙ ap (λ t. t ++ c.args.path.now) (c.in_ok-push_str.ensures.bytes ∙ ap (λ t. t ++ base) c.in_ok-text.ensures.bytes) in
      let text = c.as_str-3.ensures.value ∙ (grown
      ∙ text_in g c.args.self.now front name base c.args.path.now agrees has c.as_str.ensures.value path) in
      let whole = c.as_str-4.ensures.value ∙ (c.in_ok-path.ensures ∙ (ap (λ r. join_of r c.args.path.now) c.as_str-2.ensures.value
      ∙ (ap (join_of g.root) path ∙ joined_along c.join_law.ensures.name g.root front name clean))) in
      let said = c.in_ok-found.ensures.why (counting chain) right.1 (counting-after g front name c.as_str-3.result.now text)
      ∙ c.what_counts_decides.ensures.why g.settings g.outside chain c.as_str-3.result.now c.as_str-4.result.now c.args.is_dir in
      let found = c.in_ok-found.found in
      let same = c.as_str-5.ensures.value ∙ sym c.as_str-3.ensures.value in
      let all = ap (λ (t : List ℕ). match_map (cited t) (match_map (why_of t) found)) same ∙ (ap (match_map (cited c.as_str-3.result.now)) said
      ∙ cited_in g front name c.as_str-3.result.now c.as_str-4.result.now c.args.is_dir text whole) in
      subst (λ (m : Match Cited). IfOk c.causes.result (λ r. match_map cited_of r ≡ m)) all
      (c.causes.ensures (subst (λ (t : List ℕ). IsInside t found) (sym same) c.in_ok-found.ensures.inside));
}
