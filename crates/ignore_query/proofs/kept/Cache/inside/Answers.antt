use Rattle.std.proofs.Common.{◌++◌, ◌∷◌, [], refl, ap, ◌∙◌, sym}
use Rattle.std.specs.BTreeMap.{get_by_text}
use Rattle.ignore_base.specs.Match.{match_map}
use Rattle.ignore_base.specs.Paths.{joined}
use Rattle.ignore_dir.specs.Chains.{slashed}
use Rattle.ignore_why.specs.Cited.{cited_of}
use Rattle.ignore_why.specs.QueryWhy.QueryWhy.{inside}
use Rattle.ignore_query.specs.declared.kept.Kept.TheVariants.{Ignored}
use Rattle.ignore_query.specs.Listed.{kept_at}
use Rattle.ignore_query.specs.Stands.{open_in}
use Rattle.ignore_query.proofs.ChainLemmas.{joined-slashed}
use Rattle.ignore_query.proofs.KeepLemmas.{key_end}
use Rattle.ignore_query.proofs.WhyLemmas.{components-of, not_open, opened_is}
use Rattle.ignore_query.proofs.kept.Cache.inside.Goals as goal

pub returns-in_ok-directory-in-Some : goal.returns-in_ok-directory-in-Some
returns-in_ok-directory-in-Some c = record {
  value = λ tree loads front name agrees clean kept key.
      let path = c.without_slash-path.ensures.below (slashed front ++ name) (key_end (front ++ name ∷ []) front name c.args.key.now refl key)
      ∙ sym (joined-slashed front name) in
      let at = c.parent_key.ensures front name (components-of front name c.without_slash-path.result.now clean path) in
      let opened = ap (λ t. open_in (get_by_text c.args.self.now.dirs.map t)) (sym at) ∙ (sym c.open_at.ensures ∙ c.in-Some.is) in
      let loaded = opened_is (kept_at c.args.self.now front) c.in-Some.place opened in
      let said = c.in_ok-cause-in-Some.ensures.value tree loads front name agrees clean loaded path in
      ap (λ t. inside t (match_map cited_of c.in_ok-cause-in-Some.cause)) (c.in_ok-directory-in-Some.ensures.ok ∙ path)
      ∙ ap (inside (joined (front ++ name ∷ []))) said;
}

pub returns-in-None : goal.returns-in-None
returns-in-None c = record {
  value = λ tree loads front name agrees clean kept key.
      let path = c.without_slash-path.ensures.below (slashed front ++ name) (key_end (front ++ name ∷ []) front name c.args.key.now refl key)
      ∙ sym (joined-slashed front name) in
      let at = c.parent_key.ensures front name (components-of front name c.without_slash-path.result.now clean path) in
      let shut = ap (λ t. open_in (get_by_text c.args.self.now.dirs.map t)) (sym at) ∙ (sym c.open_at.ensures ∙ c.in-None.is) in
      let loaded = agrees.inside (front ++ name ∷ []) Ignored clean kept front name refl in
      absurd (not_open (kept_at c.args.self.now front) loaded.0 loaded.1 shut);
}
