use Rattle.std.proofs.Common.{◌++◌, ◌∷◌, [], sym, ap, ◌∙◌, refl}
use Rattle.std.specs.BTreeMap.{get_by_text}
use Rattle.ignore_dir.specs.Chains.{slashed}
use Rattle.ignore_query.specs.Stands.{open_in}
use Rattle.ignore_query.proofs.ChainLemmas.{joined-slashed}
use Rattle.ignore_query.proofs.KeepLemmas.{empty_key, key_end, some_named}
use Rattle.ignore_query.proofs.KnownLemmas.{next_top}
use Rattle.ignore_query.proofs.WhyLemmas.{components-of}
use Rattle.ignore_query.proofs.kept.Cache.open_above.Goals as goal

pub returns-then-is_empty : goal.returns-then-is_empty
returns-then-is_empty c = record {
  root = λ e. refl;
  below = λ front name clean key.
      absurd (next_top front name (empty_key (front ++ name ∷ []) c.args.key.now key (sym c.is_empty.ensures ∙ c.if-is_empty.true)));
}

pub returns : goal.returns
returns c = record {
  root = λ e. absurd (some_named [] c.args.key.now e (sym c.is_empty.ensures ∙ c.if-is_empty.false) refl);
  below = λ front name clean key.
      let path = c.without_slash-path.ensures.below (slashed front ++ name) (key_end (front ++ name ∷ []) front name c.args.key.now refl key)
      ∙ sym (joined-slashed front name) in
      let at = c.parent_key.ensures front name (components-of front name c.without_slash-path.result.now clean path) in
      c.open_at.ensures ∙ ap (λ t. open_in (get_by_text c.args.self.now.dirs.map t)) at;
}
