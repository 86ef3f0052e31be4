use Rattle.std.proofs.Common.{ap, subst, sym, ◌∙◌}
use Rattle.std.specs.Str.Iter.{HasSubslice}
use Rattle.std.proofs.lemmas.Str.Pattern.{contains_text}
use Rattle.ignore_set.specs.Others.{IndexedText}
use Rattle.ignore_set.proofs.needle.Needle.is_in.Goals as goal

pub returns : goal.returns
returns c =
    let text = c.args.text.now in
    let same = c.as_str.ensures.value ∙ ap (λ (n : IndexedText). n.text) c.self.view_is in
    let found = contains_text c.contains.result c.as_str.result.now text c.contains.ensures.cases in
    (λ t. subst (λ n. HasSubslice text n) same (found.0 t), λ h. found.1 (subst (λ n. HasSubslice text n) (sym same) h))
