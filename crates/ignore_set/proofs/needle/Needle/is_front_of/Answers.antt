use Rattle.std.proofs.Common.{◌++◌, ap, drop, length, sym, ◌∙◌}
use Rattle.std.proofs.lemmas.Bool.Decides.{Decides-eqb}
use Rattle.std.proofs.lemmas.Slice.Eq.{starts_is}
use Rattle.ignore_set.specs.Others.{IndexedText}
use Rattle.ignore_set.proofs.needle.Needle.is_front_of.Goals as goal

pub returns : goal.returns
returns c =
    let text = c.args.text.now in
    let bytes = c.as_bytes.result.now in
    let same = c.as_bytes.ensures.value ∙ ap (λ (n : IndexedText). n.text) c.self.view_is in
    let begins = starts_is Decides-eqb text bytes c.starts_with.result c.starts_with.ensures.value in (
      λ yes. (drop (length bytes) text, begins.0 yes ∙ ap (λ l. l ++ drop (length bytes) text) same),
      λ f. begins.1 f.0 (f.1 ∙ ap (λ l. l ++ f.0) (sym same)),
    )
