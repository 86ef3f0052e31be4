use Rattle.std.proofs.Common.{◌≡◌, ℕ, List, [], ◌∷◌, length, false, lit<, ◌∙◌, sym, eqb}
use Rattle.std.proofs.lemmas.Iterator.Consumers.{count_from_yields_List}
use Rattle.std.proofs.lemmas.Iterator.Splits.{YieldsList-from_str_split}
use Rattle.ignore_base.specs.Paths.{components}
use Rattle.ignore_dir.specs.Query.{depth_of_path}
use Rattle.ignore_query.proofs.clean.depth_of.Goals as goal

counted : (path : List ℕ) (n : ℕ) → eqb (length path) 0 ≡ false → n ≡ length (components path) → n ≡ depth_of_path path
counted [] n h e = cc
counted (b ∷ bs) n h e = e

pub returns : goal.returns
returns c =
    counted c.args.path.now _ (sym c.is_empty.ensures ∙ c.if-is_empty.false)
    (count_from_yields_List _ c.count.result c.count.ensures.ran
    (YieldsList-from_str_split 47 c.args.path.now (lit< tt) c.split.ensures.text c.split.ensures.has_more c.split.ensures.pattern))
