use Rattle.std.proofs.Common.{ℕ, List, Bor, refl, ap, ◌∙◌, lit<}
use Rattle.std.proofs.lemmas.Str.Pattern.{strip_prefix_char}
use Rattle.ignore_dir.proofs.PathLemmas.{without_slash-is}
use Rattle.ignore_dir.proofs.above.without_slash.Goals as goal

pub returns : goal.returns
returns c =
    ap (λ (x : Bor (List ℕ)). x.now) c.unwrap_or.ensures
    ∙ without_slash-is c.args.path.now c.strip_prefix.result c.args.path refl
    (strip_prefix_char 47 c.args.path.now c.strip_prefix.result c.strip_prefix.ensures.cases (lit< tt))
