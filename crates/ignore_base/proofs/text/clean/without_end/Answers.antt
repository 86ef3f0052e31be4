use Rattle.std.proofs.Common.{None, refl, inl, lit<}
use Rattle.std.proofs.lemmas.Str.Pattern.{strip_suffix_char}
use Rattle.ignore_base.proofs.text.clean.without_end.Goals as goal

pub returns-in-None : goal.returns-in-None
returns-in-None c = inl (refl, strip_suffix_char 47 c.args.path.now None c.in-None.ensures.cases (lit< tt))
