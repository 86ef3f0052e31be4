use Rattle.std.proofs.Common.{rules, tests, ◌∙◌, sym, lit<, Some, None}
use Rattle.std.proofs.lemmas.Str.Pattern.{strip_prefix_char}
use Rattle.std.proofs.lemmas.Iterator.Search.{all_from_yields_List}
use Rattle.std.proofs.lemmas.Iterator.Splits.{YieldsList-from_str_split}
use Rattle.ignore_base.specs.Paths.{is_proper}
use Rattle.ignore_files.proofs.Components.{canonical_none, canonical_rest}
use Rattle.ignore_files.proofs.memory.canonical_path.is_canonical_path.Goals as goal

pub returns-in-None : goal.returns-in-None
returns-in-None c = canonical_none c.args.path.now (strip_prefix_char 47 c.args.path.now None c.in-None.ensures.cases (lit< tt))

pub returns-else-is_empty : goal.returns-else-is_empty
returns-else-is_empty c =
    let rest = c.in-Some.rest in
    all_from_yields_List is_proper _ _ c.all.result c.all.ensures.ran
    (YieldsList-from_str_split 47 rest.now (lit< tt) c.split.ensures.text c.split.ensures.has_more c.split.ensures.pattern)
    (λ x b q k. search (rules, tests))
    ∙ canonical_rest c.args.path.now rest.now (strip_prefix_char 47 c.args.path.now (Some rest) c.in-Some.ensures.cases (lit< tt))
    (sym c.if-is_empty.ensures)
