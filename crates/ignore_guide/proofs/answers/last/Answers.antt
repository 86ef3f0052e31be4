-- The answers are searched from the last one on.
use Rattle.std.proofs.Common.{arith, rules, tests}
use Rattle.std.proofs.lemmas.Iterator.Adapters.{YieldsList-from_rev_slice}
use Rattle.std.proofs.lemmas.Iterator.Search.{find_from_yields_List}
use Rattle.std.specs.Str.{bytes_eq}
use Rattle.ignore_guide.proofs.answers.last.Goals as goal

pub returns : goal.returns
returns g c =
    find_from_yields_List (λ a. bytes_eq a.path c.args.path.now) _ _ c.find.result c.find.ensures.ran
    (YieldsList-from_rev_slice c.args.answers.now (grind (arith, c.rev.ensures, c.iter.ensures.rest)))
    (λ x b q k. search (rules, tests))
