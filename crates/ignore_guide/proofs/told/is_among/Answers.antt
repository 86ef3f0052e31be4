use Rattle.std.proofs.Common.{rules, tests, string_bytes}
use Rattle.std.proofs.lemmas.Iterator.{YieldsList-from_slice}
use Rattle.std.proofs.lemmas.Iterator.Search.{any_from_yields_List}
use Rattle.ignore_guide.specs.Told.{is_absent}
use Rattle.ignore_guide.proofs.told.is_among.Goals as goal

pub returns : goal.returns
returns c =
    any_from_yields_List (λ l. is_absent (string_bytes l) c.args.path.now) _ _ c.any.result c.any.ensures.ran
    (YieldsList-from_slice c.args.lacked.now c.iter.ensures.rest)
    (λ x b q k. search (rules, tests))
