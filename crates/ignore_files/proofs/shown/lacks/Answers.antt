use Rattle.std.proofs.Common.{rules, tests, ◌∙◌, ap, sym, ◌&&◌}
use Rattle.std.specs.List.{list_all}
use Rattle.std.proofs.lemmas.Iterator.{YieldsList-from_slice}
use Rattle.std.proofs.lemmas.Iterator.Search.{all_from_yields_List}
use Rattle.ignore_files.specs.Whole.{differs}
use Rattle.ignore_files.proofs.shown.lacks.Goals as goal

pub returns-then-is_plain : goal.returns-then-is_plain
returns-then-is_plain c =
    all_from_yields_List (differs c.args.name.now) _ _ c.all.result c.all.ensures.ran
    (YieldsList-from_slice c.args.listing.now c.iter.ensures.rest)
    (λ x b q k. search (rules, tests))
    ∙ ap (λ b. b && list_all (differs c.args.name.now) c.args.listing.now) (sym c.if-is_plain.true ∙ c.is_plain.ensures)
