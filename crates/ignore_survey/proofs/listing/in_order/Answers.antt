use Rattle.std.proofs.Common.{List, map, sym, ◌∙◌, ap, subst}
use Rattle.ignore_files.specs.declared.types.Listed.{Listed}
use Rattle.ignore_survey.specs.Survey.{by_name}
use Rattle.ignore_walk.specs.Child.{named}
use Rattle.ignore_walk.specs.Walked.{IsArranged}
use Rattle.ignore_survey.proofs.listing.in_order.Goals as goal

pub returns : goal.returns
returns c = λ dir.
    let things = c.in_ok-things.things.items in
    let sorted = c.sort.new.listing.items in
    let from = c.in_ok-things.ensures ∙ ap (map named) c.into_vec.ensures in
    subst (λ (l : List Listed). IsArranged by_name dir (map named c.args.listing) l) (sym c.from_vec.ensures.items)
    (subst (λ (l : List Listed). IsArranged by_name dir l sorted) from (c.in_ok-sort.ensures dir))
