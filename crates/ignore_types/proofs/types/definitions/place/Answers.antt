-- Types in text order have the order that a binary search asks.
use Rattle.std.proofs.Common.{rules}
use Rattle.std.proofs.lemmas.Fn.{always_returns_same}
use Rattle.ignore_types.specs.Types.{text_cmp}
use Rattle.ignore_types.proofs.TypeLemmas.{IsPlace-found}
use Rattle.ignore_types.proofs.types.definitions.place.Goals as goal

pub returns : goal.returns
returns c =
    IsPlace-found c.args.name.now c.args.sorted.now c.binary_search_by.result c.requires c.binary_search_by.ensures.bound
    (c.binary_search_by.ensures.position (λ d. text_cmp d.name c.args.name.now) (always_returns_same _ _ _ (λ a r f h. search rules)))
