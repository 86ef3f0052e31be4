-- The copies have the same bytes.
use Rattle.std.proofs.Common.{◌≡◌, ◌∙◌, map, string_bytes}
use Rattle.ignore_types.proofs.ListLemmas.{map-same}
use Rattle.ignore_types.proofs.types.definition.FileTypeDefClone.clone.Goals as goal

pub returns : goal.returns
returns c =
    let globs : map string_bytes c.in_ok-globs.globs.items
    ≡ map string_bytes c.self.inside.globs.items = map-same string_bytes _ _ c.in_ok-globs.ensures.cases.0 in
    let name : string_bytes c.in_ok-name.name ≡ string_bytes c.self.inside.name = c.in_ok-name.ensures.cases in
    let same : record { name = string_bytes c.in_ok-name.name; globs = map string_bytes c.in_ok-globs.globs.items }
    ≡ record { name = string_bytes c.self.inside.name; globs = map string_bytes c.self.inside.globs.items } =
    λ i. record { name = name i; globs = globs i } in
    record { cases = same ∙ c.self.view_is }
