-- Texts are compared by their bytes.
use Rattle.std.proofs.Common.{◌≡◌, ◌∙◌, ap, map, string_bytes, ◌&&◌}
use Rattle.std.specs.Str.{bytes_eq}
use Rattle.std.specs.Cmp.Lexicographic.{pointwise}
use Rattle.ignore_types.specs.Types.{same_definition}
use Rattle.ignore_types.proofs.ListLemmas.{pointwise-map}
use Rattle.ignore_types.proofs.types.definition.FileTypeDefPartialEq.eq.Goals as goal

pub returns-then-eq : goal.returns-then-eq
returns-then-eq c =
    let globs : c.eq-then-eq.result ≡ pointwise bytes_eq (map string_bytes c.self.inside.globs.items)
    (map string_bytes c.other.inside.globs.items) = c.eq-then-eq.ensures
    ∙ pointwise-map bytes_eq string_bytes c.self.inside.globs.items c.other.inside.globs.items in
    globs
    ∙ ap (λ b. b && pointwise bytes_eq (map string_bytes c.self.inside.globs.items)
    (map string_bytes c.other.inside.globs.items)) c.if-eq.ensures
    ∙ (λ i. same_definition (c.self.view_is i) (c.other.view_is i))
