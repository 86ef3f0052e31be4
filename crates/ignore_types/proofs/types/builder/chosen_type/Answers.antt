-- Each glob of the type is read, so there are as many readings.
use Rattle.std.proofs.Common.{length, map, string_bytes, sym, ap, ◌∙◌}
use Rattle.std.proofs.lemmas.Slice.Zip.{AllZip-long}
use Rattle.ignore_types.specs.Building.{IsReadAs}
use Rattle.ignore_types.specs.Types.{Definition}
use Rattle.ignore_types.proofs.types.builder.chosen_type.Goals as goal

pub new-requires : goal.new-requires
new-requires c =
    AllZip-long IsReadAs (map string_bytes c.globs.result.now) c.in_ok-globs.globs.items c.in_ok-globs.ensures.read
    ∙ (ap length c.globs.ensures ∙ ap (λ (d : Definition). length d.globs) (sym c.in_ok-copy.ensures.cases))
