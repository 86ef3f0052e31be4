-- The entries are decided by the guide of the handle.
use Rattle.std.proofs.Common.{sym, ap, map, ◌∙◌}
use Rattle.std.specs.Option.{option_copied}
use Rattle.ignore_guide.specs.Guide.{decided_listed}
use Rattle.ignore_kept.proofs.Decided.{lists}
use Rattle.ignore_kept.specs.Deciding.{listed_code}
use Rattle.ignore_kept.proofs.deciding.decide_all.Goals as goal

pub returns-in-Ok-codes_of-clause-decided : goal.returns-in-Ok-codes_of-clause-decided
returns-in-Ok-codes_of-clause-decided c =
    let g = c.in-Some.guide.now in
    lists c.args.place c.args.listed.names.now c.args.listed.kinds.now c.args.listed.sizes.now _ g
    (sym (ap option_copied c.in-Some.is) ∙ c.guide_in.ensures) c.in-Ok.entries.items c.in-Ok-decide_all.found.items
    c.in-Ok-codes_of.codes.items c.in-Ok-decide_all.ensures.there c.in-Ok.ensures.listed
    (λ depth at s. c.in-Ok-decide_all.ensures.value depth at s
    ∙ ap (map (decided_listed g.settings g.outside depth at)) c.as_slice.ensures.value)
    (c.in-Ok-codes_of.ensures ∙ ap (map listed_code) c.as_slice-2.ensures.value)
