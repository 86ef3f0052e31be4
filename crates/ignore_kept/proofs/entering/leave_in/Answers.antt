-- The guide left the place.
use Rattle.std.proofs.Common.{refl, sym, ◌∙◌}
use Rattle.ignore_kept.proofs.entering.leave_in.Goals as goal

pub returns-in-Ok : goal.returns-in-Ok
returns-in-Ok c =
    let e = c.in-Ok.ensures in
    (c.leave.new.self, refl, sym c.is_some.ensures ∙ c.if-is_some.false, e.there, e.gone, e.stay, e.kept, e.others, e.same)
