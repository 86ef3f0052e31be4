use Rattle.std.proofs.Common.{ap, take}
use Rattle.ignore_set.proofs.index.Index.needles_before_end.Goals as goal

pub returns : goal.returns
returns c = (c.end_of-end.result, ap (take c.end_of-end.result) c.as_slice.ensures.value, c.end_of-end.ensures.past)
