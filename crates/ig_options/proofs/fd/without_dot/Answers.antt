use Rattle.std.proofs.Common.{arith}
use Rattle.std.proofs.lemmas.Str.Pattern.{strip_prefix_char}
use Rattle.ig_options.proofs.FdLemmas.{dot_first, no_dot_first}
use Rattle.ig_options.proofs.fd.without_dot.Goals as goal

-- a dot comes first
pub returns-in-Some : goal.returns-in-Some
returns-in-Some c =
    let text = c.args.extension.now in
    let cut = rw c.in-Some.is at (strip_prefix_char 46 text c.strip_prefix.result c.strip_prefix.ensures.cases (omega arith)) in
    dot_first text c.in-Some.rest.now cut

-- none does
pub returns-in-None : goal.returns-in-None
returns-in-None c =
    let text = c.args.extension.now in
    let none = rw c.in-None.is at (strip_prefix_char 46 text c.strip_prefix.result c.strip_prefix.ensures.cases (omega arith)) in
    no_dot_first text none
