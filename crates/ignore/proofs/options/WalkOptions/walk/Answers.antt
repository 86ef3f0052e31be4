use Rattle.std.proofs.Common.{rules, ◌≡◌, List}
use Rattle.ignore.specs.Closures.{options_of}
use Rattle.ignore.proofs.options.WalkOptions.walk.Goals as goal

pub returns-clause-starts : goal.returns-clause-starts
returns-clause-starts g c = λ tree honest. (c.in_ok-outside.outside, c.in_ok-outside.ensures.read tree honest, λ s suits. search rules)
