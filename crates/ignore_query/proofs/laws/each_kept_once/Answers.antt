use Rattle.ignore_query.proofs.CountLemmas.{lists_kept}
use Rattle.ignore_query.proofs.laws.each_kept_once.Goals as goal

pub returns : goal.returns
returns c = lists_kept c.args.matcher.now.cache c.len.ensures.ordered
