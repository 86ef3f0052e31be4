use Rattle.std.proofs.Common.{arith}
use Rattle.ignore_glob.specs.LexemeViews.{row_view}
use Rattle.ignore_glob.proofs.MeaningLemmas.{end_at, middle_at, slash_at}
use Rattle.ignore_glob.proofs.glob.meaning.after_slash.Goals as goal

pub returns-in-Some : goal.returns-in-Some
returns-in-Some c p l s =
    end_at p l s c.past_chain-n.result.0 (row_view c.args.row.now) (row_view c.past_chain-n.result.1.now) c.past_chain-n.ensures.chain
    (row_view c.in-Some.more.now) c.in-Some.ensures.some c.in-Some.ensures.ends

pub returns-then-n-gt0 : goal.returns-then-n-gt0
returns-then-n-gt0 c p l s =
    middle_at p l s c.past_chain-n.result.0 (row_view c.args.row.now) (row_view c.past_chain-n.result.1.now) c.past_chain-n.ensures.chain
    (omega arith) c.past_chain-n.ensures.whole c.in_default.ensures.none

pub returns-else-n-gt0 : goal.returns-else-n-gt0
returns-else-n-gt0 c p l s =
    slash_at p l s c.past_chain-n.result.0 (row_view c.args.row.now) (row_view c.past_chain-n.result.1.now) c.past_chain-n.ensures.chain
    (omega arith) c.past_chain-n.ensures.whole c.in_default.ensures.none
