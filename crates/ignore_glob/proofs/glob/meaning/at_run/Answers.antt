use Rattle.std.proofs.Common.{arith}
use Rattle.ignore_glob.specs.LexemeViews.{row_view, left_view}
use Rattle.ignore_glob.proofs.MeaningLemmas.{start_to_end_at, start_at, alone_at, stars_at, inside_at}
use Rattle.ignore_glob.proofs.glob.meaning.at_run.Goals as goal

pub returns-then-not-is_start : goal.returns-then-not-is_start
returns-then-not-is_start c =
    inside_at (left_view c.args.left) (row_view c.args.row.now) (row_view c.args.after.now) c.args.n c.requires
    (λ s. let t = c.is_start.ensures.1 s in cc (t, c.if-not-is_start.true))

pub returns-in-Some : goal.returns-in-Some
returns-in-Some c =
    start_to_end_at (left_view c.args.left) (row_view c.args.row.now)
    (row_view c.past_chain-k.result.1.now) c.past_chain-k.result.0 c.past_chain-k.ensures.chain (omega arith)
    (c.is_start.ensures.0 c.if-not-is_start.false) (row_view c.in-Some.more.now) c.in-Some.ensures.some c.in-Some.ensures.ends

pub returns-in-None : goal.returns-in-None
returns-in-None c =
    start_at (left_view c.args.left) (row_view c.args.row.now)
    (row_view c.past_chain-k.result.1.now) c.past_chain-k.result.0 c.past_chain-k.ensures.chain (omega arith)
    (c.is_start.ensures.0 c.if-not-is_start.false) c.past_chain-k.ensures.whole c.in-None.ensures.none

pub returns-then-is_alone : goal.returns-then-is_alone
returns-then-is_alone c =
    let a = c.is_alone.ensures.0 c.if-is_alone.true in
    alone_at (left_view c.args.left) (row_view c.args.row.now) (row_view c.args.after.now) c.args.n c.requires a.0 a.1 a.2

pub returns-else-is_alone : goal.returns-else-is_alone
returns-else-is_alone c =
    stars_at (left_view c.args.left) (row_view c.args.row.now)
    (row_view c.past_chain-k.result.1.now) c.past_chain-k.result.0 c.past_chain-k.ensures.chain
    (omega arith) c.past_chain-k.ensures.whole (row_view c.args.after.now) c.args.n c.requires
    (λ a. let t = c.is_alone.ensures.1 a in cc (t, c.if-is_alone.false))
