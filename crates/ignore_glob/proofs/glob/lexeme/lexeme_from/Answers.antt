use Rattle.std.proofs.Common.{arith}
use Rattle.std.proofs.lemmas.List.{take_rest}
use Rattle.ignore_glob.specs.Lexing.{question, too_deep, ordinary}
use Rattle.ignore_glob.proofs.OutcomeLemmas.{plain}
use Rattle.ignore_glob.proofs.BeginsLemmas.{stars_at, opens_at, closes_at, unopened_at, separates_at, comma_at}
use Rattle.ignore_glob.proofs.glob.lexeme.lexeme_from.Goals as goal

pub returns-in-63-clause-lexeme : goal.returns-in-63-clause-lexeme
returns-in-63-clause-lexeme c = rw c.in-63.is (question c.args.depth c.args.text.now)

pub returns-in-42-clause-lexeme : goal.returns-in-42-clause-lexeme
returns-in-42-clause-lexeme c =
    rw (c.in-42.is, take_rest)
    (stars_at c.args.options c.args.depth c.run_length-n.result c.args.text.now _ c.run_length-n.ensures.stars c.run_length-n.ensures.whole)

pub returns-in-92-clause-lexeme : goal.returns-in-92-clause-lexeme
returns-in-92-clause-lexeme c = rw c.in-92.is (c.escape.ensures.lexeme c.args.options)

pub returns-in-92-clause-fault : goal.returns-in-92-clause-fault
returns-in-92-clause-fault c = rw c.in-92.is (c.escape.ensures.fault c.args.options)

pub returns-in-91 : goal.returns-in-91
returns-in-91 c = rw c.in-91.is c.bracket.ensures

pub returns-then-depth-lt-MAX_LEVELS-clause-lexeme : goal.returns-then-depth-lt-MAX_LEVELS-clause-lexeme
returns-then-depth-lt-MAX_LEVELS-clause-lexeme c = rw c.in-123.is (opens_at c.args.options c.args.depth c.args.text.now (omega arith))

pub returns-else-depth-lt-MAX_LEVELS-clause-fault : goal.returns-else-depth-lt-MAX_LEVELS-clause-fault
returns-else-depth-lt-MAX_LEVELS-clause-fault c = rw c.in-123.is (too_deep c.args.depth c.args.text.now (omega arith))

pub returns-then-depth-gt0-clause-lexeme : goal.returns-then-depth-gt0-clause-lexeme
returns-then-depth-gt0-clause-lexeme c = rw c.in-125.is (closes_at c.args.options c.args.depth c.args.text.now (omega arith))

pub returns-else-depth-gt0-clause-fault : goal.returns-else-depth-gt0-clause-fault
returns-else-depth-gt0-clause-fault c = rw c.in-125.is (unopened_at c.args.options c.args.depth c.args.text.now (omega arith))

pub returns-then-depth-gt0-2-clause-lexeme : goal.returns-then-depth-gt0-2-clause-lexeme
returns-then-depth-gt0-2-clause-lexeme c = rw c.in-44.is (separates_at c.args.options c.args.depth c.args.text.now (omega arith))

pub returns-else-depth-gt0-2-clause-lexeme : goal.returns-else-depth-gt0-2-clause-lexeme
returns-else-depth-gt0-2-clause-lexeme c = rw c.in-44.is (comma_at c.args.options c.args.depth c.args.text.now (omega arith))

pub returns-in_default-clause-lexeme : goal.returns-in_default-clause-lexeme
returns-in_default-clause-lexeme c =
    ordinary c.args.depth c.args.first c.args.text.now
    (plain c.args.depth c.args.first (omega arith) (omega arith) (omega arith) (omega arith) (omega arith) (omega arith) (omega arith))
