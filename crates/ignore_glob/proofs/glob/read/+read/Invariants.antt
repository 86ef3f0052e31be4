use Rattle.std.proofs.Common.{◌≤◌, ◌+◌, ◌*◌, ℕ, suc, List, length}
use Rattle.ignore_glob.specs.Glob.{Tokens, Branches}
use Rattle.ignore_glob.specs.Lexing.{Lexeme}
use Rattle.ignore_glob.specs.Row.{Row, Inner}
use Rattle.ignore_glob.specs.LexemeViews.{row_view, left_view}
use Rattle.ignore_glob.specs.ParserSteps.{Balanced, put_tokens, put_branches}
use Rattle.ignore_glob.proofs.glob.read.+read.Given as goal

abbrev pub decreases-read_level : goal.decreases-read_level
decreases-read_level l = 2 * length (row_view l.row.now)

abbrev pub decreases-read_branches : goal.decreases-read_branches
decreases-read_branches l = 2 * length (row_view l.row.now) + 1

-- tokens of the rest make tokens of the whole level
abbrev pub invariant-read_level-loop-n : goal.invariant-read_level-loop-n
invariant-read_level-loop-n l = record {
  level : (ts : Tokens) (out : List Lexeme) → Row (left_view l.here) (row_view l.rest) ts out
      → Row (left_view l.fn.left) (row_view l.row) (put_tokens l.tokens.items ts) out;
  balance : (d : ℕ) → Balanced (row_view l.row) d → Balanced (row_view l.rest) d;
  shorter : length (row_view l.rest) ≤ length (row_view l.row);
}

abbrev pub decreases-read_level-loop-n : goal.decreases-read_level-loop-n
decreases-read_level-loop-n l = length (row_view l.rest)

-- branches of the rest make branches of the whole
abbrev pub invariant-read_branches-loop-branches : goal.invariant-read_branches-loop-branches
invariant-read_branches-loop-branches l = record {
  inner : (bs : Branches) (out : List Lexeme) → Inner (row_view l.rest) bs out
      → Inner (row_view l.row) (put_branches l.branches.items bs) out;
  balance : (d : ℕ) → Balanced (row_view l.row) (suc d) → Balanced (row_view l.rest) (suc d);
  shorter : length (row_view l.rest) ≤ length (row_view l.row);
}

abbrev pub decreases-read_branches-loop-branches : goal.decreases-read_branches-loop-branches
decreases-read_branches-loop-branches l = length (row_view l.rest)
