use Rattle.std.proofs.Common.{List, length, Result}
use Rattle.ignore_glob.specs.declared.glob.fault.GlobFault.{GlobFault}
use Rattle.ignore_glob.specs.Lexing.{Lexeme, Lexed}
use Rattle.ignore_glob.specs.LexemeViews.{row_view}
use Rattle.ignore_glob.specs.ParserSteps.{ClosesBefore}
use Rattle.ignore_glob.proofs.LexemeLemmas.{put_all}
use Rattle.ignore_glob.proofs.glob.lexeme.lexemes.Given as goal

-- an outcome of the rest makes one of the whole
abbrev pub invariant-loop-first : goal.invariant-loop-first
invariant-loop-first l = record {
  written : (out : Result (List Lexeme) GlobFault) → Lexed l.options l.depth l.rest out
      → Lexed l.options 0 l.text (put_all (row_view l.row.items) out);
  closes : ClosesBefore l.after_last l.rest;
}

abbrev pub decreases-loop-first : goal.decreases-loop-first
decreases-loop-first l = length l.rest
