-- Views: the lexemes, tokens and meanings that the program's values stand for, for contracts of the
-- parser.
use Rattle.std.specs.Prelude.{List, map}
use Rattle.std.specs.Arc.{arc_slice_items}
use Rattle.ignore_glob.specs.Lexing.{Lexeme, char, escaped, any, run, class, opening, comma, closing}
use Rattle.ignore_glob.specs.declared.glob.lexeme.Lexeme.{Lexeme as CodeLexeme}
use Rattle.ignore_glob.specs.declared.glob.lexeme.Lexeme.TheVariants as Code
use Rattle.ignore_glob.specs.Glob as G
use Rattle.ignore_glob.specs.Glob.{Token}
use Rattle.ignore_glob.specs.Row as R
use Rattle.ignore_glob.specs.declared.glob.meaning.Left.{Left as CodeLeft}
use Rattle.ignore_glob.specs.declared.glob.meaning.Left.TheVariants as Side
use Rattle.ignore_glob.specs.declared.glob.meaning.SimpleToken.{SimpleToken as CodeSimpleToken}
use Rattle.ignore_glob.specs.declared.glob.meaning.SimpleToken.TheVariants as SimpleToken
use Rattle.ignore_glob.specs.declared.glob.meaning.Meaning.{Meaning as CodeMeaning}
use Rattle.ignore_glob.specs.declared.glob.meaning.Meaning.TheVariants as Meant

-- the lexeme of a lexeme of the program
abbrev pub lexeme_view : CodeLexeme → Lexeme
lexeme_view (Code.Char c) = char c
lexeme_view (Code.Escaped c) = escaped c
lexeme_view Code.Any = any
lexeme_view (Code.Run n) = run n
lexeme_view (Code.Class k) = class k.negated (arc_slice_items k.ranges)
lexeme_view Code.Opening = opening
lexeme_view Code.Comma = comma
lexeme_view Code.Closing = closing

-- the row of a row of the program
abbrev pub row_view : List CodeLexeme → List Lexeme
row_view = map lexeme_view

-- what is left of a place in the program
abbrev pub left_view : CodeLeft → R.Left
left_view Side.GlobStart = R.glob_start
left_view Side.BranchStart = R.branch_start
left_view Side.Lexeme = R.lexeme

-- the token of a simple token
abbrev pub simple_token_view : CodeSimpleToken → Token
simple_token_view (SimpleToken.Literal c) = G.literal c
simple_token_view SimpleToken.Any = G.any
simple_token_view SimpleToken.Star = G.star
simple_token_view SimpleToken.Start = G.start
simple_token_view SimpleToken.Middle = G.middle
simple_token_view SimpleToken.End = G.end
simple_token_view (SimpleToken.Class k) = G.class k.now.negated (arc_slice_items k.now.ranges)

-- the meaning of a meaning of the program
abbrev pub meaning_view : CodeMeaning → R.Meaning
meaning_view (Meant.Gives n t rest) = R.gives n (simple_token_view t) (row_view rest.now)
meaning_view (Meant.Braces rest) = R.braces (row_view rest.now)
meaning_view Meant.Ended = R.ended
