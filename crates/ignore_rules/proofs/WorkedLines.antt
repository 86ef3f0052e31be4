-- Worked lines: what each parses to, computed from the definition.
use Rattle.std.proofs.Common.{◌≡◌, Bool, true, false, List, [], ◌∷◌, ◌++◌, ℕ, Option, Some, None, Ok, refl, codes}
use Rattle.std.specs.Char.{encode_utf8}
use Rattle.std.specs.Str.{trim_end, chars}
use Rattle.ignore_rules.specs.Line.{parsed_line, ParsedLine}
use Rattle.ignore_rules.specs.RuleFile.{AddsLines, added, done, mark}
use Rattle.ignore_rules.specs.Rules.{AddsLineOf, Building, begun, line_of_file}

parsed : List ℕ → List ℕ → Bool → Bool → Option ParsedLine
parsed original actual whitelist only_dir =
    Some (record { original = original; actual = actual; is_whitelist = whitelist; is_only_dir = only_dir })

comment : parsed_line false (codes "#a") ≡ None
comment = refl

blank : parsed_line false (codes "  ") ≡ None
unfolding trim_end chars encode_utf8
blank = refl

empty : parsed_line false [] ≡ None
unfolding trim_end chars encode_utf8
empty = refl

name : parsed_line false (codes "*.rs ") ≡ parsed (codes "*.rs") (codes "**/*.rs") false false
unfolding parsed trim_end chars encode_utf8
name = refl

below : parsed_line false (codes "foo/**") ≡ parsed (codes "foo/**") (codes "foo/**/*") false false
unfolding parsed trim_end chars encode_utf8
below = refl

every_directory : parsed_line false (codes "!**/") ≡ parsed (codes "!**/") (codes "**") true true
unfolding parsed trim_end chars encode_utf8
every_directory = refl

bang : parsed_line false (codes "!") ≡ parsed (codes "!") (codes "**/") true false
unfolding parsed trim_end chars encode_utf8
bang = refl

escaped_hash : parsed_line false (codes "\\#") ≡ parsed (codes "\\#") (codes "**/#") false false
unfolding parsed trim_end chars encode_utf8
escaped_hash = refl

escaped_bang : parsed_line false (codes "\\!a") ≡ parsed (codes "\\!a") (codes "**/!a") false false
unfolding parsed trim_end chars encode_utf8
escaped_bang = refl

escaped_slash : parsed_line false (codes "\\/") ≡ parsed (codes "\\/") (codes "**/") false true
unfolding parsed trim_end chars encode_utf8
escaped_slash = refl

slash : parsed_line false (codes "/") ≡ parsed (codes "/") [] false false
unfolding parsed trim_end chars encode_utf8
slash = refl

all_below : parsed_line false (codes "a/**/") ≡ parsed (codes "a/**/") (codes "a/**/*") false true
unfolding parsed trim_end chars encode_utf8
all_below = refl

three_stars : parsed_line false (codes "***") ≡ parsed (codes "***") (codes "**/***") false false
unfolding parsed trim_end chars encode_utf8
three_stars = refl

anchored_stars : parsed_line false (codes "/**") ≡ parsed (codes "/**") (codes "**") false false
unfolding parsed trim_end chars encode_utf8
anchored_stars = refl

one_space : parsed_line false (codes "foo\\ ") ≡ parsed (codes "foo\\ ") (codes "**/foo\\ ") false false
unfolding parsed trim_end chars encode_utf8
one_space = refl

two_spaces : parsed_line false (codes "foo\\  ") ≡ parsed (codes "foo\\") (codes "**/foo\\") false false
unfolding parsed trim_end chars encode_utf8
two_spaces = refl

two_backslashes : parsed_line false (codes "a\\\\/") ≡ parsed (codes "a\\\\/") (codes "**/a\\") false true
unfolding parsed trim_end chars encode_utf8
two_backslashes = refl

in_braces : parsed_line false (codes "{a/b,c}") ≡ parsed (codes "{a/b,c}") (codes "{a/b,c}") false false
unfolding parsed trim_end chars encode_utf8
in_braces = refl

in_a_class : parsed_line false (codes "[/]a") ≡ parsed (codes "[/]a") (codes "[/]a") false false
unfolding parsed trim_end chars encode_utf8
in_a_class = refl

-- `a` and U+3000
wide_space : parsed_line false (97 ∷ 227 ∷ 128 ∷ 128 ∷ []) ≡ parsed (codes "a") (codes "**/a") false false
unfolding parsed trim_end chars encode_utf8
wide_space = refl

-- The same by git's own rule for white space at the end.

git_escaped_space : parsed_line true (codes "foo\\  ") ≡ parsed (codes "foo\\ ") (codes "**/foo\\ ") false false
unfolding parsed chars
git_escaped_space = refl

git_escaped_backslash : parsed_line true (codes "foo\\\\ ") ≡ parsed (codes "foo\\\\") (codes "**/foo\\\\") false false
unfolding parsed chars
git_escaped_backslash = refl

-- `foo` and a tab
git_tab : parsed_line true (102 ∷ 111 ∷ 111 ∷ 9 ∷ []) ≡ parsed (102 ∷ 111 ∷ 111 ∷ 9 ∷ []) (codes "**/foo" ++ 9 ∷ []) false false
unfolding parsed chars
git_tab = refl

git_spaces : parsed_line true (codes "foo  ") ≡ parsed (codes "foo") (codes "**/foo") false false
unfolding parsed chars
git_spaces = refl

git_blank : parsed_line true (codes "   ") ≡ None
git_blank = refl

git_comment : parsed_line true (codes "# ") ≡ None
git_comment = refl

-- The number of a line.

-- of a comment after a mark, a blank line and `b` the rule has the number 3
third_line : (path : List ℕ) (new : Building) → AddsLineOf (begun []) (line_of_file path 3) (codes "b") new
    → AddsLines path 1 (Ok (mark ++ codes "#a") ∷ (Ok [] ∷ (Ok (codes "b") ∷ []))) (begun []) new []
unfolding trim_end chars encode_utf8
third_line path new h =
    added 1 (mark ++ codes "#a") (Ok [] ∷ (Ok (codes "b") ∷ [])) (begun []) (begun []) new [] (None, refl, refl)
    (added 2 [] (Ok (codes "b") ∷ []) (begun []) (begun []) new [] (None, refl, refl)
    (added 3 (codes "b") [] (begun []) new new [] h (done 4 new)))
