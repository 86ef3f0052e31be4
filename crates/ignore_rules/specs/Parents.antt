-- The parents of a path, and the answer of rules for a path together with its parents.
use Rattle.std.specs.Prelude.{ℕ, ◌==◌, Bool, true, not, ◌||◌, List, [], ◌∷◌, length, map, reverse, if◌then◌else◌}
use Rattle.std.specs.Str.{chars}
use Rattle.ignore_base.specs.Text.{Chars, Path, is_slash}
use Rattle.ignore_base.specs.declared.match_result.Match.{Match}
use Rattle.ignore_base.specs.declared.match_result.Match.TheVariants.{None}
use Rattle.ignore_base.specs.Match.{match_or}
use Rattle.ignore_base.specs.Paths.{is_absolute, strip_of}
use Rattle.ignore_rules.specs.Rules.{Rule, Ruleset}
use Rattle.ignore_rules.specs.Answer.{list_answer}

-- the prefixes of a path with first character c, given those of the rest
abbrev pub slash_prefixes_from : ℕ → List Chars → List Chars
slash_prefixes_from c slash_prefixes =
    if is_slash c then [] ∷ map (λ prefix. c ∷ prefix) slash_prefixes else map (λ prefix. c ∷ prefix) slash_prefixes

-- the prefixes of a path before each of its slashes, the shortest first
abbrev pub slash_prefixes : Chars → List Chars
slash_prefixes [] = []
slash_prefixes (c ∷ path) = slash_prefixes_from c (slash_prefixes path)

-- the parents of a path, the nearest first: what precedes its last slash, the slash before that,
-- and so on; the last parent is the empty path, which has no parent
abbrev pub parents : Chars → List Chars
parents [] = []
parents (c ∷ path) = reverse ([] ∷ slash_prefixes (c ∷ path))

-- the first answer that is a match
abbrev pub first_match : List (Match Rule) → Match Rule
first_match [] = None
first_match (answer ∷ answers) = match_or answer (first_match answers)

-- the answer of rules for the first of these directories that has a match
abbrev pub directories_answer : List Rule → List Chars → Match Rule
directories_answer rules texts = first_match (map (λ text. list_answer rules text true) texts)

-- the answer of rules for a text, or else for the nearest of its parents that has a match; parents
-- are directories
abbrev pub nearest_answer : List Rule → Chars → Bool → Match Rule
nearest_answer rules text is_dir = match_or (list_answer rules text is_dir) (directories_answer rules (parents text))

-- the same for a path and rules relative to a root
abbrev pub answer_with_parents : Path → List Rule → Path → Bool → Match Rule
answer_with_parents root rules path is_dir = nearest_answer rules (chars (strip_of root path)) is_dir

-- the path can be matched with its parents: there are no rules, or the path without the root
-- doesn't begin with a slash
abbrev pub is_under_root : Ruleset → Path → Bool
is_under_root g path = length g.rules == 0 || not (is_absolute (strip_of g.root path))
