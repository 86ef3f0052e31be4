-- What rules say of a path as git asks them: from the root down.
use Rattle.std.specs.Prelude.{Bool, true, false, List, [], ◌∷◌, filter}
use Rattle.std.specs.Str.{chars}
use Rattle.ignore_base.specs.Paths.{strip_of}
use Rattle.ignore_base.specs.Text.{Path}
use Rattle.ignore_base.specs.declared.match_result.Match.{Match}
use Rattle.ignore_base.specs.declared.match_result.Match.TheVariants.{None, Ignore, Whitelist}
use Rattle.ignore_rules.specs.Answer.{list_answer}
use Rattle.ignore_rules.specs.Parents.{slash_prefixes}
use Rattle.ignore_rules.specs.Rules.{Rule, Ruleset}

-- a directory below the root, which isn't that itself
abbrev pub is_named : Path → Bool
is_named [] = false
is_named (c ∷ front) = true

-- the directories that a path below the root is in, the nearest to the root first: what precedes each
-- of its slashes but one at its start. They are `a` and `a/b` of `a/b/c`
abbrev pub folders : Path → List Path
folders path = filter is_named (slash_prefixes path)

-- a match where it ignores, else another one
abbrev pub ignore_or : Match Rule → Match Rule → Match Rule
ignore_or (Ignore rule) other = Ignore rule
ignore_or None other = other
ignore_or (Whitelist rule) other = other

-- the match of the first of these directories that is ignored; none where none is
abbrev pub first_ignored : List Rule → List Path → Match Rule
first_ignored rules [] = None
first_ignored rules (front ∷ fronts) = ignore_or (list_answer rules (chars front) true) (first_ignored rules fronts)

-- the match of a path below the root; none of the root itself
abbrev pub own_answer : List Rule → Path → Bool → Match Rule
own_answer rules [] is_dir = None
own_answer rules (c ∷ path) is_dir = list_answer rules (chars (c ∷ path)) is_dir

-- the first ignored directory that a path is in decides, and else the path itself; the root isn't
-- asked
abbrev pub answer_as_git : Ruleset → Path → Bool → Match Rule
answer_as_git g path is_dir =
    ignore_or (first_ignored g.rules (folders (strip_of g.root path))) (own_answer g.rules (strip_of g.root path) is_dir)
