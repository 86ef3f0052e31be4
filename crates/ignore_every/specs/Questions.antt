-- Questions: clean relative paths, which of them rules reach, and which rule decides.
use Rattle.std.specs.Prelude.{◌≡◌, ◌≢◌, ◌<◌, ℕ, Bool, true, false, List, [], ◌∷◌, ◌++◌, Some, slice_get, All}
use Rattle.std.specs.Char.{IsScalar}
use Rattle.ignore_base.specs.Text.{Chars, slash}
use Rattle.ignore_base.specs.declared.match_result.Match.TheVariants.{Ignore}
use Rattle.ignore_rules.specs.Answer.{does_apply, list_answer}
use Rattle.ignore_rules.specs.Rules.{Rule}

-- a character that a name may have: any but the slash and NUL
abbrev pub IsNameCharacter : ℕ → Type 0
IsNameCharacter c = IsScalar c × (c ≢ slash) × (c ≢ 0)

-- a name: not empty, and neither `.` nor `..`
pub record IsCleanName (name : Chars) : Type 0 where
  pub characters : All IsNameCharacter name
  pub filled : name ≢ []
  pub no_dot : name ≢ 46 ∷ []
  pub no_dots : name ≢ 46 ∷ 46 ∷ []

-- names joined by single slashes
abbrev pub path_of : Chars → List Chars → Chars
path_of name [] = name
path_of name (next ∷ names) = name ++ slash ∷ path_of next names

-- a clean relative path: at least one name, joined by single slashes
pub record IsClean (path : Chars) : Type 0 where
  pub first : Chars
  pub others : List Chars
  pub clean_first : IsCleanName first
  pub clean_others : All IsCleanName others
  pub joined : path ≡ path_of first others

-- the rules ignore the path
abbrev pub IsIgnored : List Rule → Chars → Bool → Type 0
IsIgnored rules path is_dir = (rule : Rule) × (list_answer rules path is_dir ≡ Ignore rule)

-- no proper ancestor of the path is ignored when it is asked as a directory
abbrev pub HasNoIgnoredAncestor : List Rule → Chars → Type 0
HasNoIgnoredAncestor rules path = (above below : Chars) → path ≡ above ++ slash ∷ below → IsIgnored rules above true → ⊥

-- a clean path that is reached: the root isn't asked, and no other ancestor is ignored
abbrev pub IsReached : List Rule → Chars → Type 0
IsReached rules path = IsClean path × HasNoIgnoredAncestor rules path

-- a clean path, and where only reached ones are asked about, one that is reached
abbrev pub IsAsked : Bool → List Rule → Chars → Type 0
IsAsked false rules path = IsClean path
IsAsked true rules path = IsReached rules path

-- the rule with this index decides: it applies, and no later one does
pub record Decides (rules : List Rule) (index : ℕ) (path : Chars) (is_dir : Bool) : Type 0 where
  pub rule : Rule
  pub place : slice_get rules index ≡ Some rule
  pub applies : does_apply path is_dir rule ≡ true
  pub last : (i : ℕ) (later : Rule) → index < i → slice_get rules i ≡ Some later → does_apply path is_dir later ≡ false
