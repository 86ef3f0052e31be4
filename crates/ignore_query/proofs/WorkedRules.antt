-- Worked: below `/`, the root's rules are kept, and those of `a`, whose level has the offset 3.
use Rattle.std.proofs.Common.{◌≡◌, ℕ, ◌+◌, ◌==◌, ◌++◌, [], ◌∷◌, List, Some, None, cond, codes, length, map, string_bytes, ap, ◌∙◌}
use Rattle.ignore_dir.specs.declared.dir.Dir.{Dir}
use Rattle.ignore_levels.specs.Levels.{level_at, slots_of}
use Rattle.ignore_levels.specs.declared.list.Level.{Level}
use Rattle.ignore_levels.specs.declared.list.Place.{Place}
use Rattle.ignore_rules.specs.Rules.{Rule}
use Rattle.ignore_why.specs.declared.cause.RuleRank.TheVariants.{Custom, Ignore, Gitignore, Exclude}
use Rattle.ignore_query.specs.declared.kept.Cache.{Cache}
use Rattle.ignore_query.specs.declared.kept.Kept.TheVariants.{Loaded}
use Rattle.ignore_query.specs.KeptRules.{level_from, named_in, own_level, rules_in}

from_by : (c : Cache) (at : Place) (level : Level) (n : ℕ) → level_at (slots_of c.levels) at ≡ Some level → string_bytes c.base ≡ codes "/"
    → level.offset ≡ 3 → level_from (length (string_bytes c.base) + n) (level_at (slots_of c.levels) at) ≡ cond (3 == 1 + n) (Some level) None
from_by c at level n l b o =
    ap (level_from (length (string_bytes c.base) + n)) l
    ∙ (ap (λ (t : List ℕ). cond (level.offset == length t + n) (Some level) None) b ∙ ap (λ k. cond (k == 1 + n) (Some level) None) o)

-- the level is that of `a`
pub level_of_a : (c : Cache) (at : Place) (level : Level) → level_at (slots_of c.levels) at ≡ Some level → string_bytes c.base ≡ codes "/"
    → level.offset ≡ 3 → own_level c (codes "a/") (Loaded (Some at)) ≡ Some level
level_of_a c at level l b o = from_by c at level 2 l b o

-- and not that of `a/b`, which has no rules and stands at the place of `a`
pub none_of_b : (c : Cache) (at : Place) (level : Level) → level_at (slots_of c.levels) at ≡ Some level → string_bytes c.base ≡ codes "/"
    → level.offset ≡ 3 → own_level c (codes "a/b/") (Loaded (Some at)) ≡ None
none_of_b c at level l b o = from_by c at level 4 l b o

-- a rule of `.ignore` comes before one of `.gitignore`
pub in_order : (dir : Dir) (a b : Rule) → dir.custom.rules ≡ [] → dir.ignore.rules ≡ a ∷ [] → dir.gitignore.rules ≡ b ∷ [] → dir.exclude.rules ≡ []
    → rules_in (codes "/a/") dir ≡ named_in (codes "/a/") Ignore a ∷ (named_in (codes "/a/") Gitignore b ∷ [])
in_order dir a b c i g e =
    let name = named_in (codes "/a/") in
    ap (λ (l : List Rule). map (name Custom) l ++ (map (name Ignore) dir.ignore.rules ++ (map (name Gitignore) dir.gitignore.rules
    ++ map (name Exclude) dir.exclude.rules))) c
    ∙ (ap (λ (l : List Rule). map (name Ignore) l ++ (map (name Gitignore) dir.gitignore.rules ++ map (name Exclude) dir.exclude.rules)) i
    ∙ (ap (λ (l : List Rule). name Ignore a ∷ (map (name Gitignore) l ++ map (name Exclude) dir.exclude.rules)) g
    ∙ ap (λ (l : List Rule). name Ignore a ∷ (name Gitignore b ∷ map (name Exclude) l)) e))
