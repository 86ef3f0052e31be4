-- Worked reasons, as C is told them, and worked folders of paths, as git asks them.
use Rattle.std.proofs.Common.{◌≡◌, true, false, [], ◌∷◌, codes, None, Some, Err, refl}
use Rattle.ignore_base.specs.declared.match_result.Match.TheVariants.{Ignore, Whitelist}
use Rattle.ignore_base.specs.declared.match_result.Match.TheVariants.{None as NoMatch}
use Rattle.ignore_rules.specs.Rules.{Rule}
use Rattle.ignore_kept.specs.AsGit.{first_ignored, folders, ignore_or, own_answer}
use Rattle.ignore_kept.specs.Explained.{alone, parts_given, texts_of, told_as, why_parts}
use Rattle.ignore_kept.specs.declared.stopped.Stopped.TheVariants.{Memory}
use Rattle.ignore_why.specs.Cited.{Named}
use Rattle.ignore_why.specs.Cited.Cited.{on_override, on_rule, on_type, on_name}
use Rattle.ignore_why.specs.QueryWhy.QueryWhy.{unasked, decided, larger, inside}
use Rattle.ignore_why.specs.declared.cause.RuleRank.TheVariants.{Gitignore, Explicit}

-- the third line of `/t/.gitignore`
abbrev third_line : Named
third_line =
    record {
      rank = Gitignore;
      directory = Some (codes "/t/");
      from = Some (codes "/t/.gitignore");
      line = Some 3;
      original = codes "*.o";
      is_whitelist = false;
    }

-- it has the kind 6 and the list 3, its numbers, and its texts: the directory, the file, the line
pub a_rule : (told_as (why_parts (decided (Ignore (on_rule third_line))))
    ≡ record {
      kind = 6;
      rank = 3;
      line = 3;
      size = 0;
      limit = 0;
      directory = 3;
      source = 13;
      pattern = 3;
      glob = 0;
      ancestor = 0;
      has_source = true;
      is_inside = false;
    })
    × (texts_of (why_parts (decided (Ignore (on_rule third_line)))) ≡ codes "/t//t/.gitignore*.o")
a_rule = (refl, refl)

-- in the folder `a/b` that it ignores, the reason is that of the folder, and the folder is told last
pub in_a_folder : (told_as (why_parts (inside (codes "a/b") (Ignore (on_rule third_line))))
    ≡ record (told_as (why_parts (decided (Ignore (on_rule third_line))))) { ancestor = 3; is_inside = true })
    × (texts_of (why_parts (inside (codes "a/b") (Ignore (on_rule third_line)))) ≡ codes "/t//t/.gitignore*.oa/b")
in_a_folder = (refl, refl)

-- a rule that was added by name has no directory; one without a source is told so
pub bare : texts_of (why_parts (decided (Ignore (on_rule (record third_line { rank = Explicit; directory = None; from = None })))))
    ≡ codes "*.o"
bare = refl

-- other reasons have their kind, and what belongs to it
pub others : (why_parts unasked ≡ alone 1) × (why_parts (decided NoMatch) ≡ alone 5)
    × (why_parts (decided (Whitelist (on_override (Some (codes "*.c"))))) ≡ record (alone 7) { pattern = codes "*.c" })
    × (why_parts (decided (Ignore (on_override None))) ≡ alone 8)
    × (why_parts (decided (Ignore (on_type (Some (record { name = codes "c"; glob = codes "*.h" })))))
    ≡ record (alone 9) { pattern = codes "c"; glob = codes "*.h" })
    × (why_parts (decided (Ignore on_name)) ≡ alone 11) × (why_parts (larger 5 4) ≡ record (alone 12) { size = 5; limit = 4 })
    × (parts_given (Err Memory) ≡ alone 0)
others = (refl, refl, refl, refl, refl, refl, refl, refl)

-- `a/b/c` is in `a` and in `a/b`; `a`, the root and `/a` are in none but the root
pub in_folders : (folders (codes "a/b/c") ≡ codes "a" ∷ codes "a/b" ∷ []) × (folders (codes "a") ≡ []) × (folders (codes "") ≡ [])
    × (folders (codes "/a") ≡ []) × (folders (codes "/a/b") ≡ codes "/a" ∷ [])
in_folders = (refl, refl, refl, refl, refl)

-- a folder that is ignored decides, and one that is whitelisted leaves it to the path
pub from_the_top : (rule own : Rule) → (ignore_or (Ignore rule) (Whitelist own) ≡ Ignore rule)
    × (ignore_or (Whitelist rule) (Ignore own) ≡ Ignore own) × (ignore_or (Whitelist rule) NoMatch ≡ NoMatch)
    × (own_answer (rule ∷ []) [] true ≡ NoMatch) × (first_ignored (rule ∷ []) [] ≡ NoMatch)
from_the_top rule own = (refl, refl, refl, refl, refl)
