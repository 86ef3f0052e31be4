-- What a list says of a question, and whether two lists say the same.
use Rattle.std.specs.Prelude.{◌≡◌, ◌≢◌, ◌<◌, ◌⊎◌, ℕ, Bool, true, false, List, ◌∷◌, ◌++◌, Option, None, Some, slice_get, length, string_bytes}
use Rattle.std.specs.Str.{chars}
use Rattle.ignore_base.specs.Text.{Chars, slash}
use Rattle.ignore_base.specs.declared.match_result.Match.{Match}
use Rattle.ignore_base.specs.declared.match_result.Match.TheVariants as M
use Rattle.ignore_rules.specs.Answer.{does_apply, list_answer}
use Rattle.ignore_rules.specs.Rules.{Rule}
use Rattle.ignore_every.specs.declared.said.Comparison.{Comparison}
use Rattle.ignore_every.specs.declared.said.Comparison.TheVariants.{Same, Differ}
use Rattle.ignore_every.specs.declared.said.Counted.{Counted}
use Rattle.ignore_every.specs.declared.said.Counted.TheVariants as C
use Rattle.ignore_every.specs.declared.said.Difference.{Difference}
use Rattle.ignore_every.specs.declared.said.Said.{Said}
use Rattle.ignore_every.specs.declared.said.Said.TheVariants as S
use Rattle.ignore_every.specs.declared.said.Verdict.{Verdict}
use Rattle.ignore_every.specs.declared.said.Verdict.TheVariants as V
use Rattle.ignore_every.specs.Findings.{IsInFolder}
use Rattle.ignore_every.specs.Machines.{ignores}
use Rattle.ignore_every.specs.Questions.{IsClean, IsIgnored, HasNoIgnoredAncestor, Decides}

-- a proper ancestor of the path is ignored when it is asked as a directory
abbrev pub HasIgnoredAncestor : List Rule → Chars → Type 0
HasIgnoredAncestor rules path = (above : Chars) × (below : Chars) × (path ≡ above ++ slash ∷ below) × IsIgnored rules above true

-- the verdict of an answer
abbrev pub verdict_of : Match Rule → Verdict
verdict_of M.None = V.None
verdict_of (M.Ignore rule) = V.Ignore
verdict_of (M.Whitelist rule) = V.Whitelist

-- what a list says of a question: where it is reached, the verdict of the list's answer; where an
-- ancestor is ignored, ignore
abbrev pub Says : List Rule → Chars → Bool → Verdict → Type 0
Says rules path is_dir verdict =
    (HasNoIgnoredAncestor rules path × (verdict ≡ verdict_of (list_answer rules path is_dir)))
    ⊎ (HasIgnoredAncestor rules path × (verdict ≡ V.Ignore))

-- as which verdict one counts: each for itself, or none and whitelist as one
abbrev pub counted_as : Counted → Verdict → Verdict
counted_as C.Verdicts verdict = verdict
counted_as C.Ignored V.None = V.None
counted_as C.Ignored V.Ignore = V.Ignore
counted_as C.Ignored V.Whitelist = V.None

-- both lists say of the question what counts as the same
abbrev pub SayAlike : Counted → List Rule → List Rule → Chars → Bool → Type 0
SayAlike counted old new path is_dir =
    (v : Verdict) × (w : Verdict) × Says old path is_dir v × Says new path is_dir w × (counted_as counted v ≡ counted_as counted w)

-- so it is at every question
abbrev pub SaySame : Counted → List Rule → List Rule → Type 0
SaySame counted old new = (path : Chars) (is_dir : Bool) → IsClean path → SayAlike counted old new path is_dir

-- at a question that is reached, the rule with this index decides
abbrev pub DecidesReached : List Rule → ℕ → Chars → Bool → Type 0
DecidesReached rules index path is_dir = HasNoIgnoredAncestor rules path × Decides rules index path is_dir

-- what is said of the question is so
abbrev pub IsSaid : List Rule → Chars → Bool → Said → Type 0
IsSaid rules path is_dir S.Nothing =
    HasNoIgnoredAncestor rules path × ((i : ℕ) (rule : Rule) → slice_get rules i ≡ Some rule → does_apply path is_dir rule ≡ false)
IsSaid rules path is_dir (S.Ignored index) = DecidesReached rules index path is_dir × (ignores rules (Some index) ≡ true)
IsSaid rules path is_dir (S.Whitelisted index) = DecidesReached rules index path is_dir × (ignores rules (Some index) ≡ false)
IsSaid rules path is_dir (S.InFolder folder) = IsInFolder rules path (chars (string_bytes folder.path)) folder.rule

-- the verdict of what is said
abbrev pub said_verdict : Said → Verdict
said_verdict S.Nothing = V.None
said_verdict (S.Ignored index) = V.Ignore
said_verdict (S.Whitelisted index) = V.Whitelist
said_verdict (S.InFolder folder) = V.Ignore

-- the rule by which it is said, if any: the one that decides, or the one that ignores the folder
abbrev pub said_rule : Said → Option ℕ
said_rule S.Nothing = None
said_rule (S.Ignored index) = Some index
said_rule (S.Whitelisted index) = Some index
said_rule (S.InFolder folder) = Some folder.rule

-- a question at which what the lists say counts as different
pub record IsDifference (counted : Counted) (old new : List Rule) (path : Chars) (is_dir : Bool) (before after : Said) : Type 0 where
  pub clean : IsClean path
  pub said_before : IsSaid old path is_dir before
  pub said_after : IsSaid new path is_dir after
  pub differ : counted_as counted (said_verdict before) ≢ counted_as counted (said_verdict after)

-- at each question that is shorter, both lists say what counts as the same
abbrev pub SayAlikeBefore : Counted → List Rule → List Rule → ℕ → Type 0
SayAlikeBefore counted old new bound =
    (path : Chars) (is_dir : Bool) → IsClean path → length path < bound → SayAlike counted old new path is_dir

-- the lists differ so at this question
abbrev pub AreDifferentAt : Counted → List Rule → List Rule → Difference → Type 0
AreDifferentAt counted old new d =
    IsDifference counted old new (chars (string_bytes d.question.path)) d.question.is_dir d.old d.new

-- and at none that is shorter
abbrev pub AreFirstDifferentAt : Counted → List Rule → List Rule → Difference → Type 0
AreFirstDifferentAt counted old new d =
    AreDifferentAt counted old new d × SayAlikeBefore counted old new (length (chars (string_bytes d.question.path)))

-- what is found of both lists is so
abbrev pub IsComparison : Counted → List Rule → List Rule → Comparison → Type 0
IsComparison counted old new Same = SaySame counted old new
IsComparison counted old new (Differ d) = AreFirstDifferentAt counted old new d
