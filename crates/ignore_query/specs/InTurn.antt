-- Questions that a matcher is asked in turn.
use Rattle.std.specs.Prelude.{◌≡◌, ◌≢◌, Bool, true, List, [], ◌∷◌, None, Option}
use Rattle.ignore_base.specs.Problem.{Problem}
use Rattle.ignore_base.specs.Text.{Path}
use Rattle.ignore_dir.specs.Query.{limit_of, names_of}
use Rattle.ignore_dir.specs.Scene.{QueryScene}
use Rattle.ignore_query.specs.declared.kept.Cache.{Cache}
use Rattle.ignore_query.specs.Needs.{KeepsNeeded, Stays, is_decided, is_known, needed}
use Rattle.ignore_query.specs.Reports.{reported}

-- a question is about a path, and whether that is a directory
abbrev pub Question : Type 0
Question = Path × Bool

-- an answer is that from what is kept: all the directories that it needs are kept, and no size is asked
abbrev pub IsFromKept : QueryScene → Cache → Question → Type 0
IsFromKept g c q = (is_known g c (names_of q.0) ≡ true) × (limit_of g q.0 q.1 ≡ None)

-- what was kept before a question is `old`, and `new` after it: what was kept stays kept, and
-- exactly what the answer needs comes to it, where the rules decide
pub record Leaves (g : QueryScene) (q : Question) (old new : Cache) : Type 0 where
  pub stays : Stays old new
  pub kept : is_decided g q.0 q.1 ≡ true → KeepsNeeded (needed g (names_of q.0)) old new
  pub unchanged : is_decided g q.0 q.1 ≢ true → new ≡ old

-- questions in turn report these problems: each that of what it loads, by what was kept before it,
-- which is what the questions before it left kept
abbrev pub ReportInTurn : QueryScene → List Question → List (Option Problem) → Cache → Cache → Type 0
ReportInTurn g [] problems old new = (problems ≡ []) × (new ≡ old)
ReportInTurn g (q ∷ qs) problems old new =
    (between : Cache) × (rest : List (Option Problem)) × Leaves g q old between
    × (problems ≡ reported g old q.0 q.1 ∷ rest) × ReportInTurn g qs rest between new
