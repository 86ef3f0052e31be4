-- What a survey still gives, and what its `next` answers.
use Rattle.std.specs.Prelude.{◌≡◌, ◌≢◌, ◌⊎◌, ⊤, ℕ, suc, ◌+◌, true, false, List, [], ◌∷◌, Option, None, Some, option_map, Result, Err}
use Rattle.std.specs.Prelude.{IfSome, if◌then◌else◌, string_bytes}
use Rattle.ignore_base.specs.declared.error.Error.{Error}
use Rattle.ignore_base.specs.declared.fault.Fault.TheVariants.{StepLimit}
use Rattle.ignore_base.specs.Problem.{io, memory}
use Rattle.ignore_dir.specs.Scene.{QueryScene}
use Rattle.ignore_files.specs.declared.files.Files.{Ghosts as Files}
use Rattle.ignore_survey.specs.Finished.{IsEnd}
use Rattle.ignore_survey.specs.Middle.{GoesOn}
use Rattle.ignore_survey.specs.Stands.{Precedes, Stands}
use Rattle.ignore_survey.specs.Suits.{Grows, LeavesNext, ReportsNext, Suits}
use Rattle.ignore_survey.specs.Survey.{IsSurvey, Item}
use Rattle.ignore_survey.specs.Surveyed.{item_of}
use Rattle.ignore_survey.specs.declared.stack.Stack.{Stack}
use Rattle.ignore_survey.specs.declared.survey.Survey.{Survey}
use Rattle.ignore_survey.specs.declared.surveyed.Surveyed.{Surveyed}

-- a survey that wasn't ended suits a scene, and still gives these items
pub record Remaining {F : Type 0} (files : Files F) (g : QueryScene) (s : Survey F) (items : List Item) : Type 0 where
  pub suits : Suits files s.files.now s.matcher g
  pub goes_on : s.ended ≡ false
  pub stands : Stands g s.stack items

-- an item was handed out, the first of those that remained, and one fewer may follow
pub record Handed {F : Type 0} (files : Files F) (g : QueryScene) (a : Survey F) (item : Item) (b : Survey F) (items : List Item) : Type 0 where
  pub others : List Item
  pub are : items ≡ item ∷ others
  pub rest : Remaining files g b others
  pub left : a.left ≡ suc b.left

-- the survey was ended by an item: memory ran out; or no item may follow, and some remained
abbrev pub EndsBy : Item → ℕ → List Item → Type 0
EndsBy item left items = (item ≡ Err memory) ⊎ ((item ≡ Err (io StepLimit)) × ((left ≡ 0) × (items ≢ [])))

-- a survey that wasn't ended suits a scene, and what remains of it is what a survey of the scene's root
-- yields
pub record Starts {F : Type 0} (files : Files F) (g : QueryScene) (s : Survey F) : Type 0 where
  pub suits : Suits files s.files.now s.matcher g
  pub goes_on : s.ended ≡ false
  pub whole : (items : List Item) → Stands g s.stack items → IsSurvey g items

-- what `next` shows of a list, where this was in hand: by none, that nothing remained; by an item,
-- unless it ended the survey, that the item and then what remains now remained
abbrev pub Shows : {F : Type 0} → QueryScene → Stack → Option Item → Survey F → Type 0
Shows g s None b = Stands g s []
Shows g s (Some item) b = (IsEnd item × (b.ended ≡ true)) ⊎ ((b.ended ≡ false) × Precedes g s item b.stack)

-- what `next` answers where these items remain: none, where there are none; the first of them, and
-- then the others remain; or what ends the survey
abbrev pub Nexts : {F : Type 0} → Files F → QueryScene → Survey F → Option Item → Survey F → List Item → Type 0
Nexts files g a None b items = items ≡ []
Nexts files g a (Some item) b items = Handed files g a item b items ⊎ (EndsBy item a.left items × (b.ended ≡ true))

-- what a survey may end by: that there is no item more; that memory ran out; or the limit, and then
-- no item may follow
abbrev pub IsLast : Option Item → ℕ → Type 0
IsLast None left = ⊤
IsLast (Some item) left = (item ≡ Err memory) ⊎ ((item ≡ Err (io StepLimit)) × (left ≡ 0))

-- no more items than this are still to come, whatever the files answer: those that may follow, and
-- one that ends the survey
abbrev pub items_at_most : {F : Type 0} → Survey F → ℕ
items_at_most s = if s.ended then 0 else s.left + 1

-- what one `next` of a survey answers, and what it makes of the survey. For files that are
-- consistent with a tree it is an item of what remains (`given`), and shows that this exists
-- (`shows`), and what the matcher keeps then is what the query for that leaves, and still agrees with
-- the tree. For all files: it stays over these, and its matcher keeps what it kept; an ended survey
-- answers none; after none it is ended; unless it is ended then, one item fewer may follow, and the
-- item is an entry without out of memory in its error, or the fault of a directory; and where it was
-- ended now, that was its last answer
pub record NextGives {F : Type 0} (files : Files F) (a : Survey F) (answer : Option (Result Surveyed Error)) (b : Survey F)
    : Type 0 where
  pub given : (g : QueryScene) (items : List Item) → Remaining files g a items → Nexts files g a (option_map item_of answer) b items
  pub shows : (g : QueryScene) → Suits files a.files.now a.matcher g → a.ended ≡ false
      → Shows g a.stack (option_map item_of answer) b
  pub reports : (g : QueryScene) → Suits files a.files.now a.matcher g → ReportsNext g a.matcher.cache answer
  pub leaves : (g : QueryScene) → Suits files a.files.now a.matcher g → LeavesNext g a.matcher.cache answer b.ended b.matcher.cache
  pub suits : (g : QueryScene) → Suits files a.files.now a.matcher g → Suits files b.files.now b.matcher g
  pub same_files : b.files ≡ a.files
  pub grows : Grows files a.files.now a.matcher b.matcher
  pub over : a.ended ≡ true → answer ≡ None
  pub none : answer ≡ None → b.ended ≡ true
  pub counted : a.left ≡ (if b.ended then b.left else suc b.left)
  pub goes_on : b.ended ≡ false → IfSome answer (GoesOn (string_bytes a.matcher.asked.root))
  pub last : a.ended ≡ false → b.ended ≡ true → IsLast (option_map item_of answer) b.left
