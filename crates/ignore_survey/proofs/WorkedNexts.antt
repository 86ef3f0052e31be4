-- What the answers of a survey's `next` may be, in small cases, and what a stack stands for.
use Rattle.std.proofs.Common.{◌≡◌, ◌≢◌, ◌⊎◌, ◌+◌, ℕ, suc, true, false, List, [], ◌∷◌, ◌++◌, Option, None, Some, option_map, Result, Ok, Err, inl, inr, codes, refl, sym, ◌∙◌, ap}
use Rattle.std.proofs.Common.{Bool, string_bytes, if◌then◌else◌}
use Rattle.ignore_base.specs.Paths.{join_of}
use Rattle.ignore_base.specs.Problem.{at_path, io, memory, problem_of}
use Rattle.ignore_base.specs.Text.{Path}
use Rattle.ignore_base.specs.declared.error.Error.{Error}
use Rattle.ignore_base.specs.declared.fault.Fault.TheVariants.{BadName, StepLimit}
use Rattle.ignore_dir.specs.Scene.{QueryScene}
use Rattle.ignore_files.specs.Kinds.{is_dir}
use Rattle.ignore_files.specs.declared.files.Files.{Ghosts as Files}
use Rattle.ignore_files.specs.declared.types.FileType.TheVariants.{Dir as dir_kind, File as file_kind}
use Rattle.ignore_files.specs.declared.types.Listed.TheVariants as thing
use Rattle.ignore_files.specs.Gives.{IsHonest}
use Rattle.ignore_query.specs.declared.kept.Cache.{Cache}
use Rattle.ignore_query.specs.Agrees.{Agrees}
use Rattle.ignore_query.specs.Needs.{Stays}
use Rattle.ignore_query.specs.Reports.{reported}
use Rattle.ignore_survey.specs.Finished.{IsEnd, IsFinished}
use Rattle.ignore_survey.specs.Middle.{GoesOn}
use Rattle.ignore_survey.specs.Nexts.{EndsBy, IsLast, NextGives, Nexts, Remaining, Shows, items_at_most}
use Rattle.ignore_survey.specs.Stands.{InTurn, Left, Precedes, Stands, Waits, found_at, next_dir}
use Rattle.ignore_survey.specs.Suits.{LeavesNext, ReportsNext, Suits}
use Rattle.ignore_survey.specs.Survey.{Entry, Item}
use Rattle.ignore_survey.specs.Surveyed.{item_of}
use Rattle.ignore_survey.specs.declared.stack.Stack.{Stack}
use Rattle.ignore_survey.specs.declared.survey.Survey.{Survey}
use Rattle.ignore_survey.specs.declared.surveyed.Surveyed.{Surveyed}
use Rattle.ignore_survey.proofs.WorkedSurvey.{g as whole, ways}

-- the limit, as an item
abbrev limit : Item
limit = Err (io StepLimit)

abbrev out_of_memory : Item
out_of_memory = Err memory

not_memory : limit ≡ out_of_memory → ⊥
not_memory h = cc (h)

-- the limit ends a survey where no item may follow and some remained

pub limit_told : (item : Item) (items : List Item) → EndsBy limit 0 (item ∷ items)
limit_told item items = inr (refl, (refl, some))
  where
    some : item ∷ items ≢ []
    some e = cc (e)

pub not_before_the_limit : (left : ℕ) (items : List Item) → EndsBy limit (suc left) items → ⊥
not_before_the_limit left items (inl h) = not_memory h
not_before_the_limit left items (inr h) = let e = h.1.0 in cc (e)

pub not_where_none_remain : (left : ℕ) → EndsBy limit left [] → ⊥
not_where_none_remain left (inl h) = not_memory h
not_where_none_remain left (inr h) = h.1.1 refl

-- and no entry does
pub no_entry_ends : (e : Entry) (left : ℕ) (items : List Item) → EndsBy (Ok e) left items → ⊥
no_entry_ends e left items (inl h) = by h
  where
    by : let x : Item = Ok e in x ≡ out_of_memory → ⊥
    by h = cc (h)
no_entry_ends e left items (inr h) = by h.0
  where
    by : let x : Item = Ok e in x ≡ limit → ⊥
    by h = cc (h)

pub last_is_no_entry : (e : Entry) (left : ℕ) → IsLast (Some (Ok e)) left → ⊥
last_is_no_entry e left (inl h) = no_entry_ends e left [] (inl h)
last_is_no_entry e left (inr h) = by h.0
  where
    by : let x : Item = Ok e in x ≡ limit → ⊥
    by h = cc (h)

pub last_within_the_limit : (left : ℕ) → IsLast (Some limit) (suc left) → ⊥
last_within_the_limit left (inl h) = not_memory h
last_within_the_limit left (inr h) = let e = h.1 in cc (e)

-- an ended survey has no item to come, and another has one more than those that may follow
pub how_many : {F : Type 0} (s : Survey F) → (s.ended ≡ true → items_at_most s ≡ 0) × (s.ended ≡ false → items_at_most s ≡ s.left + 1)
how_many s = (λ e. ap (λ (b : Bool). if b then 0 else s.left + 1) e, λ e. ap (λ (b : Bool). if b then 0 else s.left + 1) e)

module _ {F : Type 0} (files : Files F) (g : QueryScene) (a b : Survey F) where
  -- none is answered where none remains; else it is the first of them, or the survey ends

  pub none_where_some_remain : (item : Item) (items : List Item) → Nexts files g a None b (item ∷ items) → ⊥
  none_where_some_remain item items h = cc (h)

  pub the_first_or_the_end : (x item : Item) (items : List Item) → Nexts files g a (Some x) b (item ∷ items) → (item ≡ x) ⊎ (b.ended ≡ true)
  the_first_or_the_end x item items (inl h) = inl (head h.others h.are)
    where
      head : (others : List Item) → item ∷ items ≡ x ∷ others → item ≡ x
      head others e = cc (e)
  the_first_or_the_end x item items (inr h) = inr h.1

  some_where_none_remain : (x : Item) → Nexts files g a (Some x) b [] → x ≡ out_of_memory
  some_where_none_remain x (inl h) = absurd (no h.others h.are)
    where
      no : (others : List Item) → [] ≡ x ∷ others → ⊥
      no others e = cc (e)
  some_where_none_remain x (inr (inl h, over)) = h
  some_where_none_remain x (inr (inr h, over)) = absurd (h.1.1 refl)

  pub where_none_remain : (answer : Option (Result Surveyed Error)) → NextGives files a answer b → Remaining files g a []
      → (option_map item_of answer ≡ None) ⊎ (option_map item_of answer ≡ Some out_of_memory)
  where_none_remain answer h r = by (option_map item_of answer) (h.given g [] r)
    where
      by : (o : Option Item) → Nexts files g a o b [] → (o ≡ None) ⊎ (o ≡ Some out_of_memory)
      by None n = inl refl
      by (Some x) n = inr (ap Some (some_where_none_remain x n))

  -- an ended survey answers none, and stays ended
  pub after_the_end : (answer : Option (Result Surveyed Error)) → NextGives files a answer b → a.ended ≡ true
      → (answer ≡ None) × (b.ended ≡ true)
  after_the_end answer h over = (h.over over, h.none (h.over over))

  -- over any files: a survey that goes on stays over these and its matcher keeps what it kept, and what
  -- was answered counts
  pub over_any_files : (answer : Option (Result Surveyed Error)) → NextGives files a answer b → b.ended ≡ false
      → (b.files ≡ a.files) × (b.matcher.asked ≡ a.matcher.asked) × Stays a.matcher.cache b.matcher.cache × (a.left ≡ suc b.left)
  over_any_files answer h on =
      (h.same_files, h.grows.same, h.grows.stays, h.counted ∙ ap (λ (over : Bool). if over then b.left else suc b.left) on)

  -- where an entry is handed out one fewer may follow, and the survey goes on in the same scene
  pub after_an_entry : (e : Entry) (items : List Item) → Nexts files g a (Some (Ok e)) b items
      → (a.left ≡ suc b.left) × (b.ended ≡ false) × Suits files b.files.now b.matcher g
  after_an_entry e items (inl h) = (h.left, h.rest.goes_on, h.rest.suits)
  after_an_entry e items (inr h) = absurd (no_entry_ends e a.left items h.0)

  -- a scene that suits is over a tree with which the files are consistent, and what is kept agrees
  pub what_suits : Suits files a.files.now a.matcher g → IsHonest files a.files.now g.tree × Agrees g a.matcher.cache
  what_suits h = (h.honest, h.agrees)

  -- an entry leaves what was kept, and where none is answered, all stays as it was
  pub kept_after : (old new : Cache) (over : Bool) → ((s : Surveyed) → LeavesNext g old (Some (Ok s)) over new → Stays old new)
      × (LeavesNext g old None over new → new ≡ old)
  kept_after old new over = (λ s h. h.stays, λ h. h)

  -- a fault among the items leaves what is kept as it was
  pub kept_at_a_fault : (old new : Cache) (e : Error) → LeavesNext g old (Some (Err e)) false new → new ≡ old
  kept_at_a_fault old new e (inl h) = absurd (no h)
    where
      no : false ≡ true → ⊥
      no over = cc (over)
  kept_at_a_fault old new e (inr h) = h

  -- the error beside an entry is that of its query
  pub error_of_the_query : (c : Cache) (s : Surveyed) (e : Error) → ReportsNext g c (Some (Ok s)) → s.error ≡ Some e
      → reported g c (string_bytes s.path) (is_dir s.file_type) ≡ Some (problem_of e)
  error_of_the_query c s e h is = sym h ∙ ap (λ (o : Option Error). option_map problem_of o) is

-- a survey was finished by an entry or by the fault of a directory, and neither by the limit nor by out of
-- memory

pub finished : (e : Entry) → IsFinished (Ok e ∷ (Err (at_path (codes "/t") (io BadName)) ∷ []))
finished e = (entry, (fault, tt))
  where
    entry : IsEnd (Ok e) → ⊥
    entry (inl h) = no_entry_ends e 0 [] (inl h)
    entry (inr h) = last_is_no_entry e 0 (inr (h, refl))

    fault : IsEnd (Err (at_path (codes "/t") (io BadName))) → ⊥
    fault (inl h) = cc (h)
    fault (inr h) = cc (h)

pub not_by_the_limit : (items : List Item) → IsFinished (limit ∷ items) → ⊥
not_by_the_limit items h = h.0 (inr refl)

pub not_by_out_of_memory : (items : List Item) → IsFinished (out_of_memory ∷ items) → ⊥
not_by_out_of_memory items h = h.0 (inl refl)

-- none shows that nothing remained, and an item after which the survey goes on that it was the first

pub shown_at_the_end : {F : Type 0} (g : QueryScene) (s : Stack) (b : Survey F) → Shows g s None b → Stands g s []
shown_at_the_end g s b h = h

pub shown_before : {F : Type 0} (g : QueryScene) (s : Stack) (x : Item) (b : Survey F) → b.ended ≡ false → Shows g s (Some x) b
    → Precedes g s x b.stack
shown_before g s x b goes (inl h) = absurd (let e = sym goes ∙ h.1 in cc (e))
shown_before g s x b goes (inr h) = h.1

-- a survey goes on after the fault of a directory, and neither after the limit nor after out of memory

pub on_after_a_fault : (e : Error) → problem_of e ≡ at_path (codes "/t/a") (io BadName) → GoesOn (codes "/t") (Err e)
unfolding join_of
on_after_a_fault e is = record { dir = codes "a"; fault = BadName; is = is }

pub not_after_the_limit : (root : Path) (e : Error) → problem_of e ≡ io StepLimit → GoesOn root (Err e) → ⊥
not_after_the_limit root e is h = let same = sym is ∙ h.is in cc (same)

pub not_after_out_of_memory : (root : Path) (e : Error) → problem_of e ≡ memory → GoesOn root (Err e) → ⊥
not_after_out_of_memory root e is h = let same = sym is ∙ h.is in cc (same)

-- an empty stack gives nothing

pub empty_stack : (g : QueryScene) → InTurn (Waits g None) (Left g []) []
empty_stack g = record { own = []; outer = []; first = refl; rest = refl; are = refl }

pub nothing_more : (g : QueryScene) (items : List Item) → InTurn (Waits g None) (Left g []) items → items ≡ []
nothing_more g items h =
    h.are ∙ (ap (λ (l : List Item). l ++ h.outer) h.first ∙ h.rest)

-- of the survey of `/t` what is below `a` is to be listed next, and what is below `b` isn't; what a
-- directory lists has the path of that before it
pub next_dirs : (next_dir whole (codes "a") dir_kind ≡ Some (codes "a")) × (next_dir whole (codes "b") dir_kind ≡ None)
next_dirs = (ap (λ (b : Bool). if b then Some (codes "a") else None) ways.2, ap (λ (b : Bool). if b then Some (codes "b") else None) ways.4)

pub found_in_a : (found_at (codes "/t") (codes "a") (thing.Entry (codes "k") file_kind) ≡ Ok (codes "a/k", file_kind))
    × (found_at (codes "/t") (codes "a") (thing.Fault BadName) ≡ Err (at_path (codes "/t/a") (io BadName)))
    × (found_at (codes "/t") [] (thing.Fault BadName) ≡ Err (at_path (codes "/t") (io BadName)))
unfolding join_of
found_in_a = (refl, refl, refl)
