-- Which scenes files and a matcher suit, and what a survey reports beside its entries.
use Rattle.std.specs.Prelude.{◌≡◌, ◌⊎◌, Bool, true, ⊤, Option, None, Some, option_map, Result, Ok, Err, string_bytes}
use Rattle.ignore_base.specs.Problem.{problem_of}
use Rattle.ignore_base.specs.declared.error.Error.{Error}
use Rattle.ignore_dir.specs.Load.{AreLoads}
use Rattle.ignore_dir.specs.Scene.{QueryScene}
use Rattle.ignore_files.specs.Gives.{IsHonest}
use Rattle.ignore_files.specs.Kinds.{is_dir}
use Rattle.ignore_files.specs.declared.files.Files.{Ghosts as Files}
use Rattle.ignore_query.specs.Agrees.{Agrees}
use Rattle.ignore_query.specs.InTurn.{Leaves}
use Rattle.ignore_query.specs.KeptLoads.{KeepsLoads}
use Rattle.ignore_query.specs.Needs.{Stays}
use Rattle.ignore_query.specs.Reached.{scene_of}
use Rattle.ignore_query.specs.Reports.{reported}
use Rattle.ignore_query.specs.declared.incremental.IncrementalIgnore.{IncrementalIgnore}
use Rattle.ignore_query.specs.declared.kept.Cache.{Cache}
use Rattle.ignore_survey.specs.declared.surveyed.Surveyed.{Surveyed}

-- files and a matcher suit a scene: it is one of the matcher over a tree with which the files are
-- consistent, and what the matcher keeps agrees with it
pub record Suits {F : Type 0} (files : Files F) (f : F) (m : IncrementalIgnore) (g : QueryScene) : Type 0 where
  pub honest : IsHonest files f g.tree
  pub loads : AreLoads g.tree g.settings g.loads
  pub scene : g ≡ scene_of m.asked g.tree g.loads
  pub agrees : Agrees g m.cache

-- a matcher still asks about the same, what it kept stays kept, and what comes to it was loaded by
-- answers of the files
pub record Grows {F : Type 0} (files : Files F) (f : F) (old new : IncrementalIgnore) : Type 0 where
  pub same : new.asked ≡ old.asked
  pub stays : Stays old.cache new.cache
  pub loaded : KeepsLoads files f old.asked old.cache new.cache

-- the error beside an entry is what the query for it reports, by what the matcher kept before
abbrev pub Reports : QueryScene → Cache → Result Surveyed Error → Type 0
Reports g c (Err e) = ⊤
Reports g c (Ok s) = option_map problem_of s.error ≡ reported g c (string_bytes s.path) (is_dir s.file_type)

-- what is kept after an item, where `old` was kept before it: what the query for an entry leaves, and
-- the same as before after another item
abbrev pub LeavesKept : QueryScene → Cache → Result Surveyed Error → Cache → Type 0
LeavesKept g old (Ok s) new = Leaves g (string_bytes s.path, is_dir s.file_type) old new
LeavesKept g old (Err e) new = new ≡ old

-- the same of the answer of `next`; nothing is said of an error that ends the survey
abbrev pub LeavesNext : QueryScene → Cache → Option (Result Surveyed Error) → Bool → Cache → Type 0
LeavesNext g old None over new = new ≡ old
LeavesNext g old (Some (Ok s)) over new = LeavesKept g old (Ok s) new
LeavesNext g old (Some (Err e)) over new = (over ≡ true) ⊎ LeavesKept g old (Err e) new

-- the same of the answer of `next`
abbrev pub ReportsNext : QueryScene → Cache → Option (Result Surveyed Error) → Type 0
ReportsNext g c None = ⊤
ReportsNext g c (Some item) = Reports g c item
