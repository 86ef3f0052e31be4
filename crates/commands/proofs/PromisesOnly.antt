-- What a caller gets of promises of the crates below: of the headline, of the last answer of a walk, of
-- a file of rules that is added by name, and of a matcher that keeps nothing yet.
use Rattle.std.proofs.Common.{◌≡◌, ◌⊎◌, Bool, true, false, List, Option, Some, Result, Err}
use Rattle.ignore_base.specs.declared.fault.Fault.TheVariants.{StepLimit}
use Rattle.ignore_base.specs.Problem.{Problem, io, memory}
use Rattle.ignore_base.specs.Text.{Path}
use Rattle.ignore_dir.specs.Query.{query}
use Rattle.ignore_dir.specs.Scene.{QueryScene}
use Rattle.ignore_files.specs.Gives.{IsHonest}
use Rattle.ignore_files.specs.Tree.{Tree}
use Rattle.ignore_files.specs.declared.env.Env.{Env}
use Rattle.ignore_files.specs.declared.files.Files.{Ghosts as Files}
use Rattle.ignore_files.specs.declared.types.Contents.{Contents}
use Rattle.ignore_files.specs.declared.types.Refusal.{Refusal}
use Rattle.ignore_query.specs.Fresh.{KeepsNothing, NothingReportsAll}
use Rattle.ignore_query.specs.Reports.{reported}
use Rattle.ignore_query.specs.declared.kept.Cache.{Cache}
use Rattle.ignore_rules.specs.RuleFile.{AddsAnswer, AddsFile}
use Rattle.ignore_rules.specs.Rules.{Building, Ruleset, built}
use Rattle.ignore_walk.specs.Entry.{Item}
use Rattle.ignore_walk.specs.Nexts.{NextGives}
use Rattle.ignore_walk.specs.declared.callbacks.Callbacks.{Ghosts as Callbacks}
use Rattle.ignore_walk.specs.declared.callbacks.Order.{Order}
use Rattle.ignore_walk.specs.declared.walk.Walk.{Walk}
use Rattle.ignore.specs.Asked.{AddsIgnoreBy, AddsIgnoreIn, explicit_start, with_explicit}
use Rattle.ignore.specs.Headline.{Headline, IsListIn}
use Rattle.ignore.specs.declared.options.WalkOptions.{WalkOptions}

-- the headline holds in each tree that the files are consistent with
headline_in : {F S : Type 0} (files : Files F) (calls : Callbacks S) (f : F) (owner : S) (env : Env) (b : WalkOptions) (order : Order)
    (all : List Item) (tree : Tree) → Headline files calls f owner env b order all → IsHonest files f tree
    → IsListIn calls owner env b order tree all
headline_in files calls f owner env b order all tree h consistent = h tree consistent

-- an item that ends a walk is out of memory, or the limit, once no step is left
last_item : {F S : Type 0} (files : Files F) (calls : Callbacks S) (a b : Walk F S) (item : Item)
    → NextGives files calls a (Some item) b → a.ended ≡ false → b.ended ≡ true
    → (item ≡ Err memory) ⊎ ((item ≡ Err (io StepLimit)) × (b.left ≡ 0))
last_item files calls a b item h before after = (h.last before after).1

-- a file that is added by name: its rules are those of the file in the tree, and come after the others
added_by_name : (tree : Tree) (path dir : Path) (old new : WalkOptions) (problem : Option Problem)
    → AddsIgnoreIn tree path (Some dir) old new problem
    → (rules : Ruleset) × (filled : Building) × AddsFile tree path (explicit_start old dir) filled problem × (rules ≡ built filled)
    × (new ≡ with_explicit old rules)
added_by_name tree path dir old new problem (rules, (filled, adds, builds), is) = (rules, filled, adds, builds, is)

-- over any files, those of one answer that they gave
added_by_an_answer : (Gives : Result Contents Refusal → Type 0) (path dir : Path) (old new : WalkOptions) (problem : Option Problem)
    → AddsIgnoreBy Gives path dir old new problem
    → (rules : Ruleset) × (answer : Result Contents Refusal) × (filled : Building) × Gives answer
    × AddsAnswer path answer (explicit_start old dir) filled problem × (rules ≡ built filled) × (new ≡ with_explicit old rules)
added_by_an_answer Gives path dir old new problem (rules, (answer, filled, given, adds, builds), is) =
    (rules, answer, filled, given, adds, builds, is)

-- a matcher that keeps nothing reports what a query on the bare tree does
fresh_report : NothingReportsAll → (g : QueryScene) (c : Cache) (path : Path) (is_dir : Bool) → KeepsNothing c
    → reported g c path is_dir ≡ (query g path is_dir).1
fresh_report law g c path is_dir nothing = law g c path is_dir nothing
