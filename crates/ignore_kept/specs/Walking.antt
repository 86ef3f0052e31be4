-- Walks over a tree that C tells.
use Rattle.std.specs.Prelude.{◌≡◌, ◌⊎◌, ◌≤◌, ◌<◌, ◌+◌, ℕ, true, false, List, [], ◌++◌, Option, Some, None, Result, Ok, Err, length, map, slice_get, if◌then◌else◌}
use Rattle.ignore.specs.Headline.{IsBareScene}
use Rattle.ignore.specs.ItsList.{ForItsList, InItsScenes}
use Rattle.ignore.specs.WalkWords.{Item, Whole, item_of}
use Rattle.ignore.specs.declared.options.WalkOptions.{WalkOptions}
use Rattle.ignore_base.specs.Errors.{problem_text}
use Rattle.ignore_base.specs.Problem.{Problem}
use Rattle.ignore_base.specs.Text.{Bytes}
use Rattle.ignore_files.specs.Answers.{tree_of}
use Rattle.ignore_rules.specs.RuleFile.{is_memory}
use Rattle.ignore_files.specs.Memory.{Memory}
use Rattle.ignore_files.specs.declared.env.Env.{Env}
use Rattle.ignore_files.specs.declared.types.FileType.{FileType}
use Rattle.ignore_files.specs.declared.types.FileType.TheVariants.{File, Dir, Symlink, Other}
use Rattle.ignore_kept.specs.Kinds.{setup_in, tree_in, walk_in}
use Rattle.ignore_kept.specs.Stops.{stop_code}
use Rattle.ignore_kept.specs.declared.kept.Kept.{Kept}
use Rattle.ignore_kept.specs.declared.kept.Kept.TheVariants as keeps
use Rattle.ignore_kept.specs.declared.setup.Setup.{Setup}
use Rattle.ignore_kept.specs.declared.stopped.Stopped.{Stopped}
use Rattle.ignore_kept.specs.declared.stopped.Stopped.TheVariants.{NotUtf8, Memory as Full, Limit, Invalid, Misused, Tree}
use Rattle.ignore_kept.specs.declared.walked.WalkEntry.{WalkEntry}
use Rattle.ignore_kept.specs.declared.walked.Walked.{Walked}

-- a handle that keeps a walk
abbrev pub keeping : Walked → Kept
keeping walk = keeps.Walk walk

-- the items are the list of the definition, which is there in each scene of a walk of options in a
-- tree, by the rules from outside as they were read, and no others are; or the limit of steps is too
-- low for it; or memory ran out
abbrev pub IsListOf : Memory → Env → WalkOptions → Result (List Item) Stopped → Type 0
IsListOf tree env b (Ok all) =
    InItsScenes (IsBareScene b (tree_of tree)) env b (tree_of tree) (λ g. (n : ℕ) × (n ≤ b.limit) × Whole g b.roots all n)
    × ForItsList (IsBareScene b (tree_of tree)) env b (tree_of tree) (λ g items n. (all ≡ items) × (n ≤ b.limit))
IsListOf tree env b (Err Limit) = ForItsList (IsBareScene b (tree_of tree)) env b (tree_of tree) (λ g items n. b.limit < n)
IsListOf tree env b (Err Full) = Unit {0}
IsListOf tree env b (Err other) = ⊥

-- making the walk of a builder's handle over a tree's gives what a handle keeps, of which nothing
-- was handed out, or says why not
abbrev pub Builds : Kept → Kept → Result Kept Stopped → Type 0
Builds builder tree (Ok kept) =
    (setup : Setup) × (files : Memory) × (walk : Walked) × (setup_in builder ≡ Some setup) × (tree_in tree ≡ Some files)
    × IsListOf files setup.env setup.options (Ok (map item_of walk.items.items)) × (walk.given ≡ 0) × (kept ≡ keeping walk)
Builds builder tree (Err Limit) =
    (setup : Setup) × (files : Memory) × (setup_in builder ≡ Some setup) × (tree_in tree ≡ Some files)
    × IsListOf files setup.env setup.options (Err Limit)
Builds builder tree (Err Misused) = (setup_in builder ≡ None) ⊎ (tree_in tree ≡ None)
Builds builder tree (Err Full) = Unit {0}
Builds builder tree (Err other) = ⊥

-- how what an entry is is numbered; standard input has no kind
abbrev pub kind_code : Option FileType → ℕ
kind_code None = 0
kind_code (Some File) = 1
kind_code (Some Dir) = 2
kind_code (Some Symlink) = 3
kind_code (Some Other) = 4

-- where there is no item
abbrev pub no_entry : WalkEntry
no_entry = record { path = 0; error = 0; depth = 0; kind = 0; is_entry = false; is_followed = false }

-- the text of a problem; none where there is none
abbrev pub error_text : Option Problem → Bytes
error_text None = []
error_text (Some problem) = problem_text problem

-- how an item is told: the lengths of its path and of the text of its error, and the two texts
abbrev pub entry_told : Item → WalkEntry
entry_told (Ok (e, problem)) =
    record {
      path = length e.path;
      error = length (error_text problem);
      depth = e.depth;
      kind = kind_code e.kind;
      is_entry = true;
      is_followed = e.followed;
    }
entry_told (Err problem) = record no_entry { error = length (problem_text problem) }

abbrev pub text_told : Item → Bytes
text_told (Ok (e, problem)) = e.path ++ error_text problem
text_told (Err problem) = problem_text problem

-- an item is told so
abbrev pub TellsItem : Item → WalkEntry → Bytes → Type 0
TellsItem item entry text = (entry ≡ entry_told item) × (text ≡ text_told item)

-- why a walk has no list, by the problem that ended it
abbrev pub end_of : Problem → Stopped
end_of problem = if is_memory problem then Full else Limit

-- the next item of a walk, if there is one
abbrev pub next_of : Walked → Option Item
next_of walk = slice_get (map item_of walk.items.items) walk.given

-- the next item is told, or there is none, or memory ran out
abbrev pub IsNext : Option Item → ℕ → WalkEntry → Bytes → Type 0
IsNext None code entry text = (code ≡ 1) × (entry ≡ no_entry) × (text ≡ [])
IsNext (Some item) code entry text =
    ((code ≡ 0) × TellsItem item entry text) ⊎ ((code ≡ stop_code Full) × (entry ≡ no_entry) × (text ≡ []))

-- asking a walk for its next item: it is told and handed out where its texts fit into a room, and
-- else stays the next; or there is none; or memory ran out
abbrev pub TellsNext : ℕ → Walked → Option Item → ℕ → WalkEntry → Bytes → Walked → Type 0
TellsNext room old None code entry text new = (code ≡ 1) × (entry ≡ no_entry) × (text ≡ []) × (new ≡ old)
TellsNext room old (Some item) code entry text new =
    ((code ≡ 0) × (entry ≡ entry_told item) × (text ≡ text_told item) × (length text ≤ room)
    × (new ≡ record old { given = old.given + 1 }))
    ⊎ ((code ≡ 15) × (entry ≡ entry_told item) × (text ≡ text_told item) × (room < length text) × (new ≡ old))
    ⊎ ((code ≡ stop_code Full) × (entry ≡ no_entry) × (text ≡ []) × (new ≡ old))

-- the same of a handle, which may keep no walk
abbrev pub NextsOf : Option Walked → ℕ → Kept → ℕ → WalkEntry → Bytes → Kept → Type 0
NextsOf None room old code entry text new = (code ≡ stop_code Misused) × (entry ≡ no_entry) × (text ≡ []) × (new ≡ old)
NextsOf (Some before) room old code entry text new =
    (after : Walked) × (new ≡ keeping after) × TellsNext room before (next_of before) code entry text after

abbrev pub Nexts : ℕ → Kept → ℕ → WalkEntry → Bytes → Kept → Type 0
Nexts room old code entry text new = NextsOf (walk_in old) room old code entry text new
