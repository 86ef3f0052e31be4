-- Matchers of single paths over a tree that C tells.
use Rattle.std.specs.Prelude.{◌≡◌, ◌≢◌, ◌⊎◌, ℕ, List, [], ◌∷◌, Option, Some, None, Result, Ok, Err, length, option_map, string_bytes, false}
use Rattle.std.specs.Prelude.{◌+◌, All, Bool, true, if◌then◌else◌}
use Rattle.std.specs.BTreeMap.{btree_map_len}
use Rattle.std.specs.Str.{IsUtf8}
use Rattle.std.specs.declared.string.String.{String}
use Rattle.ignore.specs.WalkWords.{Agrees, AreLoads, AreMatchers, IncrementalIgnore, IncrementalMatch, KeepsNothing, Loaded, query, scene_of}
use Rattle.ignore.specs.WalkWords.{QueryScene, dir_of, normalize_of}
use Rattle.ignore.specs.WalkWords.{IsName, IsSameKept, Stays, is_asked, is_at_or_below, kept_at, names_of}
use Rattle.ignore.specs.FileWords.{Tree as Files}
use Rattle.ignore.specs.declared.options.WalkOptions.{WalkOptions}
use Rattle.ignore_base.specs.Text.{Bytes, Path}
use Rattle.ignore_dir.specs.declared.verdict.Verdict.{Verdict}
use Rattle.ignore_dir.specs.declared.verdict.Verdict.TheVariants as v
use Rattle.ignore_files.specs.Answers.{tree_of}
use Rattle.ignore_files.specs.Memory.{Memory}
use Rattle.ignore_files.specs.declared.env.Env.{Env}
use Rattle.ignore_kept.specs.Kinds.{matcher_in, setup_in, tree_in}
use Rattle.ignore_kept.specs.Stops.{ended_code, stop_code}
use Rattle.ignore_kept.specs.declared.asker.Found.{Found}
use Rattle.ignore_kept.specs.declared.kept.Kept.{Kept}
use Rattle.ignore_kept.specs.declared.kept.Kept.TheVariants as keeps
use Rattle.ignore_kept.specs.declared.setup.Setup.{Setup}
use Rattle.ignore_kept.specs.declared.stopped.Stopped.{Stopped}
use Rattle.ignore_kept.specs.declared.stopped.Stopped.TheVariants.{NotUtf8, Memory as Full, Limit, Invalid, Misused, Tree}

-- a handle that keeps a matcher
abbrev pub keeping : IncrementalIgnore → Kept
keeping matcher = keeps.Matcher matcher

-- a matcher is the one of options with one root, over a tree and in an environment, and keeps
-- nothing yet
abbrev pub IsMatcher : Memory → Env → WalkOptions → IncrementalIgnore → Type 0
IsMatcher tree env options matcher = AreMatchers (tree_of tree) env options (matcher ∷ []) × KeepsNothing matcher.cache

-- making it gives the matcher, or says why there is none: out of memory, or not one root
abbrev pub IsBuilt : Memory → Env → WalkOptions → Result IncrementalIgnore Stopped → Type 0
IsBuilt tree env options (Ok matcher) = IsMatcher tree env options matcher
IsBuilt tree env options (Err Misused) = length options.roots ≢ 1
IsBuilt tree env options (Err Full) = Unit {0}
IsBuilt tree env options (Err other) = ⊥

-- making the matcher of a builder's handle and a tree's gives what a handle keeps, or says why not
abbrev pub Builds : Kept → Kept → Result Kept Stopped → Type 0
Builds builder tree (Ok kept) =
    (setup : Setup) × (files : Memory) × (matcher : IncrementalIgnore) × (setup_in builder ≡ Some setup) × (tree_in tree ≡ Some files)
    × IsMatcher files setup.env setup.options matcher × (kept ≡ keeping matcher)
Builds builder tree (Err Misused) =
    (setup_in builder ≡ None) ⊎ (tree_in tree ≡ None)
    ⊎ ((setup : Setup) × (setup_in builder ≡ Some setup) × (length setup.options.roots ≢ 1))
Builds builder tree (Err Full) = Unit {0}
Builds builder tree (Err other) = ⊥

-- what a matcher keeps is right for a scene: it agrees with it, or with one of an earlier tree in which
-- all that is kept is the same
abbrev pub IsRight : IncrementalIgnore → QueryScene → Type 0
IsRight matcher h =
    Agrees h matcher.cache
    ⊎ ((earlier : Files) × (past : Path → Loaded) × (let g = scene_of matcher.asked earlier past in
    Agrees g matcher.cache × IsSameKept g h matcher.cache))

-- P holds of each scene of a matcher over a tree for which what it keeps is right
abbrev pub InScene : IncrementalIgnore → Memory → (QueryScene → Type 0) → Type 0
InScene matcher tree P =
    (loads : Path → Loaded) → AreLoads (tree_of tree) matcher.asked.settings loads
    → let g = scene_of matcher.asked (tree_of tree) loads in IsRight matcher g → P g

-- asking leads from a matcher to one that is asked by the same, that agrees where what was kept was
-- right, and that keeps what it kept
abbrev pub StaysIn : IncrementalIgnore → Memory → IncrementalIgnore → Type 0
StaysIn old tree new = InScene old tree (λ g. Agrees g new.cache) × Stays old.cache new.cache × (new.asked ≡ old.asked)

-- asking a matcher's handle about a path, by a tree's, gives the answer of the definition in each
-- scene of the tree for which what is kept is right, or says why there is none
abbrev pub Matches : Kept → Kept → Bytes → Bool → Result IncrementalMatch Stopped → Kept → Type 0
Matches old tree path is_dir (Ok found) new =
    (before after : IncrementalIgnore) × (files : Memory) × (matcher_in old ≡ Some before) × (tree_in tree ≡ Some files)
    × (new ≡ keeping after) × StaysIn before files after × InScene before files (λ g. found ≡ (query g path is_dir).0)
Matches old tree path is_dir (Err Full) new =
    (before after : IncrementalIgnore) × (files : Memory) × (matcher_in old ≡ Some before) × (tree_in tree ≡ Some files)
    × (new ≡ keeping after) × StaysIn before files after
Matches old tree path is_dir (Err NotUtf8) new = (new ≡ old) × ¬ (IsUtf8 path)
Matches old tree path is_dir (Err Misused) new = (new ≡ old) × ((matcher_in old ≡ None) ⊎ (tree_in tree ≡ None))
Matches old tree path is_dir (Err other) new = ⊥

-- how an answer is numbered
abbrev pub verdict_code : Verdict → ℕ
verdict_code v.None = 1
verdict_code v.Ignore = 2
verdict_code v.Whitelist = 3

abbrev pub match_code : Result IncrementalMatch Stopped → ℕ
match_code (Ok found) = verdict_code found.verdict
match_code (Err stopped) = stop_code stopped

-- the rest of an answer
abbrev pub found_in : Result IncrementalMatch Stopped → Found
found_in (Ok found) = record { should_descend = found.descends; is_within_depth = found.is_within }
found_in (Err stopped) = record { should_descend = false; is_within_depth = false }

-- asking, by the numbers that C is told
abbrev pub Asks : Kept → Kept → Bytes → Bool → ℕ → Found → Kept → Type 0
Asks old tree path is_dir code found new =
    (given : Result IncrementalMatch Stopped) × Matches old tree path is_dir given new × (code ≡ match_code given)
    × (found ≡ found_in given)

-- a directory and all below it were forgotten, and so many were kept of them
abbrev pub Forgot : IncrementalIgnore → Path → ℕ → IncrementalIgnore → Type 0
Forgot old dir count new =
    (count + btree_map_len new.cache.dirs.map ≡ btree_map_len old.cache.dirs.map) × (new.asked ≡ old.asked)
    × ((names : List Bytes) → All IsName names → is_asked (string_bytes old.asked.root) dir ≡ true
    → kept_at new.cache names ≡ (if is_at_or_below (names_of dir) names then None else kept_at old.cache names))
    × (is_asked (string_bytes old.asked.root) dir ≢ true → new.cache ≡ old.cache)
    × ((before after : Files) (loads later : Path → Loaded) → let g = scene_of old.asked before loads in
    let h = scene_of old.asked after later in Agrees g old.cache → IsSameKept g h new.cache → Agrees h new.cache)

-- forgetting a directory of a matcher's handle counts what was kept, or says why it doesn't
abbrev pub Forgets : Kept → Bytes → Result ℕ Stopped → Kept → Type 0
Forgets old dir (Ok count) new =
    (before after : IncrementalIgnore) × (matcher_in old ≡ Some before) × (new ≡ keeping after) × Forgot before dir count after
Forgets old dir (Err NotUtf8) new = (new ≡ old) × ¬ (IsUtf8 dir)
Forgets old dir (Err Misused) new = (new ≡ old) × (matcher_in old ≡ None)
Forgets old dir (Err other) new = ⊥

-- the number of a call that counts, and what it counts
abbrev pub count_in : Result ℕ Stopped → ℕ
count_in (Ok count) = count
count_in (Err stopped) = 0

-- forgetting, by the numbers that C is told
abbrev pub ForgetsTold : Kept → Bytes → ℕ → ℕ → Kept → Type 0
ForgetsTold old dir code count new =
    (given : Result ℕ Stopped) × Forgets old dir given new × (code ≡ ended_code given) × (count ≡ count_in given)

-- the text by which a matcher knows a path, or that there is none, or why that can't be told
abbrev pub Normalizes : Kept → Bytes → Result (Option Bytes) Stopped → Type 0
Normalizes kept path (Ok text) =
    (matcher : IncrementalIgnore) × (matcher_in kept ≡ Some matcher)
    × (text ≡ normalize_of (dir_of matcher.asked) (string_bytes matcher.asked.root) path)
Normalizes kept path (Err NotUtf8) = ¬ (IsUtf8 path)
Normalizes kept path (Err Misused) = matcher_in kept ≡ None
Normalizes kept path (Err Full) = Unit {0}
Normalizes kept path (Err other) = ⊥

-- a text as its bytes, where there is one
abbrev pub bytes_given : {Y : Type 0} → Result (Option (String Y)) Stopped → Result (Option Bytes) Stopped
bytes_given (Ok text) = Ok (option_map string_bytes text)
bytes_given (Err stopped) = Err stopped

-- the number of a text, and the text
abbrev pub text_code : Result (Option Bytes) Stopped → ℕ
text_code (Ok (Some text)) = 0
text_code (Ok None) = 1
text_code (Err stopped) = stop_code stopped

abbrev pub text_given : Result (Option Bytes) Stopped → Bytes
text_given (Ok (Some text)) = text
text_given (Ok None) = []
text_given (Err stopped) = []

-- the same, by what C is told
abbrev pub NormalText : Kept → Bytes → ℕ → Bytes → Type 0
NormalText kept path code text =
    (given : Result (Option Bytes) Stopped) × Normalizes kept path given × (code ≡ text_code given) × (text ≡ text_given given)
