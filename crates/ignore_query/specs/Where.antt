-- Under which premises a matcher's answers hold.
use Rattle.std.specs.Prelude.{◌≡◌, true, All, List, Option}
use Rattle.std.specs.List.{list_all}
use Rattle.ignore_base.specs.Text.{Bytes, Path}
use Rattle.ignore_base.specs.Paths.{IsName, components, is_proper}
use Rattle.ignore_dir.specs.Chains.{slashed}
use Rattle.ignore_dir.specs.Query.{has_rules, is_asked, is_dir_there}
use Rattle.ignore_dir.specs.Scene.{QueryScene}
use Rattle.ignore_files.specs.declared.files.Files.{Ghosts as Files}
use Rattle.ignore_levels.specs.declared.list.Place.{Place}
use Rattle.ignore_query.specs.declared.asked.Call.{Call}
use Rattle.ignore_query.specs.declared.incremental.IncrementalIgnore.{IncrementalIgnore}
use Rattle.ignore_query.specs.declared.kept.Cache.{Cache}
use Rattle.ignore_query.specs.Agrees.{Agrees, IsNext}
use Rattle.ignore_query.specs.Reached.{InEachScene}

-- P holds of each scene of a matcher, over files that are consistent with its tree, with which what
-- is kept agrees
abbrev pub WhereAgrees : {F : Type 0} → Files F → F → IncrementalIgnore → (QueryScene → Type 0) → Type 0
WhereAgrees files f m P = InEachScene files f m.asked (λ g. Agrees g m.cache → P g)

-- P holds of each of these scenes where the rules decide on a path
abbrev pub WhereDecided : {F : Type 0} → Files F → F → IncrementalIgnore → Path → (QueryScene → Type 0) → Type 0
WhereDecided files f m path P =
    WhereAgrees files f m (λ g. is_asked g.root path ≡ true → has_rules g.tree g.root path ≡ true → P g)

-- P holds of each scene of a call
abbrev pub InCall : {F : Type 0} → Files F → Call F → (QueryScene → Type 0) → Type 0
InCall files call P = InEachScene files call.files.now call.asked.now P

-- P holds of each scene of a call where the root is a directory, for a path of names
abbrev pub WhereAsked : {F : Type 0} → Files F → Call F → Cache → Path → (QueryScene → Type 0) → Type 0
WhereAsked files call c path P = InCall files call (λ g. is_dir_there (g.tree.stat g.root true) ≡ true → Agrees g c
    → list_all is_proper (components path) ≡ true → P g)

-- P holds of each scene of a call where what is above the root is kept, for a path of names
abbrev pub WhereKept : {F : Type 0} → Files F → Call F → Cache → Path → (QueryScene → Type 0) → Type 0
WhereKept files call c path P = InCall files call (λ g. Agrees g c → list_all is_proper (components path) ≡ true → c.has_above ≡ true → P g)

-- P holds of each scene of a call where what is above the root is kept, for names
abbrev pub WhereRooted : {F : Type 0} → Files F → Call F → Cache → List Bytes → (QueryScene → List Bytes → Type 0) → Type 0
WhereRooted files call c names P = InCall files call (λ g. Agrees g c → All IsName names → c.has_above ≡ true → P g names)

-- P holds of each scene of a call and each list of names that has this key, where the directory in
-- which that with these names is stands at this place
abbrev pub WhereNext : {F : Type 0} → Files F → Call F → Cache → Option Place → Path → (QueryScene → List Bytes → Type 0) → Type 0
WhereNext files call c place key P = InCall files call (λ g. (names : List Bytes)
    → Agrees g c → All IsName names → key ≡ slashed names → IsNext c names place → P g names)
