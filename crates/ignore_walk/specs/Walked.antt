-- What an entry gives, and all below it.
use Rattle.std.specs.Prelude.{◌≡◌, ℕ, suc, ◌+◌, Bool, true, false, ◌&&◌, ◌||◌, not, ◌==◌, nat_le, List, [], ◌∷◌, ◌++◌, map}
use Rattle.std.specs.Prelude.{reverse, Option, None, Some, Result, Ok, Err, IsPermutation, IsSortedBy, if◌then◌else◌}
use Rattle.std.specs.Cmp.{IsStrictWeakOrder}
use Rattle.std.specs.List.Sorted.{IsStableBy}
use Rattle.ignore_base.specs.Text.{Bytes, Path}
use Rattle.ignore_base.specs.declared.fault.Fault.{Fault}
use Rattle.ignore_base.specs.Problem.{Problem}
use Rattle.ignore_files.specs.declared.types.Identity.{Identity}
use Rattle.ignore_files.specs.declared.types.Listed.{Listed}
use Rattle.ignore_files.specs.declared.types.Listed.TheVariants as thing
use Rattle.ignore_dir.specs.Limits.{is_deepest, is_larger}
use Rattle.ignore_dir.specs.Query.{is_dir_there}
use Rattle.ignore_dir.specs.Scene.{path_verdict}
use Rattle.ignore_dir.specs.Verdict.{is_ignore}
use Rattle.ignore_dir.specs.declared.settings.Settings.{Settings}
use Rattle.ignore_walk.specs.Branch.{Branch}
use Rattle.ignore_walk.specs.Child.{is_dir_kind, identity_at, named, branch_below, child}
use Rattle.ignore_walk.specs.Entry.{Entry, Item, failed_at}
use Rattle.ignore_walk.specs.Scene.{Scene, queries}

-- an entry is a directory, or a root that leads to one
abbrev pub leads_in : Scene → Branch → Entry → Bool
leads_in g [] e = is_dir_there (g.tree.stat e.path true)
leads_in g (name ∷ b) e = is_dir_kind e.kind

-- the rules ignore what is at a place below a root
unfoldable pub ignores : Scene → Path → Branch → Bool → Bool
ignores g root b is_dir = is_ignore (path_verdict (queries g root) (reverse b) is_dir)

-- an entry is no directory, and larger than the limit of size
abbrev pub is_too_large : Scene → Entry → Bool
is_too_large g e = not (is_dir_kind e.kind) && is_larger g.settings.max_filesize (g.tree.stat e.path g.settings.follow_links)

-- an entry below a root is skipped where the rules ignore it, where it is too large, and where the
-- filter rejects it; a root never is
unfoldable pub is_skipped : Scene → Path → Branch → Entry → Bool
is_skipped g root [] e = false
is_skipped g root (name ∷ b) e =
    ignores g root (name ∷ b) (is_dir_kind e.kind) || (is_too_large g e || not (g.keep e))

-- the depth is at least the least depth, where there is one
abbrev pub is_at_least : Option ℕ → ℕ → Bool
is_at_least None depth = true
is_at_least (Some least) depth = nat_le least depth

-- two identities are of different devices
abbrev pub are_apart : Result Identity Fault → Result Identity Fault → Bool
are_apart (Ok a) (Ok b) = not (a.device == b.device)
are_apart (Ok a) (Err fault) = false
are_apart (Err fault) other = false

-- it is on another device than the root, where that matters
abbrev pub is_foreign : Scene → Path → Entry → Bool
is_foreign g root e = g.same_file_system && are_apart (identity_at g.tree root) (identity_at g.tree e.path)

-- what becomes of an entry: it is skipped; it is yielded, if its depth allows that (`yielded`); the
-- same with the problem of its load; or the same with that, and then what it lists
pub data Fate : Type 0 where
  skip : Fate
  yield : Fate
  load : Fate
  enter : Fate

-- what becomes of an entry at a place below a root
unfoldable pub fate : Scene → Path → Branch → Entry → Fate
fate g root b e =
    if is_skipped g root b e then skip
    else if not (leads_in g b e) || is_deepest g.settings.max_depth e.depth then yield
    else if is_foreign g root e then load
    else enter

-- an entry is yielded unless its depth is less than the least depth
abbrev pub yielded : Settings → Entry → Option Problem → List Item
yielded s e problem = if is_at_least s.min_depth e.depth then Ok (e, problem) ∷ [] else []

-- as `yielded`, for a directory with the problem of its load
abbrev pub loaded : Scene → Entry → List Item
loaded g e = yielded g.settings e (g.loads e.path).1

-- a listing, with a fault in the place of each listed name that is no name; one that fails lists
-- nothing
abbrev pub listing_of : Result (List Listed) Fault → List Listed
listing_of (Ok xs) = map named xs
listing_of (Err fault) = []

-- the fault of a listing that fails, after its directory
abbrev pub unlisted : Entry → Result (List Listed) Fault → List Item
unlisted e (Ok xs) = []
unlisted e (Err fault) = Err (failed_at e.path e.depth fault) ∷ []

-- one listed thing comes before another: a fault before an entry, and entries as their names do
abbrev pub comes_before : (Bytes → Bytes → Bool) → Listed → Listed → Bool
comes_before lt (thing.Fault f) (thing.Fault g) = false
comes_before lt (thing.Fault f) (thing.Entry b kind) = true
comes_before lt (thing.Entry a kind) (thing.Fault g) = false
comes_before lt (thing.Entry a kind) (thing.Entry b its) = lt a b

-- a listing in the order of the walk: its own, or the chosen one, in which ties stay as listed
abbrev pub IsArranged : Option (Path → Bytes → Bytes → Bool) → Path → List Listed → List Listed → Type 0
IsArranged None dir xs ys = ys ≡ xs
IsArranged (Some order) dir xs ys =
    IsPermutation xs ys × IsSortedBy (comes_before (order dir)) ys × IsStableBy (comes_before (order dir)) xs ys

-- the chosen order is one in which two names may tie
abbrev pub IsOrdered : Option (Path → Bytes → Bytes → Bool) → Type 0
IsOrdered None = Unit {0}
IsOrdered (Some order) = (dir : Path) → IsStrictWeakOrder (order dir)

mutual
  -- the items that an entry or a problem gives, and the steps below it: one for each listed thing,
  -- and one for each directory whose listing is asked
  pub data WalkedOne (g : Scene) (root : Path) : Branch → Result Entry Problem → List Item → ℕ → Type 0 where
    -- a problem is an item whatever the rules, the filter and the limits say
    failed : {b : Branch} {p : Problem} → WalkedOne g root b (Err p) (Err p ∷ []) 0
    -- of an entry the fate decides: a leaf is `yielded`, a closed directory `loaded`, and a dir
    -- `loaded` and entered
    skipped : {b : Branch} {e : Entry} → fate g root b e ≡ skip → WalkedOne g root b (Ok e) [] 0
    leaf : {b : Branch} {e : Entry} → fate g root b e ≡ yield → WalkedOne g root b (Ok e) (yielded g.settings e None) 0
    closed : {b : Branch} {e : Entry} → fate g root b e ≡ load → WalkedOne g root b (Ok e) (loaded g e) 0
    dir : {b : Branch} {e : Entry} {xs : List Listed} {items : List Item} {n : ℕ} → fate g root b e ≡ enter
        → IsArranged g.order e.path (listing_of (g.tree.list e.path)) xs → WalkedEach g root b xs items n
        → WalkedOne g root b (Ok e) (loaded g e ++ (unlisted e (g.tree.list e.path) ++ items)) (suc n)

  -- the same of listed things of the directory at a place, in order
  pub data WalkedEach (g : Scene) (root : Path) : Branch → List Listed → List Item → ℕ → Type 0 where
    none : {b : Branch} → WalkedEach g root b [] [] 0
    more : {b : Branch} {x : Listed} {xs : List Listed} {own others : List Item} {m n : ℕ}
        → WalkedOne g root (branch_below b x) (child g root b x) own m → WalkedEach g root b xs others n
        → WalkedEach g root b (x ∷ xs) (own ++ others) (suc (m + n))
