-- Resolving a path in a tree in memory.
use Rattle.std.specs.Prelude.{ℕ, zero, suc, Bool, true, List, [], ◌∷◌, ◌++◌, Option, Some, None, Result, Ok, Err, ok_or, slice_get, ◌||◌}
use Rattle.std.specs.Prelude.{bytes_eq, codes, cond}
use Rattle.ignore_base.specs.Text.{Bytes, Path}
use Rattle.ignore_base.specs.declared.fault.Fault.{Fault}
use Rattle.ignore_base.specs.declared.fault.Fault.TheVariants.{NotFound, NotADirectory, LinkLimit}
use Rattle.ignore_files.specs.Entries.{node_named}
use Rattle.ignore_base.specs.Paths.{components, is_absolute}
use Rattle.ignore_files.specs.Memory.{and_then, is_empty, entries_of, is_dir_at}
use Rattle.ignore_files.specs.declared.memory.entry.Entry.{Entry}
use Rattle.ignore_files.specs.declared.memory.node.Node.{Node}
use Rattle.ignore_files.specs.declared.memory.node.Kind.{Kind}
use Rattle.ignore_files.specs.declared.memory.node.Kind.TheVariants.{Dir, File, Link}
use Rattle.ignore_files.specs.declared.memory.resolve.Reached.{Reached}

-- a component that stays where it is: an empty one, or `.`
abbrev pub stays : Bytes → Bool
stays component = is_empty component || bytes_eq component (codes ".")

-- from a directory, `..` leads to the directory that it is in, and a name to its entry with that
-- name; from other kinds nothing leads on
abbrev pub enter_directory : ℕ → Bytes → Option (List Entry) → Result ℕ Fault
enter_directory parent component (Some entries) =
    cond (bytes_eq component (codes "..")) (Ok parent) (ok_or (node_named component entries) NotFound)
enter_directory parent component None = Err NotADirectory

-- the same from the node at a place
abbrev pub enter_node : Bytes → Option Node → Result ℕ Fault
enter_node component (Some n) = enter_directory n.parent component (entries_of n.kind)
enter_node component None = Err NotADirectory

-- where one component leads from a place, links not followed
abbrev pub enter : List Node → ℕ → Bytes → Result ℕ Fault
enter nodes here component = cond (stays component) (Ok here) (enter_node component (slice_get nodes here))

-- the target of a link in the directory at a place, with the place where the target begins: `/` or
-- that directory
abbrev pub target_of : ℕ → Kind → Option (ℕ × Path)
target_of parent (Dir entries) = None
target_of parent (File bytes) = None
target_of parent (Link target) = Some (cond (is_absolute target) 0 parent, target)

-- the same of a node
abbrev pub link_of : Option Node → Option (ℕ × Path)
link_of (Some n) = target_of n.parent n.kind
link_of None = None

-- the same of the link at a place, if one is there
abbrev pub link_at : List Node → ℕ → Option (ℕ × Path)
link_at nodes place = link_of (slice_get nodes place)

-- where the last component leads, which led to a place: a link there is followed if that is asked
-- for
abbrev pub resolve_last : Bool → ℕ → (ℕ → Path → List Bytes → Result Reached Fault) → ℕ → Option (ℕ × Path) → Result Reached Fault
resolve_last follow links after_link place None = Ok (record { node = place; links = links })
resolve_last follow links after_link place (Some (start, target)) =
    cond follow (after_link start target []) (Ok (record { node = place; links = links }))

-- where a component leads that others follow: a link is followed, a directory is entered, and other
-- kinds are no directory
abbrev pub resolve_inner : Bool → Result Reached Fault → (ℕ → Path → List Bytes → Result Reached Fault) → List Bytes
    → Option (ℕ × Path) → Result Reached Fault
resolve_inner is_dir onward after_link rest None = cond is_dir onward (Err NotADirectory)
resolve_inner is_dir onward after_link rest (Some (start, target)) = after_link start target rest

-- where components lead from a place, given where a link leads with the components after it
abbrev pub resolve_components : List Node → Bool → ℕ → (ℕ → Path → List Bytes → Result Reached Fault) → List Bytes → ℕ
    → Result Reached Fault
resolve_components nodes follow links after_link [] here = Ok (record { node = here; links = links })
resolve_components nodes follow links after_link (component ∷ []) here =
    and_then (λ i. resolve_last follow links after_link i (link_at nodes i)) (enter nodes here component)
resolve_components nodes follow links after_link (component ∷ next ∷ rest) here =
    and_then
    (λ i. resolve_inner (is_dir_at nodes i) (resolve_components nodes follow links after_link (next ∷ rest) i)
    after_link (next ∷ rest) (link_at nodes i))
    (enter nodes here component)

-- where components lead from a place, and how many links may still be followed there. A link that
-- is followed is replaced by the components of its target; an empty target leads nowhere
abbrev pub walk : List Node → Bool → ℕ → List Bytes → ℕ → Result Reached Fault
walk nodes follow zero ps here = resolve_components nodes follow 0 (λ start target rest. Err LinkLimit) ps here
walk nodes follow (suc links) ps here =
    resolve_components nodes follow (suc links)
    (λ start target rest. cond (is_empty target) (Err NotFound) (walk nodes follow links (components target ++ rest) start)) ps here

-- how many links may be followed to resolve one path
abbrev pub link_limit : ℕ
link_limit = 40

-- where a path starts: `/`, or the place of the working directory, whose links count
abbrev pub start_of : Path → List Node → Path → Result Reached Fault
start_of cwd nodes path =
    cond (is_absolute path) (Ok (record { node = 0; links = link_limit })) (walk nodes true link_limit (components cwd) 0)

-- the place to which a path leads, or the fault
abbrev pub resolved : Path → List Node → Path → Bool → Result ℕ Fault
resolved cwd nodes path follow =
    cond (is_empty path) (Err NotFound)
    (and_then (λ start. and_then (λ reached. Ok reached.node) (walk nodes follow start.links (components path) start.node))
    (start_of cwd nodes path))

-- the node to which a path leads
abbrev pub node_found : Path → List Node → Path → Bool → Result Node Fault
node_found cwd nodes path follow = and_then (λ place. ok_or (slice_get nodes place) NotFound) (resolved cwd nodes path follow)
