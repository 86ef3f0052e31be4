-- A node changed in its place.
use Rattle.std.proofs.Common.{◌≡◌, ℕ, zero, suc, Bool, List, [], ◌∷◌, ◌++◌, length, get_or, set, Some, Result, Ok, slice_get, ap, sym}
use Rattle.std.proofs.Common.{subst, ◌∙◌}
use Rattle.std.proofs.lemmas.List.{get_or_append_left, set-append_left}
use Rattle.std.proofs.lemmas.Option.{get_or_from_slice_get, slice_get_within}
use Rattle.ignore_base.specs.Paths.{components, last_component}
use Rattle.ignore_files.specs.Memory.{Memory, and_then, sought, new_node}
use Rattle.ignore_files.specs.Answers.{file_type_of}
use Rattle.ignore_files.specs.Changes.{changed, set_at, Leaves, LeavesIfRoom, listing_too, with_node}
use Rattle.ignore_files.specs.declared.types.FileType.{FileType}
use Rattle.ignore_files.specs.declared.memory.entry.Entry.TheVariants.{Named}
use Rattle.ignore_files.specs.declared.tree_error.TreeError.{TreeError}
use Rattle.ignore_files.specs.declared.memory.node.Node.{Node}
use Rattle.ignore_files.specs.declared.memory.node.Kind.{Kind}
use Rattle.ignore_files.proofs.Places.{sought_ok}

set_changed : (f : Node → Node) (ns : List Node) (i : ℕ) (n : Node) → slice_get ns i ≡ Some n → set ns i (f n) ≡ changed f ns i
set_changed f [] i n h = cc
set_changed f (m ∷ ns) zero n h = let same : m ≡ n = cc in ap (λ k. f k ∷ ns) (sym same)
set_changed f (m ∷ ns) (suc i) n h = ap (λ ks. m ∷ ks) (set_changed f ns i n h)

-- a write in a place
pub write_changed : (f : Node → Node) (ns : List Node) (i : ℕ) (n read : Node) → slice_get ns i ≡ Some n → read ≡ get_or ns i read
    → set ns i (f read) ≡ changed f ns i
write_changed f ns i n read h r = ap (λ k. set ns i (f k)) (r ∙ get_or_from_slice_get ns i n read h) ∙ set_changed f ns i n h

-- the same where a node was appended
pub read_before : (ns : List Node) (x : Node) (i : ℕ) (n read : Node) → slice_get ns i ≡ Some n → read ≡ get_or (ns ++ x ∷ []) i read
    → read ≡ n
read_before ns x i n read h r = r ∙ get_or_append_left ns (x ∷ []) read i (slice_get_within ns i n h) ∙ get_or_from_slice_get ns i n read h

pub write_before : (f : Node → Node) (ns : List Node) (x : Node) (i : ℕ) (n read : Node) → slice_get ns i ≡ Some n
    → read ≡ get_or (ns ++ x ∷ []) i read → set (ns ++ x ∷ []) i (f read) ≡ changed f ns i ++ x ∷ []
write_before f ns x i n read h r =
    ap (λ k. set (ns ++ x ∷ []) i (f k)) (read_before ns x i n read h r)
    ∙ set-append_left ns (x ∷ []) i (f n) (slice_get_within ns i n h)
    ∙ ap (λ ks. ks ++ x ∷ []) (set_changed f ns i n h)

-- a call that writes to the node that it finds
module _ (test : Kind → Bool) (f : Node → Node) (tree : Memory) (path : List ℕ) (place : ℕ) (read : Node)
    (found : Ok place ≡ sought test tree.nodes path) (is : read ≡ get_or tree.nodes place read) where
  written : record tree { nodes = set tree.nodes place (f read) } ≡ record tree { nodes = changed f tree.nodes place }
  written =
      let there = sought_ok test tree.nodes path place found in
      ap (λ ns. record tree { nodes = ns }) (write_changed f tree.nodes place there.0 read there.1 is)

  reported : Ok (record tree { nodes = changed f tree.nodes place }) ≡ set_at test f tree path
  reported = ap (and_then (λ i. Ok (record tree { nodes = changed f tree.nodes i }))) found

  pub leaves_written : Leaves {A = Unit {0}} (set_at test f tree path) (Ok tt) tree (record tree { nodes = set tree.nodes place (f read) })
  leaves_written =
      subst (λ (made : Result Memory TreeError). Leaves {A = Unit {0}} made (Ok tt) tree
      (record tree { nodes = set tree.nodes place (f read) })) reported written

  pub leaves_room : (x : Node) → x ≡ f read → LeavesIfRoom {A = Unit {0}} (set_at test f tree path) (Ok tt) tree
      (record tree { nodes = set tree.nodes place x })
  leaves_room x e =
      subst (λ (made : Result Memory TreeError). LeavesIfRoom {A = Unit {0}} made (Ok tt) tree
      (record tree { nodes = set tree.nodes place x })) reported (ap (λ y. record tree { nodes = set tree.nodes place y }) e ∙ written)

-- an added node, by its fields
pub with_node_is : (nodes : List Node) (path : List ℕ) (kind : Kind) (len parent : ℕ) (name : List ℕ) (reported : FileType) (place : ℕ)
    (copy : List ℕ) (node : Node) → name ≡ last_component (components path) → reported ≡ file_type_of kind → place ≡ length nodes
    → copy ≡ path → node ≡ new_node place parent copy kind len
    → changed (listing_too (Named name reported place)) nodes parent ++ node ∷ [] ≡ with_node nodes path kind len parent
with_node_is nodes path kind len parent name reported place copy node name_is reported_is place_is copy_is node_is =
    ap (λ n. changed (listing_too (Named name reported place)) nodes parent ++ n ∷ []) node_is
    ∙ ap (λ n. changed (listing_too (Named n reported place)) nodes parent ++ new_node place parent copy kind len ∷ []) name_is
    ∙ ap (λ t. changed (listing_too (Named (last_component (components path)) t place)) nodes parent
    ++ new_node place parent copy kind len ∷ []) reported_is
    ∙ ap (λ i. changed (listing_too (Named (last_component (components path)) (file_type_of kind) i)) nodes parent
    ++ new_node i parent copy kind len ∷ []) place_is
    ∙ ap (λ p. changed (listing_too (Named (last_component (components path)) (file_type_of kind) (length nodes))) nodes parent
    ++ new_node (length nodes) parent p kind len ∷ []) copy_is
