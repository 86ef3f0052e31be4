-- The directories of a tree in memory have numbers.
use Rattle.std.proofs.Common.{◌≡◌, ℕ, ◌<◌, Bool, true, false, cond, zero, suc, List, [], ◌∷◌, length, map, Option, Some, None, Result, Ok, Err, refl, sym, ap, subst, ◌∙◌, arith}
use Rattle.std.proofs.Common.{slice_get, ok_or, option_map, Contains, get_or}
use Rattle.std.specs.Option.{option_map_or}
use Rattle.ignore_base.specs.declared.fault.Fault.{Fault}
use Rattle.ignore_base.specs.declared.fault.Fault.TheVariants.{NotFound}
use Rattle.ignore_base.specs.Paths.{has_slash, is_proper, join_of}
use Rattle.ignore_files.specs.Answers.{file_type_of, unless, stat_of, listed_of, listing_of, list_of, tree_of}
use Rattle.ignore_files.specs.Dirs.{IsNumbered}
use Rattle.ignore_files.specs.Grown.{IsGrown}
use Rattle.ignore_files.specs.Kinds.{is_dir}
use Rattle.ignore_files.specs.Memory.{Memory, and_then, is_directory, is_dir_at, dir_count}
use Rattle.ignore_files.specs.Resolve.{resolved}
use Rattle.ignore_files.specs.declared.memory.entry.Entry.{Entry}
use Rattle.ignore_files.specs.declared.memory.entry.Entry.TheVariants.{Named, Nameless}
use Rattle.ignore_files.specs.declared.memory.node.Node.{Node}
use Rattle.ignore_files.specs.declared.memory.node.Kind.{Kind}
use Rattle.ignore_files.specs.declared.memory.node.Kind.TheVariants.{Dir, File, Link}
use Rattle.ignore_files.specs.declared.types.FileType.{FileType}
use Rattle.ignore_files.specs.declared.types.FileType.TheVariants as type
use Rattle.ignore_files.specs.declared.types.Listed.{Listed}
use Rattle.ignore_files.specs.declared.types.Listed.TheVariants as thing
use Rattle.ignore_files.specs.declared.types.Metadata.{Metadata}
use Rattle.ignore_files.proofs.Leads.{enter_name, resolved_name}
use Rattle.ignore_files.proofs.Ranks.{rank, dirs, rank_below, rank_less, rank_one, count_dirs}

-- an entry that is listed so
entry_is : (e : Entry) (name : List ℕ) (kind : FileType) → listed_of e ≡ thing.Entry name kind → (k : ℕ) × (e ≡ Named name kind k)
entry_is (Named n t k) name kind h = (k, cc (h))
entry_is Nameless name kind h = absurd (cc (h))

entry_at : (es : List Entry) (name : List ℕ) (kind : FileType) (i : ℕ) → i < length (map listed_of es)
    → get_or (map listed_of es) i (thing.Entry name kind) ≡ thing.Entry name kind → (k : ℕ) × Contains es (Named name kind k)
entry_at [] name kind i p h = absurd (omega (arith, p))
entry_at (e ∷ es) name kind zero p h = let is = entry_is e name kind h in (is.0, (0, omega arith, is.1))
entry_at (e ∷ es) name kind (suc i) p h =
    let later = entry_at es name kind i (omega (arith, p)) h in
    let at = later.1 in
    let less = at.1 in
    (later.0, (suc at.0, omega (arith, less), at.2))

-- the kind of a node
dir_kind : (kind : Kind) → is_dir (file_type_of kind) ≡ true → is_directory kind ≡ true
dir_kind (Dir entries) h = refl
dir_kind (File bytes) h = h
dir_kind (Link target) h = h

dir_type : (kind : Kind) → file_type_of kind ≡ type.Dir → is_directory kind ≡ true
dir_type (Dir entries) h = refl
dir_type (File bytes) h = absurd (cc (h))
dir_type (Link target) h = absurd (cc (h))

dir_there : (o : Option Node) → option_map (λ n. file_type_of n.kind) o ≡ Some type.Dir → option_map_or (λ n. is_directory n.kind) o false ≡ true
dir_there None h = absurd (cc (h))
dir_there (Some n) h = dir_type n.kind (cc (h))

-- an answer without a fault
pub unless_ok : {A : Type 0} (fault : Option Fault) (r : Result A Fault) (a : A) → unless fault r ≡ Ok a → r ≡ Ok a
unless_ok None r a h = h
unless_ok (Some f) r a h = absurd (cc (h))

pub listing_ok : (kind : Kind) (xs : List Listed) → listing_of kind ≡ Ok xs → (entries : List Entry) × (kind ≡ Dir entries) × (xs ≡ map listed_of entries)
listing_ok (Dir entries) xs h = (entries, refl, cc (h))
listing_ok (File bytes) xs h = absurd (cc (h))
listing_ok (Link target) xs h = absurd (cc (h))

-- the node to which a path leads
abbrev pub node_of : List Node → Result ℕ Fault → Result Node Fault
node_of nodes at = and_then (λ i. ok_or (slice_get nodes i) NotFound) at

some_ok : (o : Option Node) (n : Node) → ok_or o NotFound ≡ Ok n → o ≡ Some n
some_ok None n h = absurd (cc (h))
some_ok (Some m) n h = cc (h)

pub node_ok : (nodes : List Node) (at : Result ℕ Fault) (n : Node) → node_of nodes at ≡ Ok n → (i : ℕ) × (at ≡ Ok i) × (slice_get nodes i ≡ Some n)
node_ok nodes (Err f) n h = absurd (cc (h))
node_ok nodes (Ok i) n h = (i, refl, some_ok (slice_get nodes i) n h)

-- an answer of a node
pub answer_ok : {A : Type 0} (nodes : List Node) (f : Node → Result A Fault) (at : Result ℕ Fault) (a : A) → and_then f (node_of nodes at) ≡ Ok a
    → (n : Node) × (node_of nodes at ≡ Ok n) × (f n ≡ Ok a)
answer_ok nodes f at a h = from (node_of nodes at) h
  where
    from : (r : Result Node Fault) → and_then f r ≡ Ok a → (n : Node) × (r ≡ Ok n) × (f n ≡ Ok a)
    from (Err e) k = absurd (cc (k))
    from (Ok n) k = (n, refl, k)

-- the number of a directory, or one that no directory has
abbrev number_of : List Node → Result ℕ Fault → ℕ
number_of nodes (Err f) = dirs nodes
number_of nodes (Ok i) = cond (is_dir_at nodes i) (rank nodes i) (dirs nodes)

number_is : (nodes : List Node) (at : Result ℕ Fault) (i : ℕ) → at ≡ Ok i → is_dir_at nodes i ≡ true → number_of nodes at ≡ rank nodes i
number_is nodes at i e dir = ap (number_of nodes) e ∙ ap (λ b. cond b (rank nodes i) (dirs nodes)) dir

-- it is the place of a directory, with this number
abbrev IsDirAt : List Node → Result ℕ Fault → ℕ → Type 0
IsDirAt nodes at n = (i : ℕ) × (at ≡ Ok i) × (is_dir_at nodes i ≡ true) × (n ≡ rank nodes i)

place_ok : (nodes : List Node) (i : ℕ) (dir : Bool) → is_dir_at nodes i ≡ dir → cond dir (rank nodes i) (dirs nodes) < dirs nodes
    → IsDirAt nodes (Ok i) (cond dir (rank nodes i) (dirs nodes))
place_ok nodes i true e k = (i, refl, e, refl)
place_ok nodes i false e k = absurd (omega (arith, k))

-- what has a number is a directory
number_ok : (nodes : List Node) (at : Result ℕ Fault) → number_of nodes at < dirs nodes → IsDirAt nodes at (number_of nodes at)
number_ok nodes (Err f) h = absurd (omega (arith, h))
number_ok nodes (Ok i) h = place_ok nodes i (is_dir_at nodes i) refl h

pub dir_at : (nodes : List Node) (i : ℕ) (n : Node) → slice_get nodes i ≡ Some n → is_directory n.kind ≡ true → is_dir_at nodes i ≡ true
dir_at nodes i n at dir = ap (λ o. option_map_or (λ m. is_directory m.kind) o false) at ∙ dir

module _ (cwd : List ℕ) (nodes : List Node) where
  abbrev at_path : List ℕ → Result ℕ Fault
  at_path path = resolved cwd nodes path true

  in_range : (at : Result ℕ Fault) (n : Node) → node_of nodes at ≡ Ok n → is_directory n.kind ≡ true → number_of nodes at < dirs nodes
  in_range at n h dir =
      let there = node_ok nodes at n h in
      let is = dir_at nodes there.0 n there.2 dir in
      let less = rank_below nodes there.0 is in
      omega (arith, less, number_is nodes at there.0 there.1 is)

  found_in : (path : List ℕ) (m : Metadata) → and_then stat_of (node_of nodes (at_path path)) ≡ Ok m → is_dir m.file_type ≡ true
      → number_of nodes (at_path path) < dirs nodes
  found_in path m h dir =
      let n = answer_ok nodes stat_of (at_path path) m h in
      let is : Ok (record { file_type = file_type_of n.0.kind; len = n.0.len }) ≡ Ok m = unless_ok n.0.stat_fault _ m n.2 in
      let same : file_type_of n.0.kind ≡ m.file_type = cc (is) in
      in_range (at_path path) n.0 n.1 (dir_kind n.0.kind (ap is_dir same ∙ dir))

  listing_in : (path : List ℕ) (xs : List Listed) → and_then list_of (node_of nodes (at_path path)) ≡ Ok xs
      → number_of nodes (at_path path) < dirs nodes
  listing_in path xs h =
      let n = answer_ok nodes list_of (at_path path) xs h in
      let is = listing_ok n.0.kind xs (unless_ok n.0.list_fault (listing_of n.0.kind) xs n.2) in
      in_range (at_path path) n.0 n.1 (ap is_directory is.1)

  listed_in : IsGrown nodes → (path name : List ℕ) (xs : List Listed) → and_then list_of (node_of nodes (at_path path)) ≡ Ok xs
      → Contains xs (thing.Entry name type.Dir) → is_proper name ≡ true → has_slash name ≡ false
      → (number_of nodes (at_path path) < number_of nodes (at_path (join_of path name)))
      × (number_of nodes (at_path (join_of path name)) < dirs nodes)
  listed_in grown path name xs h has proper flat =
      let n = answer_ok nodes list_of (at_path path) xs h in
      let is = listing_ok n.0.kind xs (unless_ok n.0.list_fault (listing_of n.0.kind) xs n.2) in
      let there = node_ok nodes (at_path path) n.0 n.1 in
      let dir = dir_at nodes there.0 n.0 there.2 (ap is_directory is.1) in
      let here = subst (λ l. Contains l (thing.Entry name type.Dir)) is.2 has in
      let entry = entry_at is.0 name type.Dir here.0 here.1 here.2 in
      let leads = grown there.0 n.0 is.0 name type.Dir entry.0 there.2 is.1 entry.1 in
      let below = dir_there (slice_get nodes entry.0) leads.2 in
      let enters = enter_name nodes there.0 entry.0 n.0 is.0 name there.2 is.1 leads.0 proper in
      let to = resolved_name cwd nodes path name there.0 entry.0 there.1 dir enters below flat in
      let first = number_is nodes (at_path path) there.0 there.1 dir in
      let second = number_is nodes (at_path (join_of path name)) entry.0 to below in
      let later = leads.1 in
      let less = rank_less nodes there.0 entry.0 later dir in
      let last = rank_below nodes entry.0 below in
      (omega (arith, first, second, less), omega (arith, second, last))

  one_in : (a b : List ℕ) → number_of nodes (at_path a) < dirs nodes → number_of nodes (at_path b) ≡ number_of nodes (at_path a)
      → at_path b ≡ at_path a
  one_in a b h same =
      let first = number_ok nodes (at_path a) h in
      let second = number_ok nodes (at_path b) (omega (arith, h, same)) in
      let equal = rank_one nodes first.0 second.0 first.2 second.2 (sym second.3 ∙ same ∙ first.3) in
      second.1 ∙ ap Ok equal ∙ sym first.1

-- where each entry leads to a later node, directories have numbers by their places
pub numbered : (tree : Memory) → IsGrown tree.nodes → IsNumbered (tree_of tree) (dir_count tree)
numbered tree grown =
    subst (IsNumbered (tree_of tree)) (sym (count_dirs tree.nodes))
    (record {
      number = λ path. number_of tree.nodes (resolved tree.cwd tree.nodes path true);
      found = found_in tree.cwd tree.nodes;
      listing = listing_in tree.cwd tree.nodes;
      listed = listed_in tree.cwd tree.nodes grown;
      one = λ a b h same. ap (λ at. and_then (λ n. Ok n.identity) (node_of tree.nodes at)) (one_in tree.cwd tree.nodes a b h same);
    })
