-- Removing a node, and writing a file anew, keep how the nodes of a tree in memory stand to one
-- another.
use Rattle.std.proofs.Common.{◌≡◌, ℕ, ◌<◌, Bool, true, false, cond, List, [], ◌∷◌, Option, Some, None, Result, Ok, Err, refl, sym, ap, subst, ◌∙◌}
use Rattle.std.proofs.Common.{slice_get, bytes_eq, Contains, inl, inr, get_or, set}
use Rattle.std.proofs.Common.{not, All, zero, suc, arith}
use Rattle.std.specs.List.{filter}
use Rattle.std.proofs.lemmas.List.Elements.{All-nil, All-cons, All-contains, filter_passes}
use Rattle.std.proofs.lemmas.Slice.Eq.{bytes_eq-Decides}
use Rattle.ignore_base.specs.Paths.{components, last_component}
use Rattle.ignore_files.specs.Answers.{file_type_of}
use Rattle.ignore_files.specs.Changes.{changed, Leaves}
use Rattle.ignore_files.specs.Entries.{node_named}
use Rattle.ignore_files.specs.Grown.{kind_at, IsGrown}
use Rattle.ignore_files.specs.Memory.{Memory, and_then, child, folder_sought}
use Rattle.ignore_files.specs.Removed.{is_under, without, without_name, unlisting, holding, with_bytes, listing, lister_of, removed}
use Rattle.ignore_files.specs.declared.memory.entry.Entry.{Entry}
use Rattle.ignore_files.specs.declared.memory.entry.Entry.TheVariants.{Named, Nameless}
use Rattle.ignore_files.specs.declared.memory.node.Node.{Node}
use Rattle.ignore_files.specs.declared.memory.node.Kind.{Kind}
use Rattle.ignore_files.specs.declared.memory.node.Kind.TheVariants.{Dir, File, Link}
use Rattle.ignore_files.specs.declared.tree_error.TreeError.{TreeError}
use Rattle.ignore_files.specs.declared.types.FileType.{FileType}
use Rattle.ignore_files.proofs.GrownLemmas.{KeepsKinds, Changed, get_changed, kind_changed}
use Rattle.ignore_files.proofs.NodeLemmas.{write_changed}
use Rattle.ignore_files.proofs.Places.{folder_ok}

-- without the entries of a name, it leads nowhere, and every other one as before
pub named_without : (q name : List ℕ) (es : List Entry) → node_named q (without name es) ≡ cond (bytes_eq name q) None (node_named q es)
named_without q name [] = either (bytes_eq name q) None
  where
    either : (b : Bool) (o : Option ℕ) → o ≡ cond b o o
    either true o = refl
    either false o = refl
named_without q name (Nameless ∷ es) = named_without q name es
named_without q name (Named n t i ∷ es) = either (bytes_eq n name) (bytes_eq n q) (bytes_eq name q) refl refl refl (named_without q name es)
  where
    either : (a b c : Bool) → bytes_eq n name ≡ a → bytes_eq n q ≡ b → bytes_eq name q ≡ c
        → node_named q (without name es) ≡ cond c None (node_named q es)
        → node_named q (cond (not a) (Named n t i ∷ without name es) (without name es)) ≡ cond c None (cond b (Some i) (node_named q es))
    either true b true ea eb ec h = h
    either true false false ea eb ec h = h
    either true true false ea eb ec h =
        let same : n ≡ name = (bytes_eq-Decides n name).0 ea in
        absurd (cc (eb, ec, ap (λ m. bytes_eq m q) same))
    either false true true ea eb ec h =
        let same : n ≡ q = (bytes_eq-Decides n q).0 eb in
        let other : name ≡ q = (bytes_eq-Decides name q).0 ec in
        let equal : bytes_eq n name ≡ true = (bytes_eq-Decides n name).1 (same ∙ sym other) in
        absurd (cc (ea, equal))
    either false false true ea eb ec h = ap (λ b. cond b (Some i) (node_named q (without name es))) eb ∙ h
    either false true false ea eb ec h = ap (λ b. cond b (Some i) (node_named q (without name es))) eb
    either false false false ea eb ec h = ap (λ b. cond b (Some i) (node_named q (without name es))) eb ∙ h

later : {X : Type 0} (x : X) (xs : List X) (y : X) → Contains xs y → Contains (x ∷ xs) y
later x xs y c = let less = c.1 in (suc c.0, omega (arith, less), c.2)

all_kept : {X : Type 0} (P : X → Type 0) (p : X → Bool) (xs : List X) → ((x : X) → Contains xs x → P x) → All P (filter p xs)
all_kept P p [] h = All-nil P
all_kept P p (x ∷ xs) h = from (p x) (all_kept P p xs (λ y c. h y (later x xs y c)))
  where
    from : (b : Bool) → All P (filter p xs) → All P (cond b (x ∷ filter p xs) (filter p xs))
    from true all = All-cons P x (filter p xs) (h x (zero, omega arith, refl)) all
    from false all = all

-- another name isn't that one the other way round either
otherwise : (q name : List ℕ) (o : Option ℕ) → not (bytes_eq name q) ≡ true → cond (bytes_eq q name) None o ≡ o
otherwise q name o h = from (bytes_eq q name) refl
  where
    from : (b : Bool) → bytes_eq q name ≡ b → cond b None o ≡ o
    from false e = refl
    from true e =
        let same : q ≡ name = (bytes_eq-Decides q name).0 e in
        let equal : bytes_eq name q ≡ true = (bytes_eq-Decides name q).1 (sym same) in
        absurd (cc (h, ap not equal))

-- an entry that is left was there, and leads where it led
left : (q name : List ℕ) (kind : FileType) (node : ℕ) (es : List Entry) → Contains (without q es) (Named name kind node)
    → Contains es (Named name kind node) × (node_named name (without q es) ≡ node_named name es)
left q name kind node es has = (
  All-contains (Contains es) (without q es) (Named name kind node) (all_kept (Contains es) (λ e. not (is_under q e)) es (λ e c. c)) has,
  named_without name q es ∙ otherwise q name (node_named name es) (All-contains (λ e. not (is_under q e) ≡ true) (without q es)
      (Named name kind node) (filter_passes (λ e. not (is_under q e)) es) has),
)

-- a change that keeps kinds, and of the entries some, which lead where they led
module _ (f : Node → Node) (same : KeepsKinds f)
    (back : (n : Node) (entries : List Entry) → (f n).kind ≡ Dir entries → (es : List Entry) × (n.kind ≡ Dir es)
    × ((name : List ℕ) (kind : FileType) (node : ℕ) → Contains entries (Named name kind node)
    → Contains es (Named name kind node) × (node_named name entries ≡ node_named name es))) where
  grown_kept : (ns : List Node) (p : ℕ) → IsGrown ns → IsGrown (changed f ns p)
  grown_kept ns p g place dir entries name kind node at is has = from (get_changed f ns p place dir at)
    where
      from : Changed f ns p place dir → (node_named name entries ≡ Some node) × (place < node) × (kind_at (changed f ns p) node ≡ Some kind)
      from (inl (e, (n, there, d))) =
          let b = back n entries (ap (λ (m : Node). m.kind) (sym d) ∙ is) in
          let was = b.2 name kind node has in
          let r = g place n b.0 name kind node there b.1 was.0 in
          (was.1 ∙ r.0, r.1, kind_changed f same ns p node ∙ r.2)
      from (inr there) =
          let r = g place dir entries name kind node there is has in
          (r.0, r.1, kind_changed f same ns p node ∙ r.2)

keeps_unlisting : (q : List ℕ) → KeepsKinds (unlisting q)
keeps_unlisting q n = from n.kind
  where
    from : (kind : Kind) → file_type_of (without_name q kind) ≡ file_type_of kind
    from (Dir entries) = refl
    from (File bytes) = refl
    from (Link target) = refl

unlisting_dir : (q : List ℕ) (kind : Kind) (entries : List Entry) → without_name q kind ≡ Dir entries
    → (es : List Entry) × (kind ≡ Dir es) × (entries ≡ without q es)
unlisting_dir q (Dir es) entries h = (es, refl, cc (h))
unlisting_dir q (File bytes) entries h = absurd (cc (h))
unlisting_dir q (Link target) entries h = absurd (cc (h))

pub grown_unlisting : (q : List ℕ) (ns : List Node) (p : ℕ) → IsGrown ns → IsGrown (changed (unlisting q) ns p)
grown_unlisting q = grown_kept (unlisting q) (keeps_unlisting q) (λ n entries h.
    let d = unlisting_dir q n.kind entries h in (
      d.0,
      d.1,
      λ name kind node has.
          let l = left q name kind node d.0 (subst (λ es. Contains es (Named name kind node)) d.2 has) in
          (l.0, ap (node_named name) d.2 ∙ l.1),
    ))

keeps_holding : (bytes : List ℕ) → KeepsKinds (holding bytes)
keeps_holding bytes n = from n.kind
  where
    from : (kind : Kind) → file_type_of (with_bytes bytes kind) ≡ file_type_of kind
    from (Dir entries) = refl
    from (File old) = refl
    from (Link target) = refl

holding_dir : (bytes : List ℕ) (kind : Kind) (entries : List Entry) → with_bytes bytes kind ≡ Dir entries → kind ≡ Dir entries
holding_dir bytes (Dir es) entries h = h
holding_dir bytes (File old) entries h = absurd (cc (h))
holding_dir bytes (Link target) entries h = absurd (cc (h))

pub grown_holding : (bytes : List ℕ) (ns : List Node) (p : ℕ) → IsGrown ns → IsGrown (changed (holding bytes) ns p)
grown_holding bytes = grown_kept (holding bytes) (keeps_holding bytes) (λ n entries h.
    (entries, holding_dir bytes n.kind entries h, λ name kind node has. (has, refl)))

-- a directory that lists a path stands
listed : (o : Option ℕ) (x y : ℕ) → Ok y ≡ listing o x → x ≡ y
listed None x y h = absurd (cc (h))
listed (Some i) x y h = cc (h)

lister_found : (nodes : List Node) (name : List ℕ) (parent : ℕ) (folder : Result ℕ TreeError)
    → Ok parent ≡ and_then (λ p. listing (child nodes p name) p) folder → Ok parent ≡ folder
lister_found nodes name parent (Ok x) h = ap Ok (sym (listed (child nodes x name) x parent h))
lister_found nodes name parent (Err e) h = absurd (cc (h))

pub lister_ok : (nodes : List Node) (path : List ℕ) (parent : ℕ) → Ok parent ≡ lister_of nodes path
    → (n : Node) × (slice_get nodes parent ≡ Some n)
lister_ok nodes path parent h =
    (folder_ok nodes path parent (lister_found nodes (last_component (components path)) parent (folder_sought nodes path) h)).1

-- a write to a node that stands
pub grown_set : (f : Node → Node) (ns : List Node) (place : ℕ) (read x : Node) → ((n : Node) × (slice_get ns place ≡ Some n))
    → read ≡ get_or ns place read → x ≡ f read → IsGrown (changed f ns place) → IsGrown (set ns place x)
grown_set f ns place read x there is e g =
    subst (λ y. IsGrown (set ns place y)) (sym e) (subst IsGrown (sym (write_changed f ns place there.0 read there.1 is)) g)

-- what `remove` leaves
pub leaves_removed : (tree : Memory) (path : List ℕ) (parent : ℕ) (read x : Node) → Ok parent ≡ lister_of tree.nodes path
    → read ≡ get_or tree.nodes parent read → x ≡ unlisting (last_component (components path)) read
    → Leaves {A = Unit {0}} (removed tree path) (Ok tt) tree (record tree { nodes = set tree.nodes parent x })
leaves_removed tree path parent read x found is e =
    let f = unlisting (last_component (components path)) in
    let there = lister_ok tree.nodes path parent found in
    let reported : Ok (record tree { nodes = changed f tree.nodes parent }) ≡ removed tree path =
    ap (and_then (λ i. Ok (record tree { nodes = changed f tree.nodes i }))) found in
    subst (λ (made : Result Memory TreeError). Leaves {A = Unit {0}} made (Ok tt) tree (record tree { nodes = set tree.nodes parent x }))
    reported (ap (λ ns. record tree { nodes = ns }) (ap (set tree.nodes parent) e ∙ write_changed f tree.nodes parent there.0 read there.1 is))
