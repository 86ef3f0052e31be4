-- Each change of a tree in memory keeps how its nodes stand to one another.
use Rattle.std.proofs.Common.{◌≡◌, ℕ, zero, suc, ◌<◌, Bool, true, false, cond, List, [], ◌∷◌, ◌++◌, length, Some, None, Result, Ok, Err, refl, sym, ap, subst, ◌∙◌, arith}
use Rattle.std.proofs.Common.{slice_get, bytes_eq, Contains, ◌⊎◌, inl, inr, OnOk, OnErr, get_or, set}
use Rattle.std.proofs.lemmas.List.Elements.{Contains-push_cases}
use Rattle.std.proofs.lemmas.Option.{slice_get_within}
use Rattle.std.proofs.lemmas.Slice.Eq.{bytes_eq-Decides}
use Rattle.ignore_base.specs.Paths.{components, last_component}
use Rattle.ignore_files.specs.Answers.{file_type_of}
use Rattle.ignore_files.specs.Changes.{changed, with_entry, listing_too, with_node}
use Rattle.ignore_files.specs.Entries.{node_named}
use Rattle.ignore_files.specs.Grown.{kind_at, IsGrown}
use Rattle.ignore_files.specs.Memory.{sought, parent_for, entry_under, new_node}
use Rattle.ignore_files.specs.declared.memory.entry.Entry.{Entry}
use Rattle.ignore_files.specs.declared.memory.entry.Entry.TheVariants.{Named, Nameless}
use Rattle.ignore_files.specs.declared.memory.node.Node.{Node}
use Rattle.ignore_files.specs.declared.memory.node.Kind.{Kind}
use Rattle.ignore_files.specs.declared.memory.node.Kind.TheVariants.{Dir, File, Link}
use Rattle.ignore_files.specs.declared.types.FileType.{FileType}
use Rattle.ignore_files.proofs.EntryLemmas.{named_nameless, named_more}
use Rattle.ignore_files.proofs.NodeLemmas.{write_changed}
use Rattle.ignore_files.proofs.Places.{parent_ok, sought_ok}

abbrev pub KeepsKinds : (Node → Node) → Type 0
KeepsKinds f = (n : Node) → file_type_of (f n).kind ≡ file_type_of n.kind

pub kind_changed : (f : Node → Node) → KeepsKinds f → (ns : List Node) (p i : ℕ) → kind_at (changed f ns p) i ≡ kind_at ns i
kind_changed f keeps [] p i = refl
kind_changed f keeps (n ∷ ns) zero zero = ap Some (keeps n)
kind_changed f keeps (n ∷ ns) zero (suc i) = refl
kind_changed f keeps (n ∷ ns) (suc p) zero = refl
kind_changed f keeps (n ∷ ns) (suc p) (suc i) = kind_changed f keeps ns p i

kind_before : (ns : List Node) (x : Node) (i : ℕ) (k : FileType) → kind_at ns i ≡ Some k → kind_at (ns ++ x ∷ []) i ≡ Some k
kind_before [] x i k h = absurd (cc (h))
kind_before (n ∷ ns) x zero k h = h
kind_before (n ∷ ns) x (suc i) k h = kind_before ns x i k h

kind_last : (ns : List Node) (x : Node) (i : ℕ) → i ≡ length ns → kind_at (ns ++ x ∷ []) i ≡ Some (file_type_of x.kind)
kind_last [] x zero e = refl
kind_last [] x (suc i) e = absurd (omega (arith, e))
kind_last (n ∷ ns) x zero e = absurd (omega (arith, e))
kind_last (n ∷ ns) x (suc i) e = kind_last ns x i (omega (arith, e))

length_changed : (f : Node → Node) (ns : List Node) (p : ℕ) → length (changed f ns p) ≡ length ns
length_changed f [] p = refl
length_changed f (n ∷ ns) zero = refl
length_changed f (n ∷ ns) (suc p) = ap suc (length_changed f ns p)

-- a node of the changed ones was changed, or was there
abbrev pub Changed : (Node → Node) → List Node → ℕ → ℕ → Node → Type 0
Changed f ns p i d = ((i ≡ p) × ((n : Node) × (slice_get ns i ≡ Some n) × (d ≡ f n))) ⊎ (slice_get ns i ≡ Some d)

pub get_changed : (f : Node → Node) (ns : List Node) (p i : ℕ) (d : Node) → slice_get (changed f ns p) i ≡ Some d → Changed f ns p i d
get_changed f [] p i d h = absurd (cc (h))
get_changed f (n ∷ ns) zero zero d h = inl (refl, (n, refl, cc (h)))
get_changed f (n ∷ ns) zero (suc i) d h = inr h
get_changed f (n ∷ ns) (suc p) zero d h = inr h
get_changed f (n ∷ ns) (suc p) (suc i) d h = later (get_changed f ns p i d h)
  where
    later : Changed f ns p i d → Changed f (n ∷ ns) (suc p) (suc i) d
    later (inl c) = inl (ap suc c.0, c.1)
    later (inr c) = inr c

-- a node of the appended ones is the last, or was there
get_more : (ns : List Node) (x : Node) (i : ℕ) (d : Node) → slice_get (ns ++ x ∷ []) i ≡ Some d → (d ≡ x) ⊎ (slice_get ns i ≡ Some d)
get_more [] x zero d h = inl (cc (h))
get_more [] x (suc i) d h = absurd (cc (h))
get_more (n ∷ ns) x zero d h = inr h
get_more (n ∷ ns) x (suc i) d h = get_more ns x i d h

keeps_listing : (e : Entry) (kind : Kind) → file_type_of (with_entry e kind) ≡ file_type_of kind
keeps_listing e (Dir entries) = refl
keeps_listing e (File bytes) = refl
keeps_listing e (Link target) = refl

listing_dir : (e : Entry) (kind : Kind) (entries : List Entry) → with_entry e kind ≡ Dir entries
    → (es : List Entry) × (kind ≡ Dir es) × (entries ≡ es ++ e ∷ [])
listing_dir e (Dir es) entries h = (es, refl, cc (h))
listing_dir e (File bytes) entries h = absurd (cc (h))
listing_dir e (Link target) entries h = absurd (cc (h))

-- a change that leaves the kinds
pub grown_same : (f : Node → Node) → ((n : Node) → (f n).kind ≡ n.kind) → (ns : List Node) (p : ℕ) → IsGrown ns → IsGrown (changed f ns p)
grown_same f keeps ns p g place dir entries name kind node at is has = from (get_changed f ns p place dir at)
  where
    same : KeepsKinds f
    same n = ap file_type_of (keeps n)

    from : Changed f ns p place dir → (node_named name entries ≡ Some node) × (place < node) × (kind_at (changed f ns p) node ≡ Some kind)
    from (inl (e, (n, there, d))) =
        let r = g place n entries name kind node there (sym (keeps n) ∙ ap (λ (m : Node). m.kind) (sym d) ∙ is) has in
        (r.0, r.1, kind_changed f same ns p node ∙ r.2)
    from (inr there) =
        let r = g place dir entries name kind node there is has in
        (r.0, r.1, kind_changed f same ns p node ∙ r.2)

old_of_nameless : (es : List Entry) (name : List ℕ) (kind : FileType) (node : ℕ) → Contains (es ++ Nameless ∷ []) (Named name kind node)
    → Contains es (Named name kind node)
old_of_nameless es name kind node h = from (Contains-push_cases es Nameless (Named name kind node) h)
  where
    from : Contains es (Named name kind node) ⊎ (Nameless ≡ Named name kind node) → Contains es (Named name kind node)
    from (inl c) = c
    from (inr e) = absurd (cc (e))

-- an entry without a name
pub grown_nameless : (ns : List Node) (p : ℕ) → IsGrown ns → IsGrown (changed (listing_too Nameless) ns p)
grown_nameless ns p g place dir entries name kind node at is has = from (get_changed (listing_too Nameless) ns p place dir at)
  where
    same : KeepsKinds (listing_too Nameless)
    same n = keeps_listing Nameless n.kind

    from : Changed (listing_too Nameless) ns p place dir
        → (node_named name entries ≡ Some node) × (place < node) × (kind_at (changed (listing_too Nameless) ns p) node ≡ Some kind)
    from (inl (e, (n, there, d))) =
        let l = listing_dir Nameless n.kind entries (ap (λ (m : Node). m.kind) (sym d) ∙ is) in
        let old = old_of_nameless l.0 name kind node (subst (λ es. Contains es (Named name kind node)) l.2 has) in
        let r = g place n l.0 name kind node there l.1 old in
        (ap (node_named name) l.2 ∙ named_nameless name l.0 ∙ r.0, r.1, kind_changed (listing_too Nameless) same ns p node ∙ r.2)
    from (inr there) =
        let r = g place dir entries name kind node there is has in
        (r.0, r.1, kind_changed (listing_too Nameless) same ns p node ∙ r.2)

-- an old entry is found as before, beside one under a new name
found_still : (q name : List ℕ) (t : FileType) (k node : ℕ) (es : List Entry) → node_named q es ≡ None → node_named name es ≡ Some node
    → node_named name (es ++ Named q t k ∷ []) ≡ Some node
found_still q name t k node es none some = named_more name q t k es none ∙ from (bytes_eq q name) refl
  where
    from : (b : Bool) → bytes_eq q name ≡ b → cond b (Some k) (node_named name es) ≡ Some node
    from true e = let same : q ≡ name = (bytes_eq-Decides q name).0 e in absurd (cc (none, some, ap (λ m. node_named m es) same))
    from false e = some

itself : (q : List ℕ) → bytes_eq q q ≡ true
itself q = (bytes_eq-Decides q q).1 refl

module _ (ns : List Node) (p : ℕ) (q : List ℕ) (x : Node) (parent : Node) (there : slice_get ns p ≡ Some parent)
    (free : entry_under q parent.kind ≡ None) (bare : (es : List Entry) → x.kind ≡ Dir es → es ≡ []) (g : IsGrown ns) where
  abbrev entry : Entry
  entry = Named q (file_type_of x.kind) (length ns)

  abbrev more : List Node
  more = changed (listing_too entry) ns p ++ x ∷ []

  same : KeepsKinds (listing_too entry)
  same n = keeps_listing entry n.kind

  kind_still : (node : ℕ) (kind : FileType) → kind_at ns node ≡ Some kind → kind_at more node ≡ Some kind
  kind_still node kind h =
      kind_before (changed (listing_too entry) ns p) x node kind (kind_changed (listing_too entry) same ns p node ∙ h)

  abbrev Leads : ℕ → List Entry → List ℕ → FileType → ℕ → Type 0
  Leads place entries name kind node = (node_named name entries ≡ Some node) × (place < node) × (kind_at more node ≡ Some kind)

  -- an entry of the directory that lists the node too
  listed_too : (place : ℕ) (n : Node) (es : List Entry) (name : List ℕ) (kind : FileType) (node : ℕ) → place ≡ p → slice_get ns place ≡ Some n
      → n.kind ≡ Dir es → Contains es (Named name kind node) ⊎ (entry ≡ Named name kind node) → Leads place (es ++ entry ∷ []) name kind node
  listed_too place n es name kind node e at is (inl has) =
      let r = g place n es name kind node at is has in
      let one : Some n ≡ Some parent = sym at ∙ ap (slice_get ns) e ∙ there in
      let node_is : n ≡ parent = cc (one) in
      let none : node_named q es ≡ None = ap (entry_under q) (sym is ∙ ap (λ (m : Node). m.kind) node_is) ∙ free in
      (found_still q name (file_type_of x.kind) (length ns) node es none r.0, r.1, kind_still node kind r.2)
  listed_too place n es name kind node e at is (inr new) =
      let one : Some n ≡ Some parent = sym at ∙ ap (slice_get ns) e ∙ there in
      let node_is : n ≡ parent = cc (one) in
      let none : node_named q es ≡ None = ap (entry_under q) (sym is ∙ ap (λ (m : Node). m.kind) node_is) ∙ free in
      let name_is : q ≡ name = cc (new) in
      let kind_is : file_type_of x.kind ≡ kind = cc (new) in
      let last : length ns ≡ node = cc (new) in
      let less = slice_get_within ns p parent there in
      let long = length_changed (listing_too entry) ns p in (
        ap (λ m. node_named m (es ++ entry ∷ [])) (sym name_is) ∙ named_more q q (file_type_of x.kind) (length ns) es none
            ∙ ap (λ b. cond b (Some (length ns)) (node_named q es)) (itself q) ∙ ap Some last,
        omega (arith, less, e, last),
        kind_last (changed (listing_too entry) ns p) x node (sym last ∙ sym long) ∙ ap Some kind_is,
      )

  before : (place : ℕ) (dir : Node) (entries : List Entry) (name : List ℕ) (kind : FileType) (node : ℕ)
      → dir.kind ≡ Dir entries → Contains entries (Named name kind node) → Changed (listing_too entry) ns p place dir
      → Leads place entries name kind node
  before place dir entries name kind node is has (inl (e, (n, at, d))) =
      let l = listing_dir entry n.kind entries (ap (λ (m : Node). m.kind) (sym d) ∙ is) in
      let r = listed_too place n l.0 name kind node e at l.1
      (Contains-push_cases l.0 entry (Named name kind node) (subst (λ es. Contains es (Named name kind node)) l.2 has)) in
      (ap (node_named name) l.2 ∙ r.0, r.1, r.2)
  before place dir entries name kind node is has (inr at) =
      let r = g place dir entries name kind node at is has in
      (r.0, r.1, kind_still node kind r.2)

  nothing : (es : List Entry) (e : Entry) → es ≡ [] → Contains es e → ⊥
  nothing es e none has =
      let less = has.1 in
      let long = ap length none in
      omega (arith, less, long)

  -- a node more, which lists nothing
  grown_more : IsGrown more
  grown_more place dir entries name kind node at is has = from (get_more (changed (listing_too entry) ns p) x place dir at)
    where
      from : (dir ≡ x) ⊎ (slice_get (changed (listing_too entry) ns p) place ≡ Some dir) → Leads place entries name kind node
      from (inl d) = absurd (nothing entries (Named name kind node) (bare entries (ap (λ (m : Node). m.kind) (sym d) ∙ is)) has)
      from (inr old) = before place dir entries name kind node is has (get_changed (listing_too entry) ns p place dir old)

-- a node is added where it may be
pub grown_with : (ns : List Node) (path : List ℕ) (kind : Kind) (len p : ℕ) → Ok p ≡ parent_for ns path
    → ((es : List Entry) → kind ≡ Dir es → es ≡ []) → IsGrown ns → IsGrown (with_node ns path kind len p)
grown_with ns path kind len p ok bare g =
    let there = parent_ok ns path p (sym ok) in
    grown_more ns p (last_component (components path)) (new_node (length ns) p path kind len) there.0 there.1 there.2 bare g

-- what a call leaves
pub grown_after : {A E : Type 0} (r : Result A E) (old new after : List Node) → OnOk r (new ≡ after) → OnErr r (new ≡ old)
    → IsGrown old → IsGrown after → IsGrown new
grown_after (Ok a) old new after h k g g' = subst IsGrown (sym h) g'
grown_after (Err e) old new after h k g g' = subst IsGrown (sym k) g

-- a write to the node that a call finds
module _ (test : Kind → Bool) (f : Node → Node) (ns : List Node) (path : List ℕ) (place : ℕ) (read : Node)
    (found : Ok place ≡ sought test ns path) (is : read ≡ get_or ns place read) (g : IsGrown ns) where
  written : set ns place (f read) ≡ changed f ns place
  written = let there = sought_ok test ns path place found in write_changed f ns place there.0 read there.1 is

  pub grown_written : ((n : Node) → (f n).kind ≡ n.kind) → IsGrown (set ns place (f read))
  grown_written keeps = subst IsGrown (sym written) (grown_same f keeps ns place g)

pub grown_listing : (test : Kind → Bool) (ns : List Node) (path : List ℕ) (place : ℕ) (read x : Node) → Ok place ≡ sought test ns path
    → read ≡ get_or ns place read → x ≡ listing_too Nameless read → IsGrown ns → IsGrown (set ns place x)
grown_listing test ns path place read x found is e g =
    subst (λ y. IsGrown (set ns place y)) (sym e)
    (subst IsGrown (sym (written test (listing_too Nameless) ns path place read found is g)) (grown_nameless ns place g))

pub grown_unchanged : (test : Kind → Bool) (ns : List Node) (path : List ℕ) (place : ℕ) (read x : Node) → Ok place ≡ sought test ns path
    → read ≡ get_or ns place read → x ≡ read → IsGrown ns → IsGrown (set ns place x)
grown_unchanged test ns path place read x found is e g =
    subst (λ y. IsGrown (set ns place y)) (sym e) (grown_written test (λ n. n) ns path place read found is g (λ n. refl))
