-- In a tree in memory nothing is where a directory would have a name that its listing lacks.
use Rattle.std.proofs.Common.{◌≡◌, ℕ, Bool, true, false, cond, not, ◌&&◌, eqb, List, [], ◌∷◌, ◌++◌, length, map, Some, None, Result, Ok, Err, is_ok}
use Rattle.std.proofs.Common.{refl, sym, ap, ◌∙◌, bytes_eq, codes, slice_get, ok_or, append_assoc}
use Rattle.std.proofs.lemmas.Slice.Eq.{bytes_eq-Decides}
use Rattle.std.specs.Char.{to_ascii_lowercase}
use Rattle.std.specs.List.{list_all}
use Rattle.ignore_base.specs.declared.fault.Fault.{Fault}
use Rattle.ignore_base.specs.declared.fault.Fault.TheVariants.{NotFound, NotADirectory}
use Rattle.ignore_base.specs.Paths.{components, whole_components, has_slash, is_absolute, is_proper, join_of}
use Rattle.ignore_files.specs.Answers.{stat_of, listed_of, listing_of, list_of, tree_of}
use Rattle.ignore_files.specs.Entries.{node_named}
use Rattle.ignore_files.specs.Memory.{Memory, and_then, is_directory, is_dir_at, entries_of}
use Rattle.ignore_files.specs.Resolve.{enter, enter_node, enter_directory, link_at, resolve_last, resolve_inner, resolve_components, walk, start_of, resolved}
use Rattle.ignore_files.specs.Tree.{Answers}
use Rattle.ignore_files.specs.Whole.{is_plain, differs, is_found, IsWhole, AreWhole}
use Rattle.ignore_files.specs.declared.memory.entry.Entry.{Entry}
use Rattle.ignore_files.specs.declared.memory.entry.Entry.TheVariants.{Named, Nameless}
use Rattle.ignore_files.specs.declared.memory.node.Node.{Node}
use Rattle.ignore_files.specs.declared.memory.node.Kind.TheVariants.{Dir}
use Rattle.ignore_files.specs.declared.memory.resolve.Reached.{Reached}
use Rattle.ignore_files.specs.declared.types.Refusal.{Refusal}
use Rattle.ignore_files.specs.declared.types.Refusal.TheVariants.{Fault as Refused}
use Rattle.ignore_files.proofs.Leads.{Solid, solid, whole_some, whole_walk, proper, rooted, absolute_rooted, rooted_more, start_same, led, reached, filled}
use Rattle.ignore_files.proofs.Numbered.{answer_ok, listing_ok, node_ok, node_of, unless_ok, dir_at}
use Rattle.ignore_files.proofs.JoinedName.{components_join, components_path}
use Rattle.ignore_files.proofs.Walks.{after_link, onward, walk_components, walk_append}

both : (a b : Bool) → a && b ≡ true → (a ≡ true) × (b ≡ true)
both true b h = (refl, h)
both false b h = absurd (cc (h))

denied : (a : Bool) → not a ≡ true → a ≡ false
denied true h = absurd (cc (h))
denied false h = refl

-- names that differ in lower case differ
other : (a b : List ℕ) → not (bytes_eq (map to_ascii_lowercase a) (map to_ascii_lowercase b)) ≡ true → bytes_eq a b ≡ false
other a b h = put (bytes_eq a b) refl
  where
    put : (same : Bool) → bytes_eq a b ≡ same → same ≡ false
    put false e = refl
    put true e =
        let is : a ≡ b = (bytes_eq-Decides a b).0 e in
        let lower : bytes_eq (map to_ascii_lowercase a) (map to_ascii_lowercase b) ≡ true =
        (bytes_eq-Decides (map to_ascii_lowercase a) (map to_ascii_lowercase b)).1 (ap (map to_ascii_lowercase) is) in
        absurd (cc (lower, h))

-- what each listed entry differs from has no entry
unnamed : (name : List ℕ) (entries : List Entry) → list_all (differs name) (map listed_of entries) ≡ true → node_named name entries ≡ None
unnamed name [] h = refl
unnamed name (Named n kind node ∷ es) h =
    let p = both _ _ h in
    ap (λ b. cond b (Some node) (node_named name es)) (other n name p.0) ∙ unnamed name es p.1
unnamed name (Nameless ∷ es) h = absurd (cc (h))

-- a name without an entry leads nowhere from a directory
enter_none : (nodes : List Node) (here : ℕ) (n : Node) (entries : List Entry) (name : List ℕ) → slice_get nodes here ≡ Some n
    → n.kind ≡ Dir entries → node_named name entries ≡ None → is_proper name ≡ true → enter nodes here name ≡ Err NotFound
enter_none nodes here n entries [] at kind found h = absurd (cc (h))
enter_none nodes here n entries (b ∷ bs) at kind found h =
    let is = proper (eqb (length (b ∷ bs)) 0) (bytes_eq (b ∷ bs) (codes ".")) (bytes_eq (b ∷ bs) (codes "..")) h in
    ap (λ s. cond s (Ok here) (enter_node (b ∷ bs) (slice_get nodes here))) is.1
    ∙ ap (enter_node (b ∷ bs)) at
    ∙ ap (λ k. enter_directory n.parent (b ∷ bs) (entries_of k)) kind
    ∙ ap (λ s. cond s (Ok n.parent) (ok_or (node_named (b ∷ bs) entries) NotFound)) is.2
    ∙ ap (λ o. ok_or o NotFound) found

module _ (nodes : List Node) where
  -- neither does what comes after it
  name_nowhere : (links here : ℕ) (name : List ℕ) (more : List (List ℕ)) → enter nodes here name ≡ Err NotFound
      → walk nodes true links (name ∷ more) here ≡ Err NotFound
  name_nowhere links here name [] e =
      walk_components nodes true links (name ∷ []) here
      ∙ ap (and_then (λ i. resolve_last true links (after_link nodes true links) i (link_at nodes i))) e
  name_nowhere links here name (next ∷ rest) e =
      walk_components nodes true links (name ∷ (next ∷ rest)) here
      ∙ ap (and_then (λ i. resolve_inner (is_dir_at nodes i)
      (resolve_components nodes true links (after_link nodes true links) (next ∷ rest) i) (after_link nodes true links) (next ∷ rest)
      (link_at nodes i))) e

  walk_nowhere : (links here : ℕ) (ps : List (List ℕ)) (name : List ℕ) (more : List (List ℕ)) (r : Reached) → Solid ps
      → walk nodes true links ps here ≡ Ok r → is_dir_at nodes r.node ≡ true → enter nodes r.node name ≡ Err NotFound
      → walk nodes true links (whole_components ps ++ name ∷ more) here ≡ Err NotFound
  walk_nowhere links here ps name more r h w dir e =
      let some = whole_some ps h in
      let t = whole_walk nodes links here ps r h w in
      let front : walk nodes true links (some.0 ∷ some.1) here ≡ Ok t.0 = ap (λ qs. walk nodes true links qs here) (sym some.2) ∙ t.1 in
      let open_ : is_dir_at nodes t.0.node ≡ true = ap (is_dir_at nodes) t.2 ∙ dir in
      let step : enter nodes t.0.node name ≡ Err NotFound = ap (λ i. enter nodes i name) t.2 ∙ e in
      ap (λ qs. walk nodes true links (qs ++ name ∷ more) here) some.2
      ∙ walk_append nodes true name more links some.0 some.1 here
      ∙ ap (and_then (onward nodes true name more)) front
      ∙ ap (λ b. cond b (walk nodes true t.0.links (name ∷ more) t.0.node) (Err NotADirectory)) open_
      ∙ name_nowhere t.0.links t.0.node name more step

led_nowhere : (nodes : List Node) (ps : List (List ℕ)) (name : List ℕ) (more : List (List ℕ)) (here : ℕ) (start : Result Reached Fault)
    → Solid ps → led nodes ps start ≡ Ok here → is_dir_at nodes here ≡ true → enter nodes here name ≡ Err NotFound
    → led nodes (whole_components ps ++ name ∷ more) start ≡ Err NotFound
led_nowhere nodes ps name more here (Err f) s h dir e = absurd (cc (h))
led_nowhere nodes ps name more here (Ok start) s h dir e =
    let r = reached here (walk nodes true start.links ps start.node) h in
    ap (and_then (λ (r : Reached). Ok r.node))
    (walk_nowhere nodes start.links start.node ps name more r.0 s r.1 (ap (is_dir_at nodes) r.2 ∙ dir)
    (ap (λ i. enter nodes i name) r.2 ∙ e))

-- a path leads to a directory that has no entry of a name: a path of these components, the name and
-- more leads nowhere
resolved_nowhere : (cwd : List ℕ) (nodes : List Node) (base path name : List ℕ) (more : List (List ℕ)) (here : ℕ)
    → resolved cwd nodes base true ≡ Ok here → is_dir_at nodes here ≡ true → enter nodes here name ≡ Err NotFound
    → components path ≡ whole_components (components base) ++ name ∷ more → resolved cwd nodes path true ≡ Err NotFound
resolved_nowhere cwd nodes [] path name more here r dir e parts = absurd (cc (r))
resolved_nowhere cwd nodes (b ∷ bs) path name more here r dir e parts =
    let ps = components (b ∷ bs) in
    let all = solid b bs in
    let some = whole_some ps all in
    let full = filled path some.0 some.1 name more (parts ∙ ap (λ qs. qs ++ name ∷ more) some.2) in
    let absolute : is_absolute path ≡ is_absolute (b ∷ bs) =
    absolute_rooted path ∙ ap rooted parts ∙ rooted_more ps name more all ∙ sym (absolute_rooted (b ∷ bs)) in
    ap (λ s. cond s (Err NotFound) (led nodes (components path) (start_of cwd nodes path))) full
    ∙ ap (λ qs. led nodes qs (start_of cwd nodes path)) parts
    ∙ ap (led nodes (whole_components ps ++ name ∷ more)) (start_same cwd nodes path (b ∷ bs) absolute)
    ∙ led_nowhere nodes ps name more here (start_of cwd nodes (b ∷ bs)) all r dir e

-- the components of a path below a name
whole_name : (qs : List (List ℕ)) (name : List ℕ) → is_proper name ≡ true → whole_components (qs ++ name ∷ []) ≡ qs ++ name ∷ []
whole_name [] [] h = absurd (cc (h))
whole_name [] (b ∷ bs) h = refl
whole_name (q ∷ []) name h = ap (λ ps. q ∷ ps) (whole_name [] name h)
whole_name (q ∷ (p ∷ qs)) name h = ap (λ ps. q ∷ ps) (whole_name (p ∷ qs) name h)

below_name : (base name rest : List ℕ) → is_proper name ≡ true → has_slash name ≡ false → is_absolute rest ≡ false
    → components (join_of (join_of base name) rest) ≡ whole_components (components base) ++ name ∷ components rest
below_name base name rest h flat relative =
    components_path (join_of base name) rest relative
    ∙ ap (λ ps. whole_components ps ++ components rest) (components_join base name flat)
    ∙ ap (λ ps. ps ++ components rest) (whole_name (whole_components (components base)) name h)
    ∙ append_assoc (whole_components (components base)) (name ∷ []) (components rest)

-- no `stat` answers where a path leads nowhere
no_stat : (nodes : List Node) (at : Result ℕ Fault) → at ≡ Err NotFound → is_ok (and_then stat_of (node_of nodes at)) ≡ false
no_stat nodes at e = ap (λ a. is_ok (and_then stat_of (node_of nodes a))) e

-- the tree in memory is whole
whole : (tree : Memory) → IsWhole (is_found (tree_of tree)) (tree_of tree).list
whole tree dir name listing h lack =
    let plain = both (is_plain name) _ lack in
    let first = both (is_proper name && not (has_slash name)) _ plain.0 in
    let two = both (is_proper name) _ first.0 in
    let flat = denied (has_slash name) two.1 in
    let n = answer_ok tree.nodes list_of (resolved tree.cwd tree.nodes dir true) listing h in
    let is = listing_ok n.0.kind listing (unless_ok n.0.list_fault (listing_of n.0.kind) listing n.2) in
    let there = node_ok tree.nodes (resolved tree.cwd tree.nodes dir true) n.0 n.1 in
    let folder = dir_at tree.nodes there.0 n.0 there.2 (ap is_directory is.1) in
    let none = unnamed name is.0 (ap (list_all (differs name)) (sym is.2) ∙ plain.1) in
    let enters = enter_none tree.nodes there.0 n.0 is.0 name there.2 is.1 none two.0 in
    record {
      here = no_stat tree.nodes (resolved tree.cwd tree.nodes (join_of dir name) true)
          (resolved_nowhere tree.cwd tree.nodes dir (join_of dir name) name [] there.0 there.1 folder enters (components_join dir name flat));
      below = λ rest relative. no_stat tree.nodes (resolved tree.cwd tree.nodes (join_of (join_of dir name) rest) true)
          (resolved_nowhere tree.cwd tree.nodes dir (join_of (join_of dir name) rest) name (components rest) there.0 there.1 folder enters
          (below_name dir name rest two.0 flat relative));
    }

-- what all answers of one are answers of is the same
agree : {A : Type 0} (x y : Result A Fault) → ((r : Result A Refusal) → Answers x r → Answers y r) → y ≡ x
agree (Ok a) y h = h (Ok a) refl
agree (Err f) y h = h (Err (Refused f)) refl

-- so is each tree with these answers of `stat` and `list`
pub whole_by : (s : Memory)
    → AreWhole (λ path follow r. Answers ((tree_of s).stat path follow) r) (λ path r. Answers ((tree_of s).list path) r)
whole_by s tree stat list dir name listing h lack =
    let same = λ (path : List ℕ). agree ((tree_of s).stat path true) (tree.stat path true) (stat path true) in
    let lists : (tree_of s).list dir ≡ Ok listing = sym (agree ((tree_of s).list dir) (tree.list dir) (list dir)) ∙ h in
    let is = whole s dir name listing lists lack in
    record {
      here = ap is_ok (same (join_of dir name)) ∙ is.here;
      below = λ rest relative. ap is_ok (same (join_of (join_of dir name) rest)) ∙ is.below rest relative;
    }
