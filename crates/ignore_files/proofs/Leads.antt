-- Where a path leads with the name of a listed node after it.
use Rattle.std.proofs.Common.{◌≡◌, ℕ, Bool, true, false, cond, eqb, List, [], ◌∷◌, ◌++◌, length, Option, Some, None, Result, Ok, Err, refl}
use Rattle.std.proofs.Common.{ap, sym, ◌∙◌, codes, bytes_eq, slice_get, ok_or, not, ◌&&◌, ◌⊎◌, inl, inr}
use Rattle.std.specs.List.{onto_first}
use Rattle.std.specs.Option.{option_map_or}
use Rattle.ignore_base.specs.declared.fault.Fault.{Fault}
use Rattle.ignore_base.specs.declared.fault.Fault.TheVariants.{NotFound, NotADirectory}
use Rattle.ignore_base.specs.Paths.{components, whole_components, has_slash, is_absolute, is_proper, join_of}
use Rattle.ignore_files.specs.Entries.{node_named}
use Rattle.ignore_files.specs.Memory.{and_then, is_empty, is_directory, is_dir_at, entries_of}
use Rattle.ignore_files.specs.Resolve.{enter, enter_node, enter_directory, link_at, link_of, target_of, resolve_last, walk, start_of, link_limit, resolved}
use Rattle.ignore_files.specs.declared.memory.entry.Entry.{Entry}
use Rattle.ignore_files.specs.declared.memory.node.Node.{Node}
use Rattle.ignore_files.specs.declared.memory.node.Kind.{Kind}
use Rattle.ignore_files.specs.declared.memory.node.Kind.TheVariants.{Dir, File, Link}
use Rattle.ignore_files.specs.declared.memory.resolve.Reached.{Reached}
use Rattle.ignore_files.proofs.Components.{components_some}
use Rattle.ignore_files.proofs.Walks.{after_link, onward, walk_components, walk_append}
use Rattle.ignore_files.proofs.JoinedName.{components_join}

-- they are the components of a path that isn't empty
abbrev pub Solid : List (List ℕ) → Type 0
Solid [] = ⊥
Solid ([] ∷ []) = ⊥
Solid ([] ∷ (q ∷ ps)) = Unit {0}
Solid ((b ∷ bs) ∷ ps) = Unit {0}

-- they are the components of an absolute path
abbrev pub rooted : List (List ℕ) → Bool
rooted [] = false
rooted ([] ∷ []) = false
rooted ([] ∷ (q ∷ ps)) = true
rooted ((b ∷ bs) ∷ ps) = false

pub solid : (b : ℕ) (bs : List ℕ) → Solid (components (b ∷ bs))
solid b bs = put (eqb b 47) (components_some bs)
  where
    put : (slash : Bool) → (first : List ℕ) × (rest : List (List ℕ)) × (components bs ≡ first ∷ rest)
        → Solid (cond slash ([] ∷ components bs) (onto_first b (components bs)))
    put true s = rw s.2 tt
    put false s = rw s.2 tt

pub absolute_rooted : (path : List ℕ) → is_absolute path ≡ rooted (components path)
absolute_rooted [] = refl
absolute_rooted (b ∷ bs) = put (eqb b 47) (components_some bs)
  where
    put : (slash : Bool) → (first : List ℕ) × (rest : List (List ℕ)) × (components bs ≡ first ∷ rest)
        → slash ≡ rooted (cond slash ([] ∷ components bs) (onto_first b (components bs)))
    put true s = rw s.2 refl
    put false s = rw s.2 refl

pub rooted_more : (ps : List (List ℕ)) (q : List ℕ) (more : List (List ℕ)) → Solid ps → rooted (whole_components ps ++ q ∷ more) ≡ rooted ps
rooted_more [] q more h = absurd h
rooted_more ([] ∷ []) q more h = absurd h
rooted_more ((b ∷ bs) ∷ []) q more h = refl
rooted_more ([] ∷ (p ∷ ps)) q more h = first (whole_components (p ∷ ps))
  where
    first : (qs : List (List ℕ)) → rooted ([] ∷ (qs ++ q ∷ more)) ≡ true
    first [] = refl
    first (r ∷ rs) = refl
rooted_more ((b ∷ bs) ∷ (p ∷ ps)) q more h = refl

-- there is a first one
pub whole_some : (ps : List (List ℕ)) → Solid ps → (p : List ℕ) × (qs : List (List ℕ)) × (whole_components ps ≡ p ∷ qs)
whole_some [] h = absurd h
whole_some ([] ∷ []) h = absurd h
whole_some ((b ∷ bs) ∷ []) h = (b ∷ bs, [], refl)
whole_some ([] ∷ (q ∷ ps)) h = ([], whole_components (q ∷ ps), refl)
whole_some ((b ∷ bs) ∷ (q ∷ ps)) h = (b ∷ bs, whole_components (q ∷ ps), refl)

-- all of them, or all but an empty last one
whole_cases : (ps : List (List ℕ)) → (ps ≡ whole_components ps) ⊎ (ps ≡ whole_components ps ++ [] ∷ [])
whole_cases [] = inl refl
whole_cases ([] ∷ []) = inr refl
whole_cases ((b ∷ bs) ∷ []) = inl refl
whole_cases (p ∷ (q ∷ ps)) = later (whole_cases (q ∷ ps))
  where
    later : ((q ∷ ps) ≡ whole_components (q ∷ ps)) ⊎ ((q ∷ ps) ≡ whole_components (q ∷ ps) ++ [] ∷ [])
        → ((p ∷ (q ∷ ps)) ≡ p ∷ whole_components (q ∷ ps)) ⊎ ((p ∷ (q ∷ ps)) ≡ (p ∷ whole_components (q ∷ ps)) ++ [] ∷ [])
    later (inl e) = inl (ap (λ qs. p ∷ qs) e)
    later (inr e) = inr (ap (λ qs. p ∷ qs) e)

no_target : (parent : ℕ) (kind : Kind) → is_directory kind ≡ true → target_of parent kind ≡ None
no_target parent (Dir entries) h = refl
no_target parent (File bytes) h = absurd (cc (h))
no_target parent (Link target) h = absurd (cc (h))

no_link : (o : Option Node) → option_map_or (λ n. is_directory n.kind) o false ≡ true → link_of o ≡ None
no_link None h = absurd (cc (h))
no_link (Some n) h = no_target n.parent n.kind h

module _ (nodes : List Node) where
  -- one component that leads to a directory
  one_step : (links here to : ℕ) (q : List ℕ) → enter nodes here q ≡ Ok to → is_dir_at nodes to ≡ true
      → walk nodes true links (q ∷ []) here ≡ Ok (record { node = to; links = links })
  one_step links here to q e dir =
      walk_components nodes true links (q ∷ []) here
      ∙ ap (and_then (λ i. resolve_last true links (after_link nodes true links) i (link_at nodes i))) e
      ∙ ap (resolve_last true links (after_link nodes true links) to) (no_link (slice_get nodes to) dir)

  -- it leads to the same place
  abbrev pub LeadsTo : Reached → Result Reached Fault → Type 0
  LeadsTo r w = (s : Reached) × (w ≡ Ok s) × (s.node ≡ r.node)

  closed_at : (r s : Reached) (dir : Bool) → is_dir_at nodes s.node ≡ dir
      → cond dir (walk nodes true s.links ([] ∷ []) s.node) (Err NotADirectory) ≡ Ok r → LeadsTo r (Ok s)
  closed_at r s true e k =
      let same : Ok (record { node = s.node; links = s.links }) ≡ Ok r = sym (one_step s.links s.node s.node [] refl e) ∙ k in
      (s, refl, cc (same))
  closed_at r s false e k = absurd (cc (k))

  -- a slash at the end leads to the same place
  closed : (r : Reached) (w : Result Reached Fault) → and_then (onward nodes true [] []) w ≡ Ok r
      → LeadsTo r w
  closed r (Err f) h = absurd (cc (h))
  closed r (Ok s) h = closed_at r s (is_dir_at nodes s.node) refl h

  pub whole_walk : (links here : ℕ) (ps : List (List ℕ)) (r : Reached) → Solid ps → walk nodes true links ps here ≡ Ok r
      → LeadsTo r (walk nodes true links (whole_components ps) here)
  whole_walk links here ps r h w = cases (whole_cases ps) (whole_some ps h)
    where
      cases : (ps ≡ whole_components ps) ⊎ (ps ≡ whole_components ps ++ [] ∷ [])
          → (p : List ℕ) × (qs : List (List ℕ)) × (whole_components ps ≡ p ∷ qs)
          → LeadsTo r (walk nodes true links (whole_components ps) here)
      cases (inl e) some = (r, ap (λ qs. walk nodes true links qs here) (sym e) ∙ w, refl)
      cases (inr e) some =
          let cut : and_then (onward nodes true [] []) (walk nodes true links (some.0 ∷ some.1) here) ≡ Ok r =
          sym (walk_append nodes true [] [] links some.0 some.1 here)
          ∙ ap (λ qs. walk nodes true links (qs ++ [] ∷ []) here) (sym some.2)
          ∙ ap (λ qs. walk nodes true links qs here) (sym e) ∙ w in
          let t = closed r (walk nodes true links (some.0 ∷ some.1) here) cut in
          (t.0, ap (λ qs. walk nodes true links qs here) some.2 ∙ t.1, t.2)

  -- the name of a directory after components that lead to its directory
  name_walk : (links here to : ℕ) (ps : List (List ℕ)) (name : List ℕ) (r : Reached) → Solid ps → walk nodes true links ps here ≡ Ok r
      → is_dir_at nodes r.node ≡ true → enter nodes r.node name ≡ Ok to → is_dir_at nodes to ≡ true
      → and_then (λ s. Ok s.node) (walk nodes true links (whole_components ps ++ name ∷ []) here) ≡ Ok to
  name_walk links here to ps name r h w dir e there =
      let some = whole_some ps h in
      let t = whole_walk links here ps r h w in
      let front : walk nodes true links (some.0 ∷ some.1) here ≡ Ok t.0 = ap (λ qs. walk nodes true links qs here) (sym some.2) ∙ t.1 in
      let open_ : is_dir_at nodes t.0.node ≡ true = ap (is_dir_at nodes) t.2 ∙ dir in
      let step : enter nodes t.0.node name ≡ Ok to = ap (λ i. enter nodes i name) t.2 ∙ e in
      ap (and_then (λ s. Ok s.node))
      (ap (λ qs. walk nodes true links (qs ++ name ∷ []) here) some.2
      ∙ walk_append nodes true name [] links some.0 some.1 here
      ∙ ap (and_then (onward nodes true name [])) front
      ∙ ap (λ b. cond b (walk nodes true t.0.links (name ∷ []) t.0.node) (Err NotADirectory)) open_
      ∙ one_step t.0.links t.0.node to name step there)

pub proper : (a b c : Bool) → not a && not b && not c ≡ true → (a ≡ false) × (b ≡ false) × (c ≡ false)
proper true b c h = absurd (cc (h))
proper false true c h = absurd (cc (h))
proper false false true h = absurd (cc (h))
proper false false false h = (refl, refl, refl)

-- a name leads from a directory to the node of its entry
pub enter_name : (nodes : List Node) (here to : ℕ) (n : Node) (entries : List Entry) (name : List ℕ) → slice_get nodes here ≡ Some n
    → n.kind ≡ Dir entries → node_named name entries ≡ Some to → is_proper name ≡ true → enter nodes here name ≡ Ok to
enter_name nodes here to n entries [] at kind found h = absurd (cc (h))
enter_name nodes here to n entries (b ∷ bs) at kind found h =
    let is = proper (eqb (length (b ∷ bs)) 0) (bytes_eq (b ∷ bs) (codes ".")) (bytes_eq (b ∷ bs) (codes "..")) h in
    ap (λ s. cond s (Ok here) (enter_node (b ∷ bs) (slice_get nodes here))) is.1
    ∙ ap (enter_node (b ∷ bs)) at
    ∙ ap (λ k. enter_directory n.parent (b ∷ bs) (entries_of k)) kind
    ∙ ap (λ s. cond s (Ok n.parent) (ok_or (node_named (b ∷ bs) entries) NotFound)) is.2
    ∙ ap (λ o. ok_or o NotFound) found

pub start_same : (cwd : List ℕ) (nodes : List Node) (a b : List ℕ) → is_absolute a ≡ is_absolute b → start_of cwd nodes a ≡ start_of cwd nodes b
start_same cwd nodes a b e = ap (λ s. cond s (Ok (record { node = 0; links = link_limit })) (walk nodes true link_limit (components cwd) 0)) e

-- where components lead from a start
abbrev pub led : List Node → List (List ℕ) → Result Reached Fault → Result ℕ Fault
led nodes ps start = and_then (λ s. and_then (λ r. Ok r.node) (walk nodes true s.links ps s.node)) start

pub reached : (here : ℕ) (w : Result Reached Fault) → and_then (λ (r : Reached). Ok r.node) w ≡ Ok here
    → (r : Reached) × (w ≡ Ok r) × (r.node ≡ here)
reached here (Err f) h = absurd (cc (h))
reached here (Ok r) h = (r, refl, cc (h))

led_name : (nodes : List Node) (ps : List (List ℕ)) (name : List ℕ) (here to : ℕ) (start : Result Reached Fault) → Solid ps
    → led nodes ps start ≡ Ok here → is_dir_at nodes here ≡ true → enter nodes here name ≡ Ok to → is_dir_at nodes to ≡ true
    → led nodes (whole_components ps ++ name ∷ []) start ≡ Ok to
led_name nodes ps name here to (Err f) s h dir e there = absurd (cc (h))
led_name nodes ps name here to (Ok start) s h dir e there =
    let r = reached here (walk nodes true start.links ps start.node) h in
    name_walk nodes start.links start.node to ps name r.0 s r.1 (ap (is_dir_at nodes) r.2 ∙ dir)
    (ap (λ i. enter nodes i name) r.2 ∙ e) there

no_end : (ps : List (List ℕ)) (q : List ℕ) (more : List (List ℕ)) → [] ≡ ps ++ q ∷ more → ⊥
no_end [] q more h = cc (h)
no_end (p ∷ ps) q more h = cc (h)

pub filled : (path p : List ℕ) (ps : List (List ℕ)) (q : List ℕ) (more : List (List ℕ)) → components path ≡ p ∷ (ps ++ q ∷ more)
    → is_empty path ≡ false
filled [] p ps q more h = absurd (no_end ps q more (cc (h)))
filled (b ∷ bs) p ps q more h = refl

-- a path leads to a directory, and a name of it to a directory: so does the path with the name
pub resolved_name : (cwd : List ℕ) (nodes : List Node) (base name : List ℕ) (here to : ℕ) → resolved cwd nodes base true ≡ Ok here
    → is_dir_at nodes here ≡ true → enter nodes here name ≡ Ok to → is_dir_at nodes to ≡ true → has_slash name ≡ false
    → resolved cwd nodes (join_of base name) true ≡ Ok to
resolved_name cwd nodes [] name here to r dir e there h = absurd (cc (r))
resolved_name cwd nodes (b ∷ bs) name here to r dir e there h =
    let path = join_of (b ∷ bs) name in
    let ps = components (b ∷ bs) in
    let all = solid b bs in
    let parts : components path ≡ whole_components ps ++ name ∷ [] = components_join (b ∷ bs) name h in
    let some = whole_some ps all in
    let full = filled path some.0 some.1 name [] (parts ∙ ap (λ qs. qs ++ name ∷ []) some.2) in
    let absolute : is_absolute path ≡ is_absolute (b ∷ bs) =
    absolute_rooted path ∙ ap rooted parts ∙ rooted_more ps name [] all ∙ sym (absolute_rooted (b ∷ bs)) in
    ap (λ s. cond s (Err NotFound) (led nodes (components path) (start_of cwd nodes path))) full
    ∙ ap (λ qs. led nodes qs (start_of cwd nodes path)) parts
    ∙ ap (led nodes (whole_components ps ++ name ∷ [])) (start_same cwd nodes path (b ∷ bs) absolute)
    ∙ led_name nodes ps name here to (start_of cwd nodes (b ∷ bs)) all r dir e there
