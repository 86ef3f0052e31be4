-- A walk over components, cut in two.
use Rattle.std.proofs.Common.{◌≡◌, ℕ, zero, suc, Bool, true, false, cond, List, [], ◌∷◌, ◌++◌, Option, Some, None, Result, Ok, Err, refl}
use Rattle.std.proofs.Common.{ap, sym, ◌∙◌, append_assoc}
use Rattle.ignore_base.specs.declared.fault.Fault.{Fault}
use Rattle.ignore_base.specs.declared.fault.Fault.TheVariants.{NotFound, NotADirectory, LinkLimit}
use Rattle.ignore_base.specs.Paths.{components}
use Rattle.ignore_files.specs.Memory.{and_then, is_empty, is_dir_at}
use Rattle.ignore_files.specs.Resolve.{enter, link_at, resolve_last, resolve_inner, resolve_components, walk}
use Rattle.ignore_files.specs.declared.memory.node.Node.{Node}
use Rattle.ignore_files.specs.declared.memory.resolve.Reached.{Reached}
use Rattle.ignore_files.proofs.Components.{components_some}

-- what following a link leads to
abbrev pub after_link : List Node → Bool → ℕ → ℕ → List ℕ → List (List ℕ) → Result Reached Fault
after_link nodes follow zero start target rest = Err LinkLimit
after_link nodes follow (suc links) start target rest =
    cond (is_empty target) (Err NotFound) (walk nodes follow links (components target ++ rest) start)

pub walk_components : (nodes : List Node) (follow : Bool) (links : ℕ) (ps : List (List ℕ)) (here : ℕ)
    → walk nodes follow links ps here ≡ resolve_components nodes follow links (after_link nodes follow links) ps here
walk_components nodes follow zero ps here = refl
walk_components nodes follow (suc links) ps here = refl

module _ (nodes : List Node) (follow : Bool) (q : List ℕ) (qs : List (List ℕ)) where
  -- the rest is resolved from where the prefix led
  abbrev pub onward : Reached → Result Reached Fault
  onward r = cond (is_dir_at nodes r.node) (walk nodes follow r.links (q ∷ qs) r.node) (Err NotADirectory)

  -- a link in the prefix is followed with all components after it
  abbrev pub Splices : ℕ → Type 0
  Splices links =
      (start : ℕ) (target : List ℕ) (rest : List (List ℕ))
      → after_link nodes follow links start target (rest ++ (q ∷ qs)) ≡ and_then onward (after_link nodes true links start target rest)

  last_component : (links : ℕ) → Splices links → (e : Result ℕ Fault)
      → and_then (λ i. resolve_inner (is_dir_at nodes i) (resolve_components nodes follow links (after_link nodes follow links) (q ∷ qs) i)
      (after_link nodes follow links) (q ∷ qs) (link_at nodes i)) e ≡ and_then onward (and_then
      (λ i. resolve_last true links (after_link nodes true links) i (link_at nodes i)) e)
  last_component links t (Err f) = refl
  last_component links t (Ok i) = linked (link_at nodes i)
    where
      linked : (l : Option (ℕ × List ℕ)) → resolve_inner (is_dir_at nodes i)
          (resolve_components nodes follow links (after_link nodes follow links) (q ∷ qs) i) (after_link nodes follow links) (q ∷ qs) l
          ≡ and_then onward (resolve_last true links (after_link nodes true links) i l)
      linked None = ap (λ w. cond (is_dir_at nodes i) w (Err NotADirectory)) (sym (walk_components nodes follow links (q ∷ qs) i))
      linked (Some (start, target)) = t start target []

  one_component : (links : ℕ) → Splices links → (p : List ℕ) (ps : List (List ℕ))
      → ((i : ℕ) → resolve_components nodes follow links (after_link nodes follow links) (p ∷ (ps ++ (q ∷ qs))) i
      ≡ and_then onward (resolve_components nodes true links (after_link nodes true links)
      (p ∷ ps) i)) → (e : Result ℕ Fault) → and_then (λ i. resolve_inner (is_dir_at nodes i) (resolve_components nodes follow links
      (after_link nodes follow links) (p ∷ (ps ++ (q ∷ qs))) i) (after_link nodes follow links) (p
      ∷ (ps ++ (q ∷ qs))) (link_at nodes i)) e ≡ and_then onward (and_then (λ i. resolve_inner (is_dir_at nodes i)
      (resolve_components nodes true links (after_link nodes true links) (p ∷ ps) i) (after_link nodes true links) (p ∷ ps)
      (link_at nodes i)) e)
  one_component links t p ps later (Err f) = refl
  one_component links t p ps later (Ok i) = linked (link_at nodes i)
    where
      within : (dir : Bool) → cond dir (resolve_components nodes follow links (after_link nodes follow links) (p ∷ (ps ++ (q ∷ qs))) i)
          (Err NotADirectory) ≡ and_then onward (cond dir (resolve_components nodes true links (after_link nodes true links) (p ∷ ps) i)
          (Err NotADirectory))
      within true = later i
      within false = refl

      linked : (l : Option (ℕ × List ℕ)) → resolve_inner (is_dir_at nodes i)
          (resolve_components nodes follow links (after_link nodes follow links) (p ∷ (ps ++ (q ∷ qs))) i) (after_link nodes follow links)
          (p ∷ (ps ++ (q ∷ qs))) l ≡ and_then onward
          (resolve_inner (is_dir_at nodes i) (resolve_components nodes true links (after_link nodes true links) (p ∷ ps) i)
          (after_link nodes true links) (p ∷ ps) l)
      linked None = within (is_dir_at nodes i)
      linked (Some (start, target)) = t start target (p ∷ ps)

  resolve_components_append : (links : ℕ) → Splices links → (p : List ℕ) (ps : List (List ℕ)) (here : ℕ)
      → resolve_components nodes follow links (after_link nodes follow links) (p ∷ (ps ++ (q ∷ qs))) here
      ≡ and_then onward (resolve_components nodes true links (after_link nodes true links) (p ∷ ps) here)
  resolve_components_append links t p [] here = last_component links t (enter nodes here p)
  resolve_components_append links t p (next ∷ ps) here =
      one_component links t next ps (resolve_components_append links t next ps) (enter nodes here p)

  abbrev pub Appends : ℕ → Type 0
  Appends links =
      (p : List ℕ) (ps : List (List ℕ)) (here : ℕ)
      → walk nodes follow links (p ∷ (ps ++ (q ∷ qs))) here ≡ and_then onward (walk nodes true links (p ∷ ps) here)

  appends : (links : ℕ) → Splices links → Appends links
  appends links t p ps here =
      walk_components nodes follow links (p ∷ (ps ++ (q ∷ qs))) here ∙ resolve_components_append links t p ps here
      ∙ ap (and_then onward) (sym (walk_components nodes true links (p ∷ ps) here))

  spliced : (links : ℕ) → Appends links → (start : ℕ) (rest target : List (List ℕ))
      → (first : List ℕ) × (others : List (List ℕ)) × (target ≡ first ∷ others)
      → walk nodes follow links (target ++ (rest ++ (q ∷ qs))) start ≡ and_then onward (walk nodes true links (target ++ rest) start)
  spliced links h start rest target s =
      ap (λ ps. walk nodes follow links (ps ++ (rest ++ (q ∷ qs))) start) s.2
      ∙ ap (λ ps. walk nodes follow links (s.0 ∷ ps) start) (sym (append_assoc s.1 rest (q ∷ qs)))
      ∙ h s.0 (s.1 ++ rest) start
      ∙ ap (λ ps. and_then onward (walk nodes true links (ps ++ rest) start)) (sym s.2)

  splices_next : (links : ℕ) → Appends links → Splices (suc links)
  splices_next links h start target rest = led (is_empty target)
    where
      led : (empty : Bool) → cond empty (Err NotFound) (walk nodes follow links (components target ++ (rest ++ (q ∷ qs))) start)
          ≡ and_then onward (cond empty (Err NotFound) (walk nodes true links (components target ++ rest) start))
      led true = refl
      led false = spliced links h start rest (components target) (components_some target)

  -- the components after the first lead on from where it leads
  pub walk_append : (links : ℕ) → Appends links
  walk_append zero = appends zero (λ start target rest. refl)
  walk_append (suc links) = appends (suc links) (splices_next links (walk_append links))

-- one component with a slash after it, and then the rest
pub walk_turn : (nodes : List Node) (follow : Bool) (links here : ℕ) (text component after : List ℕ)
    → components text ≡ component ∷ components after
    → walk nodes follow links (components text) here
    ≡ and_then (λ r. cond (is_dir_at nodes r.node) (walk nodes follow r.links (components after) r.node) (Err NotADirectory))
    (walk nodes true links (component ∷ []) here)
walk_turn nodes follow links here text component after e =
    let s = components_some after in
    ap (λ ps. walk nodes follow links ps here) (e ∙ ap (λ ps. component ∷ ps) s.2)
    ∙ walk_append nodes follow s.0 s.1 links component [] here
    ∙ ap (λ ps. and_then (λ r. cond (is_dir_at nodes r.node) (walk nodes follow r.links ps r.node) (Err NotADirectory))
    (walk nodes true links (component ∷ []) here)) (sym s.2)

module _ (nodes : List Node) (follow : Bool) (links here : ℕ) (text component after : List ℕ) (w : Result Reached Fault)
    (same : walk nodes follow links (components text) here ≡ w) (cut : components text ≡ component ∷ components after) where
  turned : (r : Result Reached Fault) → r ≡ walk nodes true links (component ∷ []) here
      → and_then (λ r. cond (is_dir_at nodes r.node) (walk nodes follow r.links (components after) r.node) (Err NotADirectory)) r ≡ w
  turned r e =
      ap (and_then (λ r. cond (is_dir_at nodes r.node) (walk nodes follow r.links (components after) r.node) (Err NotADirectory))) e
      ∙ sym (walk_turn nodes follow links here text component after cut) ∙ same

  -- the component is a fault
  pub turn_fault : (fault : Fault) → Err fault ≡ walk nodes true links (component ∷ []) here → Err fault ≡ w
  turn_fault fault e = turned (Err fault) e

  -- the component leads to a directory, and the rest is left
  pub turn_in : (r : Reached) → Ok r ≡ walk nodes true links (component ∷ []) here → is_dir_at nodes r.node ≡ true
      → walk nodes follow r.links (components after) r.node ≡ w
  turn_in r e dir = sym (ap (λ b. cond b (walk nodes follow r.links (components after) r.node) (Err NotADirectory)) dir) ∙ turned (Ok r) e

  -- the component leads to what is no directory
  pub turn_out : (r : Reached) → Ok r ≡ walk nodes true links (component ∷ []) here → is_dir_at nodes r.node ≡ false → Err NotADirectory ≡ w
  turn_out r e dir = sym (ap (λ b. cond b (walk nodes follow r.links (components after) r.node) (Err NotADirectory)) dir) ∙ turned (Ok r) e
