-- Names followed from a place.
use Rattle.std.proofs.Common.{◌≡◌, ℕ, Bool, true, false, cond, List, [], ◌∷◌, ◌++◌, Option, Some, None, Result, Ok, Err, option_and_then}
use Rattle.std.proofs.Common.{slice_get, refl, ap, sym, ◌∙◌, ◌&&◌, codes, eqb, inl, inr, length}
use Rattle.std.proofs.lemmas.Bool.{eqb-true}
use Rattle.std.proofs.lemmas.List.{nil_from_length}
use Rattle.std.proofs.lemmas.List.Splits.{join_with_byte-slice_split}
use Rattle.ignore_base.specs.Paths.{but_last, components, folder_of, is_absolute, joined, last_component}
use Rattle.ignore_files.specs.Memory.{and_then, is_empty, child, node_below, place_of, is_directory, is_at, is_canonical_path, passing, sought}
use Rattle.ignore_files.specs.Memory.{folder_sought, vacant, parent_for, entry_under}
use Rattle.std.specs.Option.{option_map_or}
use Rattle.ignore_files.specs.declared.tree_error.TreeError.{TreeError}
use Rattle.ignore_files.specs.declared.tree_error.TreeError.TheVariants as refusal
use Rattle.ignore_files.proofs.Components.{AreNoneOrOf, but_last_components, components_some, but_last_then_last}
use Rattle.ignore_files.specs.declared.memory.node.Node.{Node}
use Rattle.ignore_files.specs.declared.memory.node.Kind.{Kind}

below_append : (nodes : List Node) (here : ℕ) (ps qs : List (List ℕ))
    → node_below nodes here (ps ++ qs) ≡ option_and_then (λ i. node_below nodes i qs) (node_below nodes here ps)
below_append nodes here [] qs = refl
below_append nodes here (p ∷ ps) qs =
    first (is_empty p) (child nodes here p) (below_append nodes here ps qs) (λ i. below_append nodes i ps qs)
  where
    first : (empty : Bool) (found : Option ℕ) → node_below nodes here (ps ++ qs) ≡ option_and_then (λ i. node_below nodes i qs) (node_below nodes here ps)
        → ((i : ℕ) → node_below nodes i (ps ++ qs) ≡ option_and_then (λ i. node_below nodes i qs) (node_below nodes i ps))
        → cond empty (node_below nodes here (ps ++ qs)) (option_and_then (λ i. node_below nodes i (ps ++ qs)) found)
        ≡ option_and_then (λ i. node_below nodes i qs) (cond empty (node_below nodes here ps) (option_and_then (λ i. node_below nodes i ps) found))
    first true found stays later = stays
    first false None stays later = refl
    first false (Some i) stays later = later i

chosen : {A E : Type 0} (b : Bool) (x : A) (r : Result A E) (e : E) → Ok x ≡ cond b r (Err e) → (b ≡ true) × (Ok x ≡ r)
chosen true x r e h = (refl, h)
chosen false x r e h = cc

-- a place that passes
passing_ok : (test : Kind → Bool) (refused : TreeError) (nodes : List Node) (o : Option ℕ) (place : ℕ)
    → Ok place ≡ passing test refused nodes o → (o ≡ Some place) × (is_at test nodes place ≡ true)
passing_ok test refused nodes None place h = cc
passing_ok test refused nodes (Some p) place h =
    let c = chosen (is_at test nodes p) place (Ok p) refused h in
    let same : place ≡ p = cc (c.1) in
    (ap Some (sym same), ap (is_at test nodes) same ∙ c.0)

at_some : (test : Kind → Bool) (o : Option Node) → option_map_or (λ n. test n.kind) o false ≡ true → (n : Node) × (o ≡ Some n)
at_some test None h = cc
at_some test (Some n) h = (n, refl)

-- a node stands where one is found
pub sought_ok : (test : Kind → Bool) (nodes : List Node) (path : List ℕ) (place : ℕ) → Ok place ≡ sought test nodes path
    → (n : Node) × (slice_get nodes place ≡ Some n)
sought_ok test nodes path place h =
    let clean = chosen (is_canonical_path path) place _ refusal.NotClean h in
    at_some test (slice_get nodes place) (passing_ok test refusal.Missing nodes (place_of nodes path) place clean.1).1

pub folder_ok : (nodes : List Node) (path : List ℕ) (place : ℕ) → Ok place ≡ folder_sought nodes path
    → (node_below nodes 0 (but_last (components path)) ≡ Some place) × ((n : Node) × (slice_get nodes place ≡ Some n))
folder_ok nodes path place h =
    let clean = chosen (is_canonical_path path) place _ refusal.NotClean h in
    let there = passing_ok is_directory refusal.NoParent nodes (node_below nodes 0 (but_last (components path))) place clean.1 in
    (there.0, at_some is_directory (slice_get nodes place) there.1)

nothing : (b : Bool) (x : ℕ) (o : Option ℕ) → cond b (Some x) (option_and_then (λ i. Some i) o) ≡ None → o ≡ None
nothing true x o h = cc
nothing false x None h = refl
nothing false x (Some i) h = cc

vacant_ok : (o : Option ℕ) (x y : ℕ) → vacant o x ≡ Ok y → (o ≡ None) × (x ≡ y)
vacant_ok None x y h = (refl, cc)
vacant_ok (Some i) x y h = cc

parent_found : (nodes : List Node) (path : List ℕ) (parent : ℕ) (folder : Result ℕ TreeError)
    → and_then (vacant (place_of nodes path)) folder ≡ Ok parent → (folder ≡ Ok parent) × (place_of nodes path ≡ None)
parent_found nodes path parent (Ok x) h = let v = vacant_ok (place_of nodes path) x parent h in (ap Ok v.1, v.0)
parent_found nodes path parent (Err e) h = cc

-- where a node may be added, its directory stands and has nothing under its name
pub parent_ok : (nodes : List Node) (path : List ℕ) (parent : ℕ) → parent_for nodes path ≡ Ok parent
    → (n : Node) × (slice_get nodes parent ≡ Some n) × (entry_under (last_component (components path)) n.kind ≡ None)
parent_ok nodes path parent h =
    let found = parent_found nodes path parent (folder_sought nodes path) h in
    let folder = folder_ok nodes path parent (sym found.0) in
    let some = components_some path in
    let whole : but_last (components path) ++ last_component (components path) ∷ []
    ≡ components path = ap (λ ps. but_last ps ++ last_component ps ∷ []) some.2 ∙ but_last_then_last some.0 some.1 ∙ sym some.2 in
    let name = last_component (components path) in
    let led : node_below nodes parent (name ∷ []) ≡ None =
    ap (option_and_then (λ i. node_below nodes i (name ∷ []))) (sym folder.0)
    ∙ sym (below_append nodes 0 (but_last (components path)) (name ∷ [])) ∙ ap (node_below nodes 0) whole ∙ found.1 in
    let n = folder.1 in
    (n.0, n.1, ap (option_and_then (λ m. entry_under name m.kind)) (sym n.1) ∙ nothing (is_empty name) parent (child nodes parent name) led)

-- the first component leads on to where the rest leads
module _ (nodes : List Node) (here : ℕ) (text component after : List ℕ) (cut : components text ≡ component ∷ components after) where
  below_turn : node_below nodes here (components text) ≡ option_and_then (λ i. node_below nodes i (components after))
      (node_below nodes here (component ∷ []))
  below_turn = ap (node_below nodes here) cut ∙ below_append nodes here (component ∷ []) (components after)

  pub below_some : (i : ℕ) → Some i ≡ node_below nodes here (component ∷ [])
      → node_below nodes i (components after) ≡ node_below nodes here (components text)
  below_some i e = sym (below_turn ∙ ap (option_and_then (λ i. node_below nodes i (components after))) (sym e))

  pub below_none : None ≡ node_below nodes here (component ∷ []) → None ≡ node_below nodes here (components text)
  below_none e = sym (below_turn ∙ ap (option_and_then (λ i. node_below nodes i (components after))) (sym e))

-- the directory of a path is where its components but the last lead
pub place_of_folder : (nodes : List Node) (path : List ℕ) → place_of nodes (folder_of path) ≡ node_below nodes 0 (but_last (components path))
place_of_folder nodes path = at (is_absolute path) (but_last (components path)) (but_last_components path)
  where
    rooted : (absolute empty : Bool) (front : List ℕ) → (empty ≡ true → front ≡ [])
        → place_of nodes (cond (absolute && empty) (codes "/") front) ≡ place_of nodes front
    rooted true true front h = sym (ap (place_of nodes) (h refl))
    rooted true false front h = refl
    rooted false empty front h = refl

    whole : (absolute : Bool) (front : List ℕ)
        → place_of nodes (cond (absolute && eqb (length front) 0) (codes "/") front) ≡ place_of nodes front
    whole absolute front = rooted absolute (eqb (length front) 0) front (λ e. nil_from_length front (eqb-true (length front) 0 e))

    at : (absolute : Bool) (ps : List (List ℕ)) → AreNoneOrOf ps
        → place_of nodes (cond (absolute && eqb (length (joined ps)) 0) (codes "/") (joined ps)) ≡ node_below nodes 0 ps
    at absolute ps (inl none) = rw none (whole absolute [])
    at absolute ps (inr some) =
        rw some.1 (ap (λ t. place_of nodes (cond (absolute && eqb (length t) 0) (codes "/") t)) (join_with_byte-slice_split 47 some.0)
        ∙ whole absolute some.0)
