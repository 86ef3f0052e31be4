-- The directories above a root, and what is wrong with those that weren't seen.
use Rattle.std.proofs.Common.{◌≡◌, ℕ, Bool, true, false, cond, not, List, [], ◌∷◌, ◌++◌, map, filter, Option, None, Some, Err, refl, sym, ap, ◌∙◌, append_assoc}
use Rattle.std.proofs.lemmas.List.{map-append}
use Rattle.std.proofs.lemmas.List.Elements.{filter-append, filter_map-append}
use Rattle.std.specs.List.{filter_map, list_any}
use Rattle.std.specs.Option.{option_to_list}
use Rattle.std.specs.Str.{bytes_eq}
use Rattle.ignore_base.specs.Paths.{join_of}
use Rattle.ignore_base.specs.Problem.{Problem}
use Rattle.ignore_dir.specs.Above.{directories_along, path_along, paths_above, problems_of_loads}
use Rattle.ignore_dir.specs.Chains.{slashed}
use Rattle.ignore_dir.specs.Load.{Loaded, joined_some}
use Rattle.ignore_dir.specs.Query.{is_dir_there}
use Rattle.ignore_walk.specs.Entry.{Item}
use Rattle.ignore_walk.specs.Scene.{Scene}
use Rattle.ignore_walk.specs.Whole.{above_root, reported_before, unseen}

pub slashed-more : (names : List (List ℕ)) (name : List ℕ) → slashed (names ++ name ∷ []) ≡ slashed names ++ (name ++ 47 ∷ [])
slashed-more [] name = refl
slashed-more (a ∷ names) name =
    ap (λ (t : List ℕ). a ++ 47 ∷ t) (slashed-more names name) ∙ sym (append_assoc a (47 ∷ slashed names) (name ++ 47 ∷ []))

pub path_along-more : (dir : List ℕ) (names : List (List ℕ)) (name : List ℕ) → path_along dir (names ++ name ∷ []) ≡ join_of (path_along dir names) name
path_along-more dir [] name = refl
path_along-more dir (n ∷ names) name = path_along-more (join_of dir n) names name

pub directories_along-more : (dir : List ℕ) (names : List (List ℕ)) (name : List ℕ)
    → directories_along dir (names ++ name ∷ []) ≡ directories_along dir names ++ path_along dir names ∷ []
directories_along-more dir [] name = refl
directories_along-more dir (n ∷ names) name = ap (λ (l : List (List ℕ)). dir ∷ l) (directories_along-more (join_of dir n) names name)

-- Problems of what wasn't seen.

problems-some : (p : Option Problem) → filter_map (λ (q : Option Problem). q) (p ∷ []) ≡ option_to_list p
problems-some None = refl
problems-some (Some p) = refl

one-unseen : (loads : List ℕ → Loaded) (seen : List (List ℕ)) (path : List ℕ) (was : Bool) → was ≡ list_any (bytes_eq path) seen
    → filter_map (λ (q : Option Problem). q) (problems_of_loads loads (unseen seen (path ∷ [])))
    ≡ cond (not was) (option_to_list (loads path).1) []
one-unseen loads seen path was h =
    rw (sym h) (by was)
  where
    by : (b : Bool) → filter_map (λ (q : Option Problem). q) (problems_of_loads loads (cond (not b) (path ∷ []) []))
        ≡ cond (not b) (option_to_list (loads path).1) []
    by true = refl
    by false = problems-some (loads path).1

pub unseen-more : (loads : List ℕ → Loaded) (seen paths : List (List ℕ)) (path : List ℕ) (was : Bool) → was ≡ list_any (bytes_eq path) seen
    → filter_map (λ (q : Option Problem). q) (problems_of_loads loads (unseen seen (paths ++ path ∷ [])))
    ≡ filter_map (λ (q : Option Problem). q) (problems_of_loads loads (unseen seen paths)) ++ cond (not was) (option_to_list (loads path).1) []
unseen-more loads seen paths path was h =
    let p = λ (x : List ℕ). not (list_any (bytes_eq x) seen) in
    let id = λ (q : Option Problem). q in
    let front = filter p paths in
    ap (λ (l : List (List ℕ)). filter_map id (problems_of_loads loads l)) (filter-append p paths (path ∷ []))
    ∙ (ap (filter_map id) (map-append (λ (x : List ℕ). (loads x).1) front (filter p (path ∷ [])))
    ∙ (filter_map-append id (problems_of_loads loads front) (problems_of_loads loads (filter p (path ∷ [])))
    ∙ ap (λ (l : List Problem). filter_map id (problems_of_loads loads front) ++ l) (one-unseen loads seen path was h)))

-- What is reported before a root, and what was seen after it.

pub above_root-is : (g : Scene) (root : List ℕ) → is_dir_there (g.tree.stat root true) ≡ true → above_root g root ≡ paths_above g.tree g.settings root
above_root-is g root h = ap (λ (b : Bool). cond b (paths_above g.tree g.settings root) []) h

abbrev reported : Option Problem → List Item
reported p = map Err (option_to_list p)

pub reported-is : (g : Scene) (root : List ℕ) (seen paths : List (List ℕ)) (p : Option Problem) → is_dir_there (g.tree.stat root true) ≡ true
    → paths ≡ paths_above g.tree g.settings root → p ≡ joined_some (problems_of_loads g.loads (unseen seen paths))
    → reported p ≡ reported_before g seen root
reported-is g root seen paths p h same is =
    ap (λ (q : Option Problem). reported q)
    (is ∙ ap (λ (l : List (List ℕ)). joined_some (problems_of_loads g.loads (unseen seen l))) (same ∙ sym (above_root-is g root h)))
