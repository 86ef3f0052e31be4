-- The chain of a directory that is added to the list.
use Rattle.std.proofs.Common.{◌≡◌, ℕ, ◌+◌, ◌<◌, ◌≤◌, All, List, [], ◌∷◌, ◌++◌, length, reverse, Option}
use Rattle.std.proofs.Common.{refl, sym, ◌∙◌, ap, subst, arith}
use Rattle.std.proofs.lemmas.List.{length-append, reverse-append}
use Rattle.ignore_base.specs.Paths.{IsName}
use Rattle.ignore_dir.specs.declared.dir.Dir.{Dir}
use Rattle.ignore_dir.specs.Above.{dirs_above, names_above, path_along, paths_above}
use Rattle.ignore_dir.specs.Chains.{placed_along, slashed}
use Rattle.ignore_dir.specs.Lists.{Placed}
use Rattle.ignore_dir.specs.Scene.{QueryScene}
use Rattle.ignore_dir.specs.Steps.{Reached, entered, entry, reached_in}
use Rattle.ignore_dir.proofs.ChainLemmas.{slashed-more}
use Rattle.ignore_levels.specs.Levels.{IsBelow, IsChain, counted, counting, slots_of}
use Rattle.ignore_query.specs.declared.kept.Cache.{Cache}
use Rattle.ignore_query.specs.declared.kept.Kept.TheVariants.{Loaded}
use Rattle.ignore_query.specs.Agrees.{Agrees, IsNext, StandsFor, chain_above}
use Rattle.ignore_levels.specs.declared.list.Place.{Place}
use Rattle.ignore_query.proofs.ChainLemmas.{counting-most, front_names, text-length}
use Rattle.ignore_query.proofs.KeepLemmas.{Ends, last, none}
use Rattle.ignore_query.proofs.ListLemmas.{above-within}

-- the directory with these names, in the chain of its entries
abbrev pub here : QueryScene → List (List ℕ) → Placed
here g names = ((g.loads (path_along g.root names)).0, length (reached_in g names).text)

-- what is reached at the root, where the directories above it were placed
abbrev pub RootLaw : QueryScene → Type 0
RootLaw g = (dirs : List Placed) (text path : List ℕ)
    → dirs ≡ placed_along 1 (dirs_above g.loads g.settings (paths_above g.tree g.settings g.root))
    (names_above g.tree g.settings g.root) ++ ((g.loads g.root).0, length text) ∷ []
    → text ≡ 47 ∷ slashed (names_above g.tree g.settings g.root) → path ≡ g.root
    → let at : Reached = record { chain = reverse dirs; text = text; path = path } in
    at ≡ reached_in g []

-- what is reached in an entry
abbrev pub EntryLaw : QueryScene → Type 0
EntryLaw g = (front : List (List ℕ)) (n : List ℕ) → entered g.loads (entry (reached_in g front) n) ≡ reached_in g (front ++ n ∷ [])

chain_first : (g : QueryScene) → RootLaw g → here g [] ∷ chain_above g ≡ (reached_in g []).chain
chain_first g law =
    let text : List ℕ = 47 ∷ slashed (names_above g.tree g.settings g.root) in
    let root : Placed = ((g.loads g.root).0, length text) in
    let above = placed_along 1 (dirs_above g.loads g.settings (paths_above g.tree g.settings g.root)) (names_above g.tree g.settings g.root) in
    let is = law (above ++ root ∷ []) text g.root refl refl refl in
    ap (λ n. let x : Placed = ((g.loads g.root).0, n) in x ∷ reverse above) (ap (λ (r : Reached). length r.text) (sym is))
    ∙ (sym (reverse-append above (root ∷ [])) ∙ ap (λ (r : Reached). r.chain) is)

chain_more : (g : QueryScene) → EntryLaw g → (front : List (List ℕ)) (n : List ℕ)
    → here g (front ++ n ∷ []) ∷ (reached_in g front).chain ≡ (reached_in g (front ++ n ∷ [])).chain
chain_more g law front n =
    ap (λ (r : Reached). let l : List Placed = ((g.loads r.path).0, length r.text) ∷ (reached_in g front).chain in l) (sym (law front n))
    ∙ ap (λ (r : Reached). r.chain) (law front n)

below-all : (xs : List Placed) (most n : ℕ) → All (λ p. p.1 ≤ most) xs → most < n → IsBelow n xs
below-all [] most n h lt = tt
below-all (x ∷ xs) most n h lt = let le = h 0 x (omega arith) in omega (arith, le, lt)

-- the chain of the parent's place, and the directory before it
pub record Parent (g : QueryScene) (c : Cache) (names : List (List ℕ)) (place : Option Place) : Type 0 where
  pub chain : List Placed
  pub is : IsChain (slots_of c.levels) place (counting chain)
  pub whole : here g names ∷ chain ≡ (reached_in g names).chain
  pub below : IsBelow (length (reached_in g names).text) (counting chain)

pub parent_of : (g : QueryScene) (c : Cache) (names : List (List ℕ)) (place : Option Place) → RootLaw g → EntryLaw g → Agrees g c → All IsName names
    → IsNext c names place → Ends names → Parent g c names place
parent_of g c names place root entry' a clean next (none e) =
    let P : List (List ℕ) → Type 0 = λ q. Parent g c q place in
    let above = a.above next.rooted in
    let top : Parent g c [] place = record {
      chain = chain_above g;
      is = subst (λ p. StandsFor c p (chain_above g)) (sym (next.top e)) above.chain;
      whole = chain_first g root;
      below = below-all (counting (chain_above g)) (length (slashed (names_above g.tree g.settings g.root))) (length (reached_in g []).text)
          (above-within g)
          (let t = text-length g c [] a next.rooted in let b = ap (λ (t : List ℕ). length t) above.base in omega (arith, t, b));
    } in
    subst P (sym e) top
parent_of g c names place root entry' a clean next (last front n e) =
    let P : List (List ℕ) → Type 0 = λ q. Parent g c q place in
    let clean1 = front_names front (n ∷ []) (subst (All IsName) e clean) in
    let right = a.right front (Loaded place) clean1 (next.inside front n e) in
    let one = text-length g c front a next.rooted in
    let two = text-length g c (front ++ n ∷ []) a next.rooted in
    let size : length (slashed (front ++ n ∷ [])) ≡ length (slashed front) + (length n + 1) =
    ap (λ (t : List ℕ). length t) (slashed-more front n) ∙ (length-append (slashed front) (n ++ 47 ∷ [])
    ∙ ap (λ m. length (slashed front) + m) (length-append n (47 ∷ []))) in
    let inner : Parent g c (front ++ n ∷ []) place = record {
      chain = (reached_in g front).chain;
      is = right.1;
      whole = chain_more g entry' front n;
      below = below-all (counting (reached_in g front).chain) (length (reached_in g front).text) (length (reached_in g (front ++ n ∷ [])).text)
          (counting-most g front (length (reached_in g front).text) refl) (omega (arith, one, two, size));
    } in
    subst P (sym e) inner

-- the added directory before the chain of its parent is the chain of its entries
pub grown_chain : (g : QueryScene) (c : Cache) (names : List (List ℕ)) (parent : Option Place) (dir : Dir) (offset : ℕ) (chain : List Placed)
    → here g names ∷ chain ≡ (reached_in g names).chain → dir ≡ (g.loads (path_along g.root names)).0
    → offset ≡ length (reached_in g names).text
    → counted dir offset (counting chain) ≡ counting (reached_in g names).chain
grown_chain g c names parent dir offset chain whole d o =
    ap (λ x. counted x offset (counting chain)) d
    ∙ (ap (λ n. counted (g.loads (path_along g.root names)).0 n (counting chain)) o ∙ ap counting whole)
