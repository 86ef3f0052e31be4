-- What the place of a directory stands for that was settled: below one that was entered, and at a
-- root.
use Rattle.std.proofs.Common.{◌≡◌, ℕ, ◌+◌, List, [], ◌∷◌, ◌++◌, length, reverse, All, Option, Some, refl, sym, ap, ◌∙◌, subst}
use Rattle.std.proofs.lemmas.List.Elements.{All-filter}
use Rattle.ignore_base.specs.Paths.{join_of}
use Rattle.ignore_dir.specs.Above.{dirs_above, names_above, paths_above}
use Rattle.ignore_dir.specs.Chains.{placed_along, slashed}
use Rattle.ignore_dir.specs.Lists.{IsAfterSlash, Placed}
use Rattle.ignore_dir.specs.Scene.{QueryScene}
use Rattle.ignore_dir.specs.Steps.{Reached, entry, reached_in}
use Rattle.ignore_dir.specs.declared.dir.Dir.{Dir}
use Rattle.ignore_dir.proofs.SlashLemmas.{after_slash-end, placed-longer}
use Rattle.ignore_levels.specs.Levels.{IsBelow, IsChain, counting, counts}
use Rattle.ignore_levels.specs.declared.list.Place.{Place as LevelPlace}
use Rattle.ignore_levels.specs.declared.list.Slot.{Slot}
use Rattle.ignore_levels.proofs.RisingLemmas.{turned}
use Rattle.ignore_guide.specs.Forest.{StandsIn}
use Rattle.ignore_guide.specs.Guide.{holding, root_reached}
use Rattle.ignore_guide.specs.Places.{entered_at}
use Rattle.ignore_guide.specs.declared.places.Entered.{Entered}
use Rattle.ignore_guide.specs.declared.places.Place.{Place}
use Rattle.ignore_guide.specs.declared.places.Places.{Places}
use Rattle.ignore_guide.proofs.StandLemmas.{All-reverse, below-longer}

-- what a directory that was settled stands for, below any chain of what is around it
abbrev pub Settles : List Slot → Option LevelPlace → List Slot → Places → Place → ℕ → Dir → List ℕ → List ℕ → Type 0
Settles slots around new places place depth dir text path =
    (at : Reached) → IsChain slots around (counting at.chain) → IsBelow (length text) (counting at.chain)
    → All (λ p. IsAfterSlash text p.1) (counting at.chain) → IsAfterSlash text (length text)
    → StandsIn new places place depth (record { chain = (dir, length text) ∷ at.chain; text = text; path = path })

some-same : (a b : Entered) → Some a ≡ Some b → a ≡ b
some-same a b e = cc

settled-below : (old new : List Slot) (after : Places) (around : Entered) (at : Reached) (place : Place) (depth : ℕ) (dir : Dir) (name text path : List ℕ)
    → Settles old around.level new after place depth dir text path
    → IsChain old around.level (counting at.chain) → All (λ p. IsAfterSlash at.text p.1) (counting at.chain)
    → text ≡ (at.text ++ name) ++ 47 ∷ [] → path ≡ join_of at.path name
    → StandsIn new after place depth (holding dir (entry at name))
settled-below old new after around at place depth dir name text path settles chain inside t p =
    let whole = (at.text ++ name) ++ 47 ∷ [] in
    let longer : All (λ q. IsAfterSlash whole q.1) (counting at.chain) =
    placed-longer (at.text ++ name) (47 ∷ []) (counting at.chain) (placed-longer at.text name (counting at.chain) inside) in
    let done = settles at chain
    (subst (λ (x : List ℕ). IsBelow (length x) (counting at.chain)) (sym t) (below-longer at.text name (counting at.chain) inside))
    (subst (λ (x : List ℕ). All (λ q. IsAfterSlash x q.1) (counting at.chain)) (sym t) longer)
    (subst (λ (x : List ℕ). IsAfterSlash x (length x)) (sym t) (after_slash-end (at.text ++ name))) in
    subst (λ (x : List ℕ). StandsIn new after place depth (record { chain = (dir, length whole) ∷ at.chain; text = whole; path = x })) p
    (subst (λ (x : List ℕ). StandsIn new after place depth (record { chain = (dir, length x) ∷ at.chain; text = x; path = path })) t done)

-- below a directory that was entered
pub stands-below : (old new : List Slot) (before after : Places) (parent place : Place) (around : Entered) (depth deep : ℕ) (at : Reached) (dir : Dir)
    (name text path : List ℕ) → Some around ≡ entered_at before parent → StandsIn old before parent depth at
    → Settles old around.level new after place deep dir text path
    → text ≡ (around.text ++ name) ++ 47 ∷ [] → path ≡ join_of around.path name → deep ≡ around.depth + 1
    → StandsIn new after place (depth + 1) (holding dir (entry at name))
stands-below old new before after parent place around depth deep at dir name text path there s settles t p d =
    let same : around ≡ s.dir = some-same around s.dir (there ∙ s.there) in
    let chain : IsChain old around.level (counting at.chain) =
    subst (λ (e : Entered). IsChain old e.level (counting at.chain)) (sym same) s.stands.chain in
    let text_is : around.text ≡ at.text = ap (λ (e : Entered). e.text) same ∙ s.stands.text in
    let path_is : around.path ≡ at.path = ap (λ (e : Entered). e.path) same ∙ s.stands.path in
    let deep_is : deep ≡ depth + 1 = d ∙ ap (λ (n : ℕ). n + 1) (ap (λ (e : Entered). e.depth) same ∙ s.deep) in
    subst (λ (n : ℕ). StandsIn new after place n (holding dir (entry at name))) deep_is
    (settled-below old new after around at place deep dir name text path settles chain s.stands.inside
    (t ∙ ap (λ (x : List ℕ). (x ++ name) ++ 47 ∷ []) text_is) (p ∙ ap (λ (x : List ℕ). join_of x name) path_is))

-- the path of a directory that was entered
pub path-there : (slots : List Slot) (places : Places) (parent : Place) (depth : ℕ) (at : Reached) (around : Entered) → Some around ≡ entered_at places parent
    → StandsIn slots places parent depth at → around.path ≡ at.path
path-there slots places parent depth at around there s = ap (λ (e : Entered). e.path) (some-same around s.dir (there ∙ s.there)) ∙ s.stands.path

-- at a root
pub stands-root : (slots : List Slot) (around : Option LevelPlace) (new : List Slot) (after : Places) (place : Place) (depth : ℕ) (above : List Placed) (dir : Dir)
    (text path root : List ℕ) → Settles slots around new after place depth dir text path → IsChain slots around (counting (reverse above))
    → IsBelow (length text) (counting (reverse above)) → All (λ p. IsAfterSlash text p.1) above → IsAfterSlash text (length text)
    → path ≡ root → depth ≡ 1 → StandsIn new after place 1 (root_reached above text dir root)
stands-root slots around new after place depth above dir text path root settles chain below placed ends p d =
    let far = All-filter (λ (q : Placed). counts q.0) (λ (q : Placed). IsAfterSlash text q.1) (reverse above)
    (All-reverse (λ (q : Placed). IsAfterSlash text q.1) above placed) in
    let done = settles (record { chain = reverse above; text = text; path = root }) chain below far ends in
    subst (λ (n : ℕ). StandsIn new after place n (root_reached above text dir root)) d
    (subst (λ (x : List ℕ). StandsIn new after place depth (record { chain = (dir, length text) ∷ reverse above; text = text; path = x })) p done)

-- what is reached at a root of a tree
pub root-whole : (g : QueryScene) (above : List Placed) (dir : Dir) (text : List ℕ)
    → ((dirs : List Placed) (text path : List ℕ)
    → dirs ≡ placed_along 1 (dirs_above g.loads g.settings (paths_above g.tree g.settings g.root)) (names_above g.tree g.settings g.root)
    ++ ((g.loads g.root).0, length text) ∷ [] → text ≡ 47 ∷ slashed (names_above g.tree g.settings g.root) → path ≡ g.root
    → record { chain = reverse dirs; text = text; path = path } ≡ reached_in g [])
    → above ≡ placed_along 1 (dirs_above g.loads g.settings (paths_above g.tree g.settings g.root)) (names_above g.tree g.settings g.root)
    → dir ≡ (g.loads g.root).0 → text ≡ 47 ∷ slashed (names_above g.tree g.settings g.root)
    → root_reached above text dir g.root ≡ reached_in g []
root-whole g above dir text whole a d t =
    let dirs = above ++ (dir, length text) ∷ [] in
    let same : dirs ≡ placed_along 1 (dirs_above g.loads g.settings (paths_above g.tree g.settings g.root)) (names_above g.tree g.settings g.root)
    ++ ((g.loads g.root).0, length text) ∷ [] =
    ap (λ (l : List Placed). l ++ (dir, length text) ∷ []) a
    ∙ ap (λ (x : Dir). placed_along 1 (dirs_above g.loads g.settings (paths_above g.tree g.settings g.root)) (names_above g.tree g.settings g.root)
    ++ (x, length text) ∷ []) d in
    let make : List Placed → Reached = λ l. record { chain = l; text = text; path = g.root } in
    ap make (sym (turned above (dir, length text))) ∙ whole dirs text g.root same t refl
