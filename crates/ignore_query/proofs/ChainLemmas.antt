-- Names, kept directories, and offsets in the text of a directory.
use Rattle.std.proofs.Common.{◌≡◌, ℕ, suc, zero, ◌+◌, ◌≤◌, List, [], ◌∷◌, ◌++◌, length, All}
use Rattle.std.proofs.Common.{Bool, true, string_bytes, refl, sym, ap, ◌∙◌, subst, append_assoc, arith}
use Rattle.std.proofs.lemmas.List.{append-nil, length-append}
use Rattle.std.proofs.lemmas.List.Elements.{All-cons, All-filter, All-nil, All-weaker}
use Rattle.ignore_base.specs.Paths.{IsName, JoinsName, directory_of, join_of, joined}
use Rattle.ignore_dir.specs.declared.dir.Dir.{Dir}
use Rattle.ignore_dir.specs.Above.{directories_along, dirs_above, names_above, path_along, paths_above}
use Rattle.ignore_dir.specs.Chains.{placed_along, slashed}
use Rattle.ignore_dir.specs.Lists.{IsAfterSlash, Placed}
use Rattle.ignore_dir.specs.Scene.{QueryScene, dirs_at, names_to, path_verdict}
use Rattle.ignore_dir.specs.Steps.{entry, reached_in, verdict_at}
use Rattle.ignore_dir.specs.declared.outside.Outside.{Outside}
use Rattle.ignore_dir.specs.declared.settings.Settings.{Settings}
use Rattle.ignore_dir.specs.Verdict.{placed_verdict}
use Rattle.ignore_levels.specs.Levels.{counting, counts}
use Rattle.ignore_query.proofs.BoundaryLemmas.{All-reverse}
use Rattle.ignore_dir.proofs.SlashLemmas.{after_slash-end, after_slash-longer, placed-longer}
use Rattle.ignore_query.specs.declared.kept.Cache.{Cache}
use Rattle.ignore_query.specs.declared.kept.Kept.TheVariants.{Loaded}
use Rattle.ignore_query.specs.Agrees.{Agrees, IsLoaded}

-- Names.

pub front_names : (front rest : List (List ℕ)) → All IsName (front ++ rest) → All IsName front
front_names [] rest h k d l = absurd (omega (arith, l))
front_names (x ∷ xs) rest h zero d l = h zero d (omega (arith, l))
front_names (x ∷ xs) rest h (suc k) d l = front_names xs rest (λ j e m. h (suc j) e (omega (arith, m))) k d (omega (arith, l))

pub slashed-append : (a b : List (List ℕ)) → slashed (a ++ b) ≡ slashed a ++ slashed b
slashed-append [] b = refl
slashed-append (x ∷ xs) b = ap (λ t. x ++ 47 ∷ t) (slashed-append xs b) ∙ sym (append_assoc x (47 ∷ slashed xs) (slashed b))

pub joined-slashed : (names : List (List ℕ)) (name : List ℕ) → joined (names ++ name ∷ []) ≡ slashed names ++ name
joined-slashed [] name = refl
joined-slashed (a ∷ []) name = sym (append_assoc a (47 ∷ []) name)
joined-slashed (a ∷ (b ∷ names)) name =
    ap (λ t. a ++ 47 ∷ t) (joined-slashed (b ∷ names) name) ∙ sym (append_assoc a (47 ∷ slashed (b ∷ names)) name)

-- Kept directories.

-- those on the way to a kept one are kept
pub loaded_front : (g : QueryScene) (c : Cache) (front rest : List (List ℕ)) → Agrees g c → All IsName (front ++ rest)
    → IsLoaded c (front ++ rest) → IsLoaded c front
loaded_front g c front [] a names h = subst (IsLoaded c) (append-nil front) h
loaded_front g c front (n ∷ rest) a names h =
    let move : (front ++ n ∷ []) ++ rest ≡ front ++ n ∷ rest = append_assoc front (n ∷ []) rest in
    let next = loaded_front g c (front ++ n ∷ []) rest a (subst (All IsName) (sym move) names) (subst (IsLoaded c) (sym move) h) in
    a.inside (front ++ n ∷ []) (Loaded next.0) (front_names (front ++ n ∷ []) rest (subst (All IsName)
    (sym move) names)) next.1 front n refl

-- Offsets.

-- each offset of directories along names is after a slash of the text of the names
placed-after : (text : List ℕ) (offset : ℕ) (dirs : List Dir) (names : List (List ℕ)) → offset ≡ length text
    → IsAfterSlash text (length text)
    → All (λ p. IsAfterSlash (text ++ slashed names) p.1) (placed_along offset dirs names)
placed-after text offset [] names e h = All-nil (λ (p : Placed). IsAfterSlash (text ++ slashed names) p.1)
placed-after text offset (d ∷ dirs) [] e h =
    All-cons (λ (p : Placed). IsAfterSlash (text ++ []) p.1) (d, offset) []
    (subst (λ k. IsAfterSlash (text ++ []) k) (sym e) (after_slash-longer text [] (length text) h))
    (All-nil (λ (p : Placed). IsAfterSlash (text ++ []) p.1))
placed-after text offset (d ∷ dirs) (n ∷ names) e h =
    let P : Placed → Type 0 = λ p. IsAfterSlash (text ++ (n ++ 47 ∷ slashed names)) p.1 in
    let next : List ℕ = (text ++ n) ++ 47 ∷ [] in
    let size : length next ≡ length text + length n + 1 = length-append (text ++ n) (47 ∷ []) ∙ ap (λ k. k + 1) (length-append text n) in
    let move : next ++ slashed names ≡ text ++ (n ++ 47 ∷ slashed names) =
    append_assoc (text ++ n) (47 ∷ []) (slashed names) ∙ append_assoc text n (47 ∷ slashed names) in
    All-cons P (d, offset) (placed_along (offset + length n + 1) dirs names)
    (subst (λ k. IsAfterSlash (text ++ (n ++ 47 ∷ slashed names)) k) (sym e) (after_slash-longer text (n ++ 47 ∷ slashed names)
    (length text) h))
    (subst (λ t. All (λ (p : Placed). IsAfterSlash t p.1) (placed_along (offset + length n + 1) dirs names)) move
    (placed-after next (offset + length n + 1) dirs names (ap (λ k. k + length n + 1) e ∙ sym size) (after_slash-end (text ++ n))))

-- so is each of what is reached in a directory
pub reached-after : (g : QueryScene) (front : List (List ℕ)) → All (λ p. IsAfterSlash (reached_in g front).text p.1) (reached_in g front).chain
reached-after g front =
    let dirs = dirs_above g.loads g.settings (paths_above g.tree g.settings g.root)
    ++ dirs_at g.loads (directories_along g.root front ++ path_along g.root front ∷ []) in
    All-reverse (λ p. IsAfterSlash (reached_in g front).text p.1) (placed_along 1 dirs (names_to g front))
    (placed-after (47 ∷ []) 1 dirs (names_to g front) refl (after_slash-end []))

-- so are those that count, in the text of an entry
pub counting-after : (g : QueryScene) (front : List (List ℕ)) (name text : List ℕ) → text ≡ (reached_in g front).text ++ name
    → All (λ p. IsAfterSlash text p.1) (counting (reached_in g front).chain)
counting-after g front name text is =
    All-filter (λ (p : Placed). counts p.0) (λ p. IsAfterSlash text p.1) (reached_in g front).chain
    (subst (λ t. All (λ p. IsAfterSlash t p.1) (reached_in g front).chain) (sym is)
    (placed-longer (reached_in g front).text name (reached_in g front).chain (reached-after g front)))

-- and none is beyond the text
pub counting-most : (g : QueryScene) (front : List (List ℕ)) (most : ℕ) → most ≡ length (reached_in g front).text
    → All (λ p. p.1 ≤ most) (counting (reached_in g front).chain)
counting-most g front most is =
    All-filter (λ (p : Placed). counts p.0) (λ p. p.1 ≤ most) (reached_in g front).chain
    (All-weaker (λ p. IsAfterSlash (reached_in g front).text p.1) (λ p. p.1 ≤ most) (λ p h. subst (λ n. p.1 ≤ n) (sym is) h.1)
    (reached_in g front).chain (reached-after g front))

-- the text of a directory
pub text-length : (g : QueryScene) (c : Cache) (front : List (List ℕ)) → Agrees g c → c.has_above ≡ true
    → length (string_bytes c.base) + length (slashed front) ≡ length (reached_in g front).text
text-length g c front a h =
    let above = a.above h in
    sym (ap (λ t. length (47 ∷ t)) (slashed-append (names_above g.tree g.settings g.root) front)
    ∙ (length-append (47 ∷ slashed (names_above g.tree g.settings g.root)) (slashed front)
    ∙ ap (λ t. length t + length (slashed front)) (sym above.base)))

-- the text of an entry of a directory
pub text_in : (g : QueryScene) (c : Cache) (front : List (List ℕ)) (name base path : List ℕ) → Agrees g c → c.has_above ≡ true
    → base ≡ string_bytes c.base → path ≡ joined (front ++ name ∷ []) → base ++ path ≡ (reached_in g front).text ++ name
text_in g c front name base path a h b p =
    let above = a.above h in
    let root : List ℕ = 47 ∷ slashed (names_above g.tree g.settings g.root) in
    ap (λ t. t ++ path) (b ∙ above.base)
    ∙ (ap (λ t. root ++ t) (p ∙ joined-slashed front name)
    ∙ (sym (append_assoc root (slashed front) name)
    ∙ ap (λ (t : List ℕ). (47 ∷ t) ++ name) (sym (slashed-append (names_above g.tree g.settings g.root) front))))

-- Paths.

middle_name : (xs : List (List ℕ)) (n : List ℕ) (ys : List (List ℕ)) → All IsName (xs ++ n ∷ ys) → IsName n
middle_name [] n ys h = h zero n (omega arith)
middle_name (x ∷ xs) n ys h = middle_name xs n ys (λ j e m. h (suc j) e (omega (arith, m)))

along : JoinsName → (root : List ℕ) (done rest : List (List ℕ)) → All IsName (done ++ rest)
    → path_along (directory_of root done) rest ≡ directory_of root (done ++ rest)
along law root done [] h = ap (directory_of root) (sym (append-nil done))
along law root done (n ∷ rest) h =
    let move : (done ++ n ∷ []) ++ rest ≡ done ++ n ∷ rest = append_assoc done (n ∷ []) rest in
    ap (λ d. path_along d rest) (law root done n (front_names done (n ∷ rest) h) (middle_name done n rest h))
    ∙ (along law root (done ++ n ∷ []) rest (subst (All IsName) (sym move) h) ∙ ap (directory_of root) move)

directory_of-some : (root : List ℕ) (front : List (List ℕ)) (n : List ℕ)
    → directory_of root (front ++ n ∷ []) ≡ join_of root (joined (front ++ n ∷ []))
directory_of-some root [] n = refl
directory_of-some root (x ∷ xs) n = refl

pub path_along-more : (dir : List ℕ) (names : List (List ℕ)) (name : List ℕ)
    → path_along dir (names ++ name ∷ []) ≡ join_of (path_along dir names) name
path_along-more dir [] name = refl
path_along-more dir (n ∷ names) name = path_along-more (join_of dir n) names name

-- the names of a directory, joined and then to the root, lead to it
pub joined_along : JoinsName → (root : List ℕ) (front : List (List ℕ)) (n : List ℕ) → All IsName (front ++ n ∷ [])
    → join_of root (joined (front ++ n ∷ [])) ≡ path_along root (front ++ n ∷ [])
joined_along law root front n h = sym (along law root [] (front ++ n ∷ []) h ∙ directory_of-some root front n)

same_entry : (s : Settings) (o : Outside) (a b : List Placed) (t u p q : List ℕ) (is_dir : Bool) → a ≡ b → t ≡ u → p ≡ q
    → placed_verdict s o a t p is_dir ≡ placed_verdict s o b u q is_dir
same_entry s o a b t u p q is_dir d e f = rw (d, e, f) refl

-- the verdict by this chain, text and path is that on the entry
pub judged_in : (g : QueryScene) (front : List (List ℕ)) (n text path : List ℕ) (chain : List Placed) (is_dir : Bool)
    → verdict_at g.settings g.outside (entry (reached_in g front) n) is_dir ≡ path_verdict g (front ++ n ∷ []) is_dir
    → chain ≡ (reached_in g front).chain → text ≡ (reached_in g front).text ++ n → path ≡ path_along g.root (front ++ n ∷ [])
    → placed_verdict g.settings g.outside chain text path is_dir ≡ path_verdict g (front ++ n ∷ []) is_dir
judged_in g front n text path chain is_dir law c t p =
    same_entry g.settings g.outside _ _ _ _ _ _ is_dir c t (p ∙ path_along-more g.root front n) ∙ law
