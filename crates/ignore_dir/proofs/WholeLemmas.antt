-- The answer one name at a time is the answer over whole chains.
use Rattle.std.proofs.Common.{◌≡◌, ℕ, zero, suc, ◌+◌, ◌≤◌, Bool, true, false, not, ◌||◌, cond, List, [], ◌∷◌}
use Rattle.std.proofs.Common.{◌++◌, length, map, drop, reverse, refl, sym, ap, ◌∙◌, append_assoc, arith, Option}
use Rattle.std.proofs.Math.Seq.{drop-append-add, drop-nil}
use Rattle.std.proofs.lemmas.List.{append-nil, length-append, length-map, map-append, reverse-append}
use Rattle.std.proofs.lemmas.List.Sums.{take_while-cons}
use Rattle.std.specs.List.{list_any, take_while}
use Rattle.ignore_base.specs.Paths.{join_of, joined}
use Rattle.ignore_base.specs.Problem.{Problem}
use Rattle.ignore_dir.specs.declared.dir.Dir.{Dir}
use Rattle.ignore_dir.specs.declared.verdict.Verdict.{Verdict}
use Rattle.ignore_dir.specs.declared.verdict.Verdict.TheVariants.{Ignore}
use Rattle.ignore_dir.specs.Above.{directories_along, dirs_above, kept_above, names_above, path_along, paths_above}
use Rattle.ignore_dir.specs.Chains.{placed_along, slashed}
use Rattle.ignore_dir.specs.Lists.{Asked, Placed, asked_in}
use Rattle.ignore_dir.specs.Query.{ancestors, is_ignored, problems_below, rules_verdict}
use Rattle.ignore_dir.specs.Scene.{QueryScene, asked_along, chain, dirs_at, dirs_to, path_verdict}
use Rattle.ignore_dir.specs.Steps.{Reached, entered, entry, problems_from, reached_in, verdict_at, verdict_from}
use Rattle.ignore_dir.specs.Verdict.{is_ignore, placed_verdict, verdict}
use Rattle.ignore_dir.proofs.AboveLemmas.{directories_along-more, length-directories, path_along-more}
use Rattle.ignore_dir.proofs.ChainLemmas.{slashed-more}

-- Lists.

drop-plus : (a b : ℕ) (xs : List ℕ) → drop (a + b) xs ≡ drop b (drop a xs)
drop-plus zero b xs = ap (λ n. drop n xs) (omega arith)
drop-plus (suc a) b [] = drop-nil (suc a + b) ∙ sym (drop-nil b)
drop-plus (suc a) b (x ∷ xs) =
    let e : suc a + b ≡ suc (a + b) = omega arith in
    ap (λ n. drop n (x ∷ xs)) e ∙ drop-plus a b xs

map-reverse : {A B : Type 0} (f : A → B) (xs : List A) → map f (reverse xs) ≡ reverse (map f xs)
map-reverse f [] = refl
map-reverse f (x ∷ xs) =
    ap (map f) (reverse-append (x ∷ []) xs)
    ∙ (map-append f (reverse xs) (x ∷ [])
    ∙ (ap (λ l. l ++ f x ∷ []) (map-reverse f xs) ∙ sym (reverse-append (f x ∷ []) (map f xs))))

map-map : {A B C : Type 0} (f : B → C) (h : A → B) (xs : List A) → map f (map h xs) ≡ map (λ x. f (h x)) xs
map-map f h [] = refl
map-map f h (x ∷ xs) = ap (λ l. f (h x) ∷ l) (map-map f h xs)

map-same : {A B : Type 0} (f g : A → B) (xs : List A) → ((x : A) → f x ≡ g x) → map f xs ≡ map g xs
map-same f g [] h = refl
map-same f g (x ∷ xs) h = ap (λ y. y ∷ map f xs) (h x) ∙ ap (λ l. g x ∷ l) (map-same f g xs h)

any-map : {A B : Type 0} (f : B → Bool) (h : A → B) (xs : List A) → list_any f (map h xs) ≡ list_any (λ x. f (h x)) xs
any-map f h [] = refl
any-map f h (x ∷ xs) = ap (λ b. f (h x) || b) (any-map f h xs)

any-same : {A : Type 0} (f g : A → Bool) (xs : List A) → ((x : A) → f x ≡ g x) → list_any f xs ≡ list_any g xs
any-same f g [] h = refl
any-same f g (x ∷ xs) h = ap (λ b. b || list_any f xs) (h x) ∙ ap (λ b. g x || b) (any-same f g xs h)

while-map : {A B : Type 0} (p : B → Bool) (h : A → B) (xs : List A) → take_while p (map h xs) ≡ map h (take_while (λ x. p (h x)) xs)
while-map p h [] = refl
while-map p h (x ∷ xs) =
    take_while-cons p (h x) (map h xs)
    ∙ (ap (λ l. cond (p (h x)) (h x ∷ l) []) (while-map p h xs)
    ∙ (inside (p (h x)) ∙ sym (ap (map h) (take_while-cons (λ y. p (h y)) x xs))))
  where
    inside : (b : Bool) → cond b (h x ∷ map h (take_while (λ y. p (h y)) xs)) [] ≡ map h (cond b (x ∷ take_while (λ y. p (h y)) xs) [])
    inside true = refl
    inside false = refl

while-same : {A : Type 0} (p q : A → Bool) (xs : List A) → ((x : A) → p x ≡ q x) → take_while p xs ≡ take_while q xs
while-same p q [] h = refl
while-same p q (x ∷ xs) h =
    take_while-cons p x xs
    ∙ (ap (λ b. cond b (x ∷ take_while p xs) []) (h x)
    ∙ (ap (λ l. cond (q x) (x ∷ l) []) (while-same p q xs h) ∙ sym (take_while-cons q x xs)))

-- names with slashes, and a last one
joined-slashed : (names : List (List ℕ)) (name : List ℕ) → joined (names ++ name ∷ []) ≡ slashed names ++ name
joined-slashed [] name = refl
joined-slashed (a ∷ []) name = sym (append_assoc a (47 ∷ []) name)
joined-slashed (a ∷ (b ∷ names)) name =
    ap (λ t. a ++ 47 ∷ t) (joined-slashed (b ∷ names) name) ∙ sym (append_assoc a (47 ∷ slashed (b ∷ names)) name)

-- Chains by offsets.

-- what follows the name after an offset
past_name : (text : List ℕ) (offset : ℕ) (n m : List ℕ) (ms : List (List ℕ)) → drop offset text ≡ joined (n ∷ m ∷ ms)
    → drop (offset + length n + 1) text ≡ joined (m ∷ ms)
past_name text offset n m ms e =
    ap (λ k. drop k text) (omega arith)
    ∙ (drop-plus offset (length n + 1) text
    ∙ (ap (drop (length n + 1)) e ∙ drop-append-add n (47 ∷ joined (m ∷ ms)) 1))

-- each directory is asked about what follows its offset
asked-placed : (text : List ℕ) (offset : ℕ) (dirs : List Dir) (names : List (List ℕ)) → drop offset text ≡ joined names
    → length dirs ≤ length names
    → asked_in text (placed_along offset dirs names) ≡ asked_along dirs names
asked-placed text offset [] names e le = refl
asked-placed text offset (d ∷ dirs) [] e le = absurd (omega arith)
asked-placed text offset (d ∷ []) (n ∷ []) e le = ap (λ t. (d, t) ∷ []) e
asked-placed text offset (d ∷ (c ∷ dirs)) (n ∷ []) e le = absurd (omega arith)
asked-placed text offset (d ∷ dirs) (n ∷ (m ∷ ms)) e le =
    ap (λ t. let l : List Asked = (d, t) ∷ asked_in text (placed_along (offset + length n + 1) dirs (m ∷ ms)) in l) e
    ∙ ap (λ (l : List Asked). (d, joined (n ∷ m ∷ ms)) ∷ l)
    (asked-placed text (offset + length n + 1) dirs (m ∷ ms) (past_name text offset n m ms e) (omega arith))

-- a directory after all names
placed_along-end : (offset : ℕ) (dirs : List Dir) (names : List (List ℕ)) (dir : Dir) → length dirs ≡ length names
    → placed_along offset (dirs ++ dir ∷ []) names ≡ placed_along offset dirs names ++ (dir, offset + length (slashed names)) ∷ []
placed_along-end offset [] [] dir e = ap (λ n. let l : List Placed = (dir, n) ∷ [] in l) (omega arith)
placed_along-end offset [] (n ∷ names) dir e = absurd (omega arith)
placed_along-end offset (d ∷ dirs) [] dir e = absurd (omega arith)
placed_along-end offset (d ∷ dirs) (n ∷ names) dir e =
    let size : length (n ++ 47 ∷ slashed names) ≡ length n + (1 + length (slashed names)) =
    length-append n (47 ∷ slashed names) ∙ omega arith in
    ap (λ (l : List Placed). (d, offset) ∷ l)
    (placed_along-end (offset + length n + 1) dirs names dir (omega arith)
    ∙ ap (λ k. placed_along (offset + length n + 1) dirs names ++ (dir, k) ∷ []) (omega arith))

-- the last name moves no offset
placed_along-front : (offset : ℕ) (dirs : List Dir) (names : List (List ℕ)) (name : List ℕ) → length dirs ≤ length names + 1
    → placed_along offset dirs (names ++ name ∷ []) ≡ placed_along offset dirs names
placed_along-front offset [] names name le = refl
placed_along-front offset (d ∷ []) [] name le = refl
placed_along-front offset (d ∷ (c ∷ dirs)) [] name le = absurd (omega arith)
placed_along-front offset (d ∷ dirs) (n ∷ names) name le =
    ap (λ (l : List Placed). (d, offset) ∷ l) (placed_along-front (offset + length n + 1) dirs names name (omega arith))

-- the chain of an entry
chain-asked : (dirs : List Dir) (names : List (List ℕ)) (name : List ℕ) → length dirs ≡ length names + 1
    → asked_in (47 ∷ (slashed names ++ name)) (reverse (placed_along 1 dirs names)) ≡ reverse (asked_along dirs (names ++ name ∷ []))
chain-asked dirs names name e =
    let text = 47 ∷ (slashed names ++ name) in
    let size : length (names ++ name ∷ []) ≡ length names + 1 = length-append names (name ∷ []) in
    map-reverse (λ link. (link.0, drop link.1 text)) (placed_along 1 dirs names)
    ∙ ap reverse
    (ap (asked_in text) (sym (placed_along-front 1 dirs names name (omega arith)))
    ∙ asked-placed text 1 dirs (names ++ name ∷ []) (sym (joined-slashed names name)) (omega arith))

-- the chain with one directory more
chain-more : (dirs : List Dir) (names : List (List ℕ)) (name : List ℕ) (dir : Dir) → length dirs ≡ length names + 1
    → reverse (placed_along 1 (dirs ++ dir ∷ []) (names ++ name ∷ []))
    ≡ (dir, length (47 ∷ slashed (names ++ name ∷ []))) ∷ reverse (placed_along 1 dirs names)
chain-more dirs names name dir e =
    let size : length (names ++ name ∷ []) ≡ length names + 1 = length-append names (name ∷ []) in
    let here = slashed (names ++ name ∷ []) in
    ap reverse
    (placed_along-end 1 dirs (names ++ name ∷ []) dir (omega arith)
    ∙ (ap (λ (l : List Placed). l ++ (dir, 1 + length here) ∷ []) (placed_along-front 1 dirs names name (omega arith))
    ∙ ap (λ k. placed_along 1 dirs names ++ (dir, k) ∷ []) (omega arith)))
    ∙ reverse-append (placed_along 1 dirs names) ((dir, length (47 ∷ here)) ∷ [])

-- What is reached in a directory below a root.

abbrev above_of : QueryScene → List Dir
above_of g = dirs_above g.loads g.settings (paths_above g.tree g.settings g.root)

abbrev base_of : QueryScene → List (List ℕ)
base_of g = names_above g.tree g.settings g.root

-- the directories from `/` to the one with these names, that one included
abbrev dirs_in : QueryScene → List (List ℕ) → List Dir
dirs_in g front = above_of g ++ dirs_at g.loads (directories_along g.root front ++ path_along g.root front ∷ [])

length-above : (g : QueryScene) → length (above_of g) ≡ length (base_of g)
length-above g =
    length-map (paths_above g.tree g.settings g.root) (λ path. kept_above g.settings (g.loads path).0)
    ∙ length-directories (47 ∷ []) (base_of g)

length-in : (g : QueryScene) (front : List (List ℕ)) → length (dirs_in g front) ≡ length (base_of g ++ front) + 1
length-in g front =
    let paths = directories_along g.root front ++ path_along g.root front ∷ [] in
    let a : length (dirs_in g front) ≡ length (above_of g) + length (dirs_at g.loads paths) =
    length-append (above_of g) (dirs_at g.loads paths) in
    let b : length (dirs_at g.loads paths) ≡ length paths = length-map paths (λ path. (g.loads path).0) in
    let d : length paths ≡ length (directories_along g.root front) + 1 =
    length-append (directories_along g.root front) (path_along g.root front ∷ []) in
    let e = length-directories g.root front in
    let f : length (base_of g ++ front) ≡ length (base_of g) + length front = length-append (base_of g) front in
    let h = length-above g in
    omega arith

dirs_in-to : (g : QueryScene) (front : List (List ℕ)) (n : List ℕ) → dirs_in g front ≡ dirs_to g (front ++ n ∷ [])
dirs_in-to g front n = ap (λ (paths : List (List ℕ)). above_of g ++ dirs_at g.loads paths) (sym (directories_along-more g.root front n))

dirs_in-more : (g : QueryScene) (front : List (List ℕ)) (n : List ℕ)
    → dirs_in g (front ++ n ∷ []) ≡ dirs_in g front ++ (g.loads (path_along g.root (front ++ n ∷ []))).0 ∷ []
dirs_in-more g front n =
    let path = path_along g.root (front ++ n ∷ []) in
    ap (λ (l : List Dir). above_of g ++ l) (map-append (λ p. (g.loads p).0) (directories_along g.root (front ++ n ∷ [])) (path ∷ []))
    ∙ (sym (append_assoc (above_of g) (dirs_at g.loads (directories_along g.root (front ++ n ∷ []))) ((g.loads path).0 ∷ []))
    ∙ ap (λ (l : List Dir). l ++ (g.loads path).0 ∷ []) (sym (dirs_in-to g front n)))

same_reached : (a b : List Placed) (t u p q : List ℕ) → a ≡ b → t ≡ u → p ≡ q
    → let x : Reached = record { chain = a; text = t; path = p } in
    let y : Reached = record { chain = b; text = u; path = q } in
    x ≡ y
same_reached a b t u p q d e f = rw (d, e, f) refl

-- the directory that is entered by a name
pub entered-in : (g : QueryScene) (front : List (List ℕ)) (n : List ℕ)
    → entered g.loads (entry (reached_in g front) n) ≡ reached_in g (front ++ n ∷ [])
entered-in g front n =
    let names = base_of g ++ front in
    let path = path_along g.root (front ++ n ∷ []) in
    let at : join_of (path_along g.root front) n ≡ path = sym (path_along-more g.root front n) in
    let text : (47 ∷ slashed names) ++ (n ++ 47 ∷ []) ≡ 47 ∷ slashed (names ++ n ∷ []) = ap (λ t. 47 ∷ t) (sym (slashed-more names n)) in
    let grown : ((47 ∷ slashed names) ++ n) ++ 47 ∷ [] ≡ 47 ∷ slashed (names ++ n ∷ []) =
    append_assoc (47 ∷ slashed names) n (47 ∷ []) ∙ text in
    let more : base_of g ++ (front ++ n ∷ []) ≡ names ++ n ∷ [] = sym (append_assoc (base_of g) front (n ∷ [])) in
    let dir = (g.loads path).0 in
    let old = reverse (placed_along 1 (dirs_in g front) names) in
    let chain : ((g.loads (join_of (path_along g.root front) n)).0, length (((47 ∷ slashed names) ++ n) ++ 47 ∷ [])) ∷ old
    ≡ reverse (placed_along 1 (dirs_in g (front ++ n ∷ [])) (base_of g ++ (front ++ n ∷ []))) =
    ap (λ p. ((g.loads p).0, length (((47 ∷ slashed names) ++ n) ++ 47 ∷ [])) ∷ old) at
    ∙ (ap (λ (t : List ℕ). (dir, length t) ∷ old) grown
    ∙ (sym (chain-more (dirs_in g front) names n dir (length-in g front))
    ∙ (ap (λ (l : List Dir). reverse (placed_along 1 l (names ++ n ∷ []))) (sym (dirs_in-more g front n))
    ∙ ap (λ (l : List (List ℕ)). reverse (placed_along 1 (dirs_in g (front ++ n ∷ [])) l)) (sym more)))) in
    same_reached _ _ _ _ _ _ chain (grown ∙ ap (λ (l : List (List ℕ)). 47 ∷ slashed l) (sym more)) at

-- the chain of an entry, asked about its text, is its whole chain
pub chain-in : (g : QueryScene) (front : List (List ℕ)) (n : List ℕ)
    → asked_in ((reached_in g front).text ++ n) (reached_in g front).chain ≡ chain g (front ++ n ∷ [])
chain-in g front n =
    let names = base_of g ++ front in
    chain-asked (dirs_in g front) names n (length-in g front)
    ∙ (ap (λ (l : List Dir). reverse (asked_along l (names ++ n ∷ []))) (dirs_in-to g front n)
    ∙ ap (λ (l : List (List ℕ)). reverse (asked_along (dirs_to g (front ++ n ∷ [])) l)) (append_assoc (base_of g) front (n ∷ [])))

-- the verdict on an entry is that over its whole chain
pub verdict-in : (g : QueryScene) (front : List (List ℕ)) (n : List ℕ) (is_dir : Bool)
    → verdict_at g.settings g.outside (entry (reached_in g front) n) is_dir ≡ path_verdict g (front ++ n ∷ []) is_dir
unfolding placed_verdict path_verdict
verdict-in g front n is_dir =
    ap (λ (l : List Asked). verdict g.settings g.outside l (join_of (path_along g.root front) n) is_dir) (chain-in g front n)
    ∙ ap (λ p. verdict g.settings g.outside (chain g (front ++ n ∷ [])) p is_dir) (sym (path_along-more g.root front n))

ignored-in : (g : QueryScene) (front : List (List ℕ)) (n : List ℕ)
    → is_ignore (verdict_at g.settings g.outside (entry (reached_in g front) n) true) ≡ is_ignored g (front ++ n ∷ [])
unfolding is_ignored
ignored-in g [] n = ap is_ignore (verdict-in g [] n true)
ignored-in g (x ∷ xs) n = ap is_ignore (verdict-in g (x ∷ xs) n true)

pick : (b x : Bool) (i y z : Verdict) → cond x i y ≡ z → cond (b || x) i y ≡ cond b i z
pick true x i y z h = refl
pick false x i y z h = h

-- The whole answer.

verdict-from : (g : QueryScene) (is_dir : Bool) (front : List (List ℕ)) (n : List ℕ) (ns : List (List ℕ))
    → cond (list_any (λ q. is_ignored g (front ++ n ∷ q)) (ancestors ns)) Ignore (path_verdict g (front ++ n ∷ ns) is_dir)
    ≡ verdict_from g.loads g.settings g.outside is_dir (reached_in g front) (n ∷ ns)
unfolding verdict_from
verdict-from g is_dir front n [] = sym (verdict-in g front n is_dir)
verdict-from g is_dir front n (m ∷ ms) =
    let here = front ++ n ∷ [] in
    let shift : (q : List (List ℕ)) → is_ignored g (front ++ n ∷ m ∷ q) ≡ is_ignored g (here ++ m ∷ q) =
    λ q. ap (is_ignored g) (sym (append_assoc front (n ∷ []) (m ∷ q))) in
    let below = list_any (λ q. is_ignored g (front ++ n ∷ q)) (map (λ q. m ∷ q) (ancestors ms)) in
    let those : below ≡ list_any (λ q. is_ignored g (here ++ m ∷ q)) (ancestors ms) =
    any-map (λ q. is_ignored g (front ++ n ∷ q)) (λ q. m ∷ q) (ancestors ms)
    ∙ any-same (λ q. is_ignored g (front ++ n ∷ m ∷ q)) (λ q. is_ignored g (here ++ m ∷ q)) (ancestors ms) shift in
    let rest = verdict_from g.loads g.settings g.outside is_dir (entered g.loads (entry (reached_in g front) n)) (m ∷ ms) in
    let last : path_verdict g (front ++ n ∷ m ∷ ms) is_dir ≡ path_verdict g (here ++ m ∷ ms) is_dir =
    ap (λ l. path_verdict g l is_dir) (sym (append_assoc front (n ∷ []) (m ∷ ms))) in
    let under : cond below Ignore (path_verdict g (front ++ n ∷ m ∷ ms) is_dir) ≡ rest =
    ap (λ b. cond b Ignore (path_verdict g (front ++ n ∷ m ∷ ms) is_dir)) those
    ∙ (ap (λ v. cond (list_any (λ q. is_ignored g (here ++ m ∷ q)) (ancestors ms)) Ignore v) last
    ∙ (verdict-from g is_dir here m ms
    ∙ ap (λ (r : Reached). verdict_from g.loads g.settings g.outside is_dir r (m ∷ ms)) (sym (entered-in g front n)))) in
    pick (is_ignored g here) below Ignore (path_verdict g (front ++ n ∷ m ∷ ms) is_dir) rest under
    ∙ ap (λ b. cond b Ignore rest) (sym (ignored-in g front n))

-- what the rules say of a path is what they say one name at a time
pub rules_verdict-is : (g : QueryScene) (is_dir : Bool) (n : List ℕ) (ns : List (List ℕ))
    → rules_verdict g (n ∷ ns) is_dir ≡ verdict_from g.loads g.settings g.outside is_dir (reached_in g []) (n ∷ ns)
unfolding rules_verdict is_ignored
rules_verdict-is g is_dir n ns =
    ap (λ b. cond b Ignore (path_verdict g (n ∷ ns) is_dir)) (any-map (is_ignored g) (λ q. n ∷ q) (ancestors ns))
    ∙ verdict-from g is_dir [] n ns

-- the problem of the load of the directory with these names
abbrev problem_in : QueryScene → List (List ℕ) → Option Problem
problem_in g front = (g.loads (path_along g.root front)).1

one_more : (b : Bool) (x : List (List ℕ)) (xs : List (List (List ℕ))) (f : List (List ℕ)
    → Option Problem) (y : Option Problem) (ys : List (Option Problem))
    → f x ≡ y → map f xs ≡ ys → map f (cond (not b) (x ∷ xs) []) ≡ cond b [] (y ∷ ys)
one_more true x xs f y ys h k = refl
one_more false x xs f y ys h k = ap (λ z. z ∷ map f xs) h ∙ ap (λ l. y ∷ l) k

problems-from : (g : QueryScene) (front : List (List ℕ)) (n : List ℕ) (ns : List (List ℕ))
    → map (λ q. problem_in g (front ++ n ∷ q)) (take_while (λ q. not (is_ignored g (front ++ n ∷ q))) (ancestors ns))
    ≡ problems_from g.loads g.settings g.outside (reached_in g front) (n ∷ ns)
unfolding problems_from
problems-from g front n [] = refl
problems-from g front n (m ∷ ms) =
    let here = front ++ n ∷ [] in
    let f = λ (q : List (List ℕ)). problem_in g (front ++ n ∷ q) in
    let p = λ (q : List (List ℕ)). not (is_ignored g (front ++ n ∷ q)) in
    let move : (q : List (List ℕ)) → here ++ m ∷ q ≡ front ++ n ∷ m ∷ q = λ q. append_assoc front (n ∷ []) (m ∷ q) in
    let below : map f (take_while p (map (λ q. m ∷ q) (ancestors ms)))
    ≡ problems_from g.loads g.settings g.outside (entered g.loads (entry (reached_in g front) n)) (m ∷ ms) =
    ap (map f) (while-map p (λ q. m ∷ q) (ancestors ms))
    ∙ (map-map f (λ q. m ∷ q) (take_while (λ q. p (m ∷ q)) (ancestors ms))
    ∙ (ap (map (λ q. f (m ∷ q))) (while-same (λ q. p (m ∷ q)) (λ q. not (is_ignored g (here ++ m ∷ q))) (ancestors ms)
    (λ q. ap (λ l. not (is_ignored g l)) (sym (move q))))
    ∙ (map-same (λ q. f (m ∷ q)) (λ q. problem_in g (here ++ m ∷ q))
    (take_while (λ q. not (is_ignored g (here ++ m ∷ q))) (ancestors ms)) (λ q. ap (problem_in g) (sym (move q)))
    ∙ (problems-from g here m ms
    ∙ ap (λ (r : Reached). problems_from g.loads g.settings g.outside r (m ∷ ms)) (sym (entered-in g front n)))))) in
    ap (map f) (take_while-cons p [] (map (λ q. m ∷ q) (ancestors ms)))
    ∙ (one_more (is_ignored g here) [] (take_while p (map (λ q. m ∷ q) (ancestors ms))) f (g.loads (join_of (path_along g.root front) n)).1
    (problems_from g.loads g.settings g.outside (entered g.loads (entry (reached_in g front) n)) (m ∷ ms))
    (ap (λ l. (g.loads l).1) (path_along-more g.root front n)) below
    ∙ ap (λ b. cond b [] ((g.loads (join_of (path_along g.root front) n)).1 ∷ problems_from g.loads g.settings g.outside
    (entered g.loads (entry (reached_in g front) n)) (m ∷ ms)))
    (sym (ignored-in g front n)))

-- the problems on the way are those one name at a time
pub problems_below-is : (g : QueryScene) (n : List ℕ) (ns : List (List ℕ))
    → problems_below g (n ∷ ns) ≡ (g.loads g.root).1 ∷ problems_from g.loads g.settings g.outside (reached_in g []) (n ∷ ns)
unfolding problems_below is_ignored
problems_below-is g n ns =
    let p = λ (q : List (List ℕ)). not (is_ignored g q) in
    ap (map (problem_in g)) (take_while-cons p [] (map (λ q. n ∷ q) (ancestors ns))
    ∙ ap (λ (l : List (List (List ℕ))). [] ∷ l) (while-map p (λ q. n ∷ q) (ancestors ns)))
    ∙ ap (λ (l : List (Option Problem)). (g.loads g.root).1 ∷ l)
    (map-map (problem_in g) (λ q. n ∷ q) (take_while (λ q. p (n ∷ q)) (ancestors ns)) ∙ problems-from g [] n ns)

-- what is reached at the root, where the directories above it were placed
pub root-reached : (g : QueryScene) (dirs : List Placed) (text path : List ℕ)
    → dirs ≡ placed_along 1 (above_of g) (base_of g) ++ ((g.loads g.root).0, length text) ∷ []
    → text ≡ 47 ∷ slashed (base_of g) → path ≡ g.root
    → let at : Reached = record { chain = reverse dirs; text = text; path = path } in
    at ≡ reached_in g []
root-reached g dirs text path placed is at =
    let names = base_of g in
    let none : names ++ [] ≡ names = append-nil names in
    let root = (g.loads g.root).0 in
    let size : length text ≡ 1 + length (slashed names) = ap (λ (t : List ℕ). length t) is ∙ omega arith in
    let grown : dirs ≡ placed_along 1 (dirs_in g []) (names ++ []) =
    placed
    ∙ (ap (λ k. placed_along 1 (above_of g) names ++ (root, k) ∷ []) size
    ∙ (sym (placed_along-end 1 (above_of g) names root (length-above g)) ∙ ap (placed_along 1 (dirs_in g [])) (sym none))) in
    same_reached _ _ _ _ _ _ (ap reverse grown) (is ∙ ap (λ (l : List (List ℕ)). 47 ∷ slashed l) (sym none)) at
