-- The directories around a place are those that a query about it asks.
use Rattle.std.proofs.Common.{◌≡◌, ℕ, suc, ◌+◌, Bool, List, [], ◌∷◌, ◌++◌, length, reverse, refl, sym, ap, ◌∙◌, append_assoc, arith}
use Rattle.std.proofs.lemmas.List.{append-nil, length-append, length-map, reverse-append}
use Rattle.ignore_base.specs.Paths.{join_of}
use Rattle.ignore_dir.specs.declared.dir.Dir.{Dir}
use Rattle.ignore_dir.specs.declared.outside.Outside.{Outside}
use Rattle.ignore_dir.specs.declared.settings.Settings.{Settings}
use Rattle.ignore_dir.specs.Above.{directories_along, dirs_above, kept_above, names_above, paths_above}
use Rattle.ignore_dir.specs.Chains.{placed_along, slashed}
use Rattle.ignore_dir.specs.Lists.{Placed}
use Rattle.ignore_dir.specs.Scene.{path_verdict}
use Rattle.ignore_dir.specs.Steps.{Reached, entered, entry, reached_in, verdict_at}
use Rattle.ignore_dir.specs.Verdict.{is_ignore, placed_verdict}
use Rattle.ignore_walk.specs.Branch.{Branch, path_of, placed_above, placed_at, placed_to, text_at}
use Rattle.ignore_walk.specs.Scene.{Scene, queries}
use Rattle.ignore_walk.specs.Walked.{ignores}

-- a directory after all names
pub placed_along-end : (offset : ℕ) (dirs : List Dir) (names : List (List ℕ)) (dir : Dir) → length dirs ≡ length names
    → placed_along offset (dirs ++ dir ∷ []) names ≡ placed_along offset dirs names ++ (dir, offset + length (slashed names)) ∷ []
placed_along-end offset [] [] dir e = ap (λ n. let l : List Placed = (dir, n) ∷ [] in l) (omega arith)
placed_along-end offset [] (n ∷ names) dir e = absurd (omega arith)
placed_along-end offset (d ∷ dirs) [] dir e = absurd (omega arith)
placed_along-end offset (d ∷ dirs) (n ∷ names) dir e =
    let size : length (n ++ 47 ∷ slashed names) ≡ length n + (1 + length (slashed names)) = length-append n (47 ∷ slashed names) ∙ omega arith in
    ap (λ (l : List Placed). (d, offset) ∷ l)
    (placed_along-end (offset + length n + 1) dirs names dir (omega arith)
    ∙ ap (λ k. placed_along (offset + length n + 1) dirs names ++ (dir, k) ∷ []) (omega arith))

length-directories : (dir : List ℕ) (names : List (List ℕ)) → length (directories_along dir names) ≡ length names
length-directories dir [] = refl
length-directories dir (n ∷ names) = ap suc (length-directories (join_of dir n) names)

-- of each directory along names something is held
pub length-held : (g : Scene) (names : List (List ℕ)) → length (dirs_above g.loads g.settings (directories_along (47 ∷ []) names)) ≡ length names
length-held g names =
    length-map (directories_along (47 ∷ []) names) (λ path. kept_above g.settings (g.loads path).0) ∙ length-directories (47 ∷ []) names

same_reached : (a b : List Placed) (t u p q : List ℕ) → a ≡ b → t ≡ u → p ≡ q
    → let x : Reached = record { chain = a; text = t; path = p } in
    let y : Reached = record { chain = b; text = u; path = q } in
    x ≡ y
same_reached a b t u p q d e f = rw (d, e, f) refl

-- what a walk has reached in the directory at a place
abbrev pub reached_at : Scene → List ℕ → Branch → Reached
reached_at g root b = record { chain = placed_at g root b ++ placed_above g root; text = text_at g root b; path = path_of root b }

module _ (g : Scene) (root : List ℕ) where
  abbrev names : List (List ℕ)
  names = names_above g.tree g.settings root

  abbrev above : List Dir
  above = dirs_above g.loads g.settings (paths_above g.tree g.settings root)

  length-above : length above ≡ length names
  length-above = length-held g names

  reached-root : reached_at g root [] ≡ reached_in (queries g root) []
  reached-root =
      let dir = (g.loads root).0 in
      let far = placed_along 1 above names in
      let size : length (47 ∷ slashed names) ≡ 1 + length (slashed names) = omega arith in
      let chain : (dir, length (47 ∷ slashed names)) ∷ reverse far ≡ reverse (placed_along 1 (above ++ dir ∷ []) (names ++ [])) =
      ap (λ n. (dir, n) ∷ reverse far) size
      ∙ (sym (reverse-append far ((dir, 1 + length (slashed names)) ∷ []))
      ∙ (ap reverse (sym (placed_along-end 1 above names dir length-above))
      ∙ ap (λ (l : List (List ℕ)). reverse (placed_along 1 (above ++ dir ∷ []) l)) (sym (append-nil names)))) in
      same_reached _ _ _ _ _ _ chain (ap (λ (l : List (List ℕ)). 47 ∷ slashed l) (sym (append-nil names))) refl

  reached-more : (b : Branch) (name : List ℕ) → reached_at g root (name ∷ b) ≡ entered g.loads (entry (reached_at g root b) name)
  reached-more b name =
      let text : text_at g root b ++ (name ++ 47 ∷ []) ≡ (text_at g root b ++ name) ++ 47 ∷ [] =
      sym (append_assoc (text_at g root b) name (47 ∷ [])) in
      let dir = (g.loads (path_of root (name ∷ b))).0 in
      let rest = placed_at g root b ++ placed_above g root in
      same_reached _ _ _ _ _ _ (ap (λ (t : List ℕ). let l : List Placed = (dir, length t) ∷ rest in l) text) text refl

  turned : (b : Branch) (name : List ℕ) → reverse (name ∷ b) ≡ reverse b ++ name ∷ []
  turned b name = reverse-append (name ∷ []) b

  -- a walk reaches what a query reaches: by the law of the steps of a query
  reached-query : ((front : List (List ℕ)) (n : List ℕ)
      → entered g.loads (entry (reached_in (queries g root) front) n) ≡ reached_in (queries g root) (front ++ n ∷ []))
      → (b : Branch) → reached_at g root b ≡ reached_in (queries g root) (reverse b)
  reached-query law [] = reached-root
  reached-query law (name ∷ b) =
      reached-more b name
      ∙ (ap (λ (r : Reached). entered g.loads (entry r name)) (reached-query law b)
      ∙ (law (reverse b) name ∙ ap (reached_in (queries g root)) (sym (turned b name))))

  -- the verdict by offsets is the verdict of a query
  pub ignores-placed : ((front : List (List ℕ)) (n : List ℕ)
      → entered g.loads (entry (reached_in (queries g root) front) n) ≡ reached_in (queries g root) (front ++ n ∷ []))
      → ((front : List (List ℕ)) (n : List ℕ) (is_dir : Bool)
      → verdict_at g.settings g.outside (entry (reached_in (queries g root) front) n) is_dir ≡ path_verdict (queries g root) (front ++ n ∷ []) is_dir)
      → (b : Branch) (name path : List ℕ) (is_dir : Bool) → path ≡ path_of root (name ∷ b)
      → is_ignore (placed_verdict g.settings g.outside (placed_at g root b ++ placed_above g root) (text_at g root b ++ name) path is_dir)
      ≡ ignores g root (name ∷ b) is_dir
  unfolding ignores
  ignores-placed enters judges b name path is_dir at =
      ap (λ p. is_ignore (placed_verdict g.settings g.outside (placed_at g root b ++ placed_above g root) (text_at g root b ++ name) p is_dir)) at
      ∙ (ap (λ (r : Reached). is_ignore (verdict_at g.settings g.outside (entry r name) is_dir)) (reached-query enters b)
      ∙ (ap is_ignore (judges (reverse b) name is_dir)
      ∙ ap (λ (l : List (List ℕ)). is_ignore (path_verdict (queries g root) l is_dir)) (sym (turned b name))))

  -- the same by the settings and rules of a scene
  pub ignores-is : ((front : List (List ℕ)) (n : List ℕ)
      → entered g.loads (entry (reached_in (queries g root) front) n) ≡ reached_in (queries g root) (front ++ n ∷ []))
      → ((front : List (List ℕ)) (n : List ℕ) (is_dir : Bool)
      → verdict_at g.settings g.outside (entry (reached_in (queries g root) front) n) is_dir ≡ path_verdict (queries g root) (front ++ n ∷ []) is_dir)
      → (b : Branch) (name path text : List ℕ) (is_dir : Bool) (s : Settings) (o : Outside) → g.settings ≡ s → g.outside ≡ o
      → text ≡ text_at g root b ++ name → path ≡ path_of root (name ∷ b)
      → is_ignore (placed_verdict s o (placed_to g root b) text path is_dir) ≡ ignores g root (name ∷ b) is_dir
  ignores-is enters judges b name path text is_dir s o es eo et at =
      rw (sym es, sym eo, et) (ignores-placed enters judges b name path is_dir at)
