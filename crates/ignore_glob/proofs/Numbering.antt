-- The nodes of a glob, number by number, are what stands at its positions in the order of writing.
use Rattle.std.proofs.Common.{◌≡◌, ◌≢◌, ◌+◌, ◌⊎◌, inl, inr, ℕ, zero, suc, List, [], ◌∷◌, ◌++◌, length, arith, slice_get, Some, refl, sym}
use Rattle.std.proofs.Common.{◌∙◌, ap, subst, append_assoc, length-append}
use Rattle.std.proofs.lemmas.List.{length-map}
use Rattle.ignore_glob.specs.Glob.{Token, literal, any, star, start, middle, end, class, alternates, Tokens, done, then, Branches}
use Rattle.ignore_glob.specs.Glob.{no_branch, branch}
use Rattle.ignore_glob.specs.Nodes.{Node, literal_at, any_at, star_at, start_at, middle_at, end_at, until_slash, until_end, class_at}
use Rattle.ignore_glob.specs.Nodes.{fork_at, token_width, width, branches_width, entry, entries, fork, TokenAt, TokensAt, BranchesAt}
use Rattle.ignore_glob.specs.Nodes.{AreGlobNodes}
use Rattle.ignore_glob.specs.Positions.{Place, first, after, in_branch, Position, before, inside, the_end, entrance, entrances, Entry}
use Rattle.ignore_glob.specs.Positions.{table, token_table, branch_table, positions}
use Rattle.ignore_glob.proofs.Once.{get_seam}
use Rattle.ignore_glob.proofs.Places.{own, all}

mutual
  pub token_table_length : (t : Token) (p : Place) (n : Position) → length (token_table t p n) ≡ token_width t
  token_table_length (literal c) p n = refl
  token_table_length any p n = refl
  token_table_length star p n = refl
  token_table_length start p n = refl
  token_table_length middle p n = refl
  token_table_length end p n = refl
  token_table_length (class negated ranges) p n = refl
  token_table_length (alternates bs) p n = let e = branch_table_length bs 0 p n in omega (arith, e)

  pub table_length : (ts : Tokens) (p : Place) (n : Position) → length (table ts p n) ≡ width ts
  table_length done p n = refl
  table_length (then t ts) p n =
      let a = token_table_length t p (entrance ts (after p) n) in
      let b = table_length ts (after p) n in
      let c = length-append (token_table t p (entrance ts (after p) n)) (table ts (after p) n) in
      omega (arith, a, b, c)

  branch_table_length : (bs : Branches) (i : ℕ) (p : Place) (n : Position) → length (branch_table bs i p n) ≡ branches_width bs
  branch_table_length no_branch i p n = refl
  branch_table_length (branch ts bs) i p n =
      let a = table_length ts (in_branch i p) n in
      let b = branch_table_length bs (suc i) p n in
      let c = length-append (table ts (in_branch i p) n) (branch_table bs (suc i) p n) in
      omega (arith, a, b, c)

pub positions_width : (ts : Tokens) → positions ts ≡ width ts
positions_width ts = table_length ts first the_end

pub positions_length : (nodes : List Node) (ts : Tokens) → AreGlobNodes nodes ts → length nodes ≡ positions ts
positions_length nodes ts at = elim at [
  | inl lone ↦ let a : positions ts ≡ 2 = ap positions lone.0 in let b : length nodes ≡ 2 = ap length lone.1 in omega (arith, a, b)
  | inr plain ↦ let a = positions_width ts in let b = plain.1.1 in omega (arith, a, b)
]

-- where braces lead: to what is next where they have no branch, and else before each branch
abbrev pub forks : Branches → Place → Position → List Position
forks no_branch p n = n ∷ []
forks (branch ts bs) p n = entrances (branch ts bs) 0 p n

-- these numbers are those of these positions, in the list of all
abbrev pub Numbers : List ℕ → List Position → List Position → Type 0
Numbers [] [] known = Unit {0}
Numbers [] (q ∷ qs) known = ⊥
Numbers (m ∷ ms) [] known = ⊥
Numbers (m ∷ ms) (q ∷ qs) known = (slice_get known m ≡ Some q) × Numbers ms qs known

-- the inside of a start leads on by a slash, and that of the whole glob by nothing
abbrev pub LeavesStart : Tokens → List Node → ℕ → ℕ → Place → Position → Type 0
LeavesStart ts nodes k m p n =
    ((ts ≢ then start done) × (slice_get nodes k ≡ Some (until_slash m)))
    ⊎ ((ts ≡ then start done) × (slice_get nodes k ≡ Some (until_end m)) × (p ≡ first) × (n ≡ the_end))

module _ (whole : Tokens) (nodes : List Node) where
  -- the node of this number is that of the entry
  abbrev pub Fits : Position → Token → Position → ℕ → Type 0
  Fits the_end t n k = ⊥
  Fits (before p) (literal c) n k = (m : ℕ) × (slice_get (all whole) m ≡ Some n) × (slice_get nodes k ≡ Some (literal_at c m))
  Fits (before p) any n k = (m : ℕ) × (slice_get (all whole) m ≡ Some n) × (slice_get nodes k ≡ Some (any_at m))
  Fits (before p) star n k = (m : ℕ) × (slice_get (all whole) m ≡ Some n) × (slice_get nodes k ≡ Some (star_at m))
  Fits (before p) start n k =
      (m : ℕ) × (slice_get (all whole) m ≡ Some n) × (slice_get nodes k ≡ Some (start_at m))
      × (slice_get (all whole) (k + 1) ≡ Some (inside p))
  Fits (before p) middle n k =
      (m : ℕ) × (slice_get (all whole) m ≡ Some n) × (slice_get nodes k ≡ Some (middle_at m))
      × (slice_get (all whole) (k + 1) ≡ Some (inside p))
  Fits (before p) end n k =
      (m : ℕ) × (slice_get (all whole) m ≡ Some n) × (slice_get nodes k ≡ Some (end_at m))
      × (slice_get (all whole) (k + 1) ≡ Some (inside p))
  Fits (before p) (class negated ranges) n k =
      (m : ℕ) × (slice_get (all whole) m ≡ Some n) × (slice_get nodes k ≡ Some (class_at negated ranges m))
  Fits (before p) (alternates bs) n k = (ms : List ℕ) × (slice_get nodes k ≡ Some (fork_at ms)) × Numbers ms (forks bs p n) (all whole)
  Fits (inside p) (literal c) n k = ⊥
  Fits (inside p) any n k = ⊥
  Fits (inside p) star n k = ⊥
  Fits (inside p) start n k = (m : ℕ) × (slice_get (all whole) m ≡ Some n) × LeavesStart whole nodes k m p n
  Fits (inside p) middle n k = (m : ℕ) × (slice_get (all whole) m ≡ Some n) × (slice_get nodes k ≡ Some (until_slash m))
  Fits (inside p) end n k = (m : ℕ) × (slice_get (all whole) m ≡ Some n) × (slice_get nodes k ≡ Some (until_end m))
  Fits (inside p) (class negated ranges) n k = ⊥
  Fits (inside p) (alternates bs) n k = ⊥

  -- the nodes from the number b on are those of these entries
  abbrev FitsFrom : List Entry → ℕ → Type 0
  FitsFrom [] b = Unit {0}
  FitsFrom (r ∷ rs) b = Fits r.0 r.1 r.2 b × FitsFrom rs (b + 1)

  -- the positions from the number b on are those of these entries
  abbrev StandFrom : List Entry → ℕ → Type 0
  StandFrom [] b = Unit {0}
  StandFrom (r ∷ rs) b = (slice_get (all whole) b ≡ Some r.0) × StandFrom rs (b + 1)

  moved_fits : (rs : List Entry) (b c : ℕ) → b ≡ c → FitsFrom rs b → FitsFrom rs c
  moved_fits rs b c e h = let P : ℕ → Type 0 = λ n. FitsFrom rs n in subst P e h

  moved_stand : (rs : List Entry) (b c : ℕ) → b ≡ c → StandFrom rs b → StandFrom rs c
  moved_stand rs b c e h = let P : ℕ → Type 0 = λ n. StandFrom rs n in subst P e h

  fits_append : (xs ys : List Entry) (b : ℕ) → FitsFrom xs b → FitsFrom ys (b + length xs) → FitsFrom (xs ++ ys) b
  fits_append [] ys b f g = moved_fits ys (b + 0) b (omega arith) g
  fits_append (x ∷ xs) ys b f g =
      (f.0, fits_append xs ys (b + 1) f.1 (moved_fits ys (b + length (x ∷ xs)) ((b + 1) + length xs) (omega arith) g))

  stand_append : (xs ys : List Entry) (b : ℕ) → StandFrom (xs ++ ys) b → StandFrom xs b × StandFrom ys (b + length xs)
  stand_append [] ys b h = (tt, moved_stand ys b (b + 0) (omega arith) h)
  stand_append (x ∷ xs) ys b h =
      let more = stand_append xs ys (b + 1) h.1 in
      ((h.0, more.0), moved_stand ys ((b + 1) + length xs) (b + length (x ∷ xs)) (omega arith) more.1)

  fits_at : (rs : List Entry) (b i : ℕ) (r : Entry) → FitsFrom rs b → slice_get rs i ≡ Some r → Fits r.0 r.1 r.2 (b + i)
  fits_at [] b i r h at = absurd (cc at)
  fits_at (x ∷ xs) b zero r h at =
      let same : x ≡ r = cc at in
      let e : b ≡ b + 0 = omega arith in
      let P : Entry → Type 0 = λ y. Fits y.0 y.1 y.2 b in
      let Q : ℕ → Type 0 = λ n. Fits r.0 r.1 r.2 n in
      subst Q e (subst P same h.0)
  fits_at (x ∷ xs) b (suc i) r h at =
      let e : (b + 1) + i ≡ b + suc i = omega arith in
      let Q : ℕ → Type 0 = λ n. Fits r.0 r.1 r.2 n in
      subst Q e (fits_at xs (b + 1) i r h.1 at)

  stand_from : (rs : List Entry) (prefix back : List Position) (b : ℕ) → all whole ≡ prefix ++ (own rs ++ back) → length prefix ≡ b
      → StandFrom rs b
  stand_from [] prefix back b same len = tt
  stand_from (r ∷ rs) prefix back b same len = (
    (let at = get_seam prefix r.0 (own rs ++ back) in
        let P : List Position → Type 0 = λ l. slice_get l (length prefix) ≡ Some r.0 in
        let Q : ℕ → Type 0 = λ n. slice_get (all whole) n ≡ Some r.0 in
        subst Q len (subst P (sym same) at)),
    stand_from rs (prefix ++ r.0 ∷ []) back (b + 1) (same ∙ sym (append_assoc prefix (r.0 ∷ []) (own rs ++ back)))
        (let e = length-append prefix (r.0 ∷ []) in omega (arith, e, len)),
  )

  all_stand : StandFrom (table whole first the_end) 0
  all_stand = stand_from (table whole first the_end) [] (the_end ∷ []) 0 refl refl

  -- the first of an entry's positions, before its token
  token_first : (t : Token) (p : Place) (n : Position) (b : ℕ) → StandFrom (token_table t p n) b → slice_get (all whole) b ≡ Some (before p)
  token_first (literal c) p n b h = h.0
  token_first any p n b h = h.0
  token_first star p n b h = h.0
  token_first start p n b h = h.0
  token_first middle p n b h = h.0
  token_first end p n b h = h.0
  token_first (class negated ranges) p n b h = h.0
  token_first (alternates bs) p n b h = h.0

  entrance_number : (ts : Tokens) (p : Place) (n : Position) (b m : ℕ) → slice_get (all whole) m ≡ Some n → StandFrom (table ts p n) b
      → slice_get (all whole) (entry ts b m) ≡ Some (entrance ts p n)
  entrance_number done p n b m is h = is
  entrance_number (then t ts) p n b m is h =
      token_first t p (entrance ts (after p) n) b (stand_append (token_table t p (entrance ts (after p) n)) (table ts (after p) n) b h).0

  entrances_numbers : (bs : Branches) (i : ℕ) (p : Place) (n : Position) (b m : ℕ) → slice_get (all whole) m ≡ Some n
      → StandFrom (branch_table bs i p n) b → Numbers (entries bs b m) (entrances bs i p n) (all whole)
  entrances_numbers no_branch i p n b m is h = tt
  entrances_numbers (branch ts bs) i p n b m is h =
      let both = stand_append (table ts (in_branch i p) n) (branch_table bs (suc i) p n) b h in
      let len = table_length ts (in_branch i p) n in (
        entrance_number ts (in_branch i p) n b m is both.0,
        entrances_numbers bs (suc i) p n (b + width ts) m is
            (moved_stand (branch_table bs (suc i) p n) (b + length (table ts (in_branch i p) n)) (b + width ts)
            (omega (arith, len)) both.1),
      )

  forks_numbers : (bs : Branches) (p : Place) (n : Position) (b m : ℕ) → slice_get (all whole) m ≡ Some n
      → StandFrom (branch_table bs 0 p n) (b + 1) → Numbers (fork bs (b + 1) m) (forks bs p n) (all whole)
  forks_numbers no_branch p n b m is h = (is, tt)
  forks_numbers (branch ts bs) p n b m is h = entrances_numbers (branch ts bs) 0 p n (b + 1) m is h

  module _ (plain : whole ≢ then start done) where
    mutual
      token_fits : (t : Token) (p : Place) (n : Position) (b m : ℕ) → TokenAt nodes t b m → slice_get (all whole) m ≡ Some n
          → StandFrom (token_table t p n) b → FitsFrom (token_table t p n) b
      token_fits (literal c) p n b m at is h = ((m, is, at), tt)
      token_fits any p n b m at is h = ((m, is, at), tt)
      token_fits star p n b m at is h = ((m, is, at), tt)
      token_fits start p n b m at is h = ((m, is, at.0, h.1.0), ((m, is, inl (plain, at.1)), tt))
      token_fits middle p n b m at is h = ((m, is, at.0, h.1.0), ((m, is, at.1), tt))
      token_fits end p n b m at is h = ((m, is, at.0, h.1.0), ((m, is, at.1), tt))
      token_fits (class negated ranges) p n b m at is h = ((m, is, at), tt)
      token_fits (alternates bs) p n b m at is h =
          ((fork bs (b + 1) m, at.0, forks_numbers bs p n b m is h.1), branches_fit bs 0 p n (b + 1) m at.1 is h.1)

      tokens_fit : (ts : Tokens) (p : Place) (n : Position) (b m : ℕ) → TokensAt nodes ts b m → slice_get (all whole) m ≡ Some n
          → StandFrom (table ts p n) b → FitsFrom (table ts p n) b
      tokens_fit done p n b m at is h = tt
      tokens_fit (then t ts) p n b m at is h =
          let n' = entrance ts (after p) n in
          let both = stand_append (token_table t p n') (table ts (after p) n) b h in
          let len = token_table_length t p n' in
          let e : b + length (token_table t p n') ≡ b + token_width t = omega (arith, len) in
          let rest = moved_stand (table ts (after p) n) (b + length (token_table t p n')) (b + token_width t) e both.1 in
          let next = entrance_number ts (after p) n (b + token_width t) m is rest in
          fits_append (token_table t p n') (table ts (after p) n) b (token_fits t p n' b (entry ts (b + token_width t) m) at.0 next both.0)
          (moved_fits (table ts (after p) n) (b + token_width t) (b + length (token_table t p n')) (sym e)
          (tokens_fit ts (after p) n (b + token_width t) m at.1 is rest))

      branches_fit : (bs : Branches) (i : ℕ) (p : Place) (n : Position) (b m : ℕ) → BranchesAt nodes bs b m
          → slice_get (all whole) m ≡ Some n → StandFrom (branch_table bs i p n) b → FitsFrom (branch_table bs i p n) b
      branches_fit no_branch i p n b m at is h = tt
      branches_fit (branch ts bs) i p n b m at is h =
          let both = stand_append (table ts (in_branch i p) n) (branch_table bs (suc i) p n) b h in
          let len = table_length ts (in_branch i p) n in
          let e : b + length (table ts (in_branch i p) n) ≡ b + width ts = omega (arith, len) in
          let rest = moved_stand (branch_table bs (suc i) p n) (b + length (table ts (in_branch i p) n)) (b + width ts) e both.1 in
          fits_append (table ts (in_branch i p) n) (branch_table bs (suc i) p n) b (tokens_fit ts (in_branch i p) n b m at.0 is both.0)
          (moved_fits (branch_table bs (suc i) p n) (b + width ts) (b + length (table ts (in_branch i p) n)) (sym e)
          (branches_fit bs (suc i) p n (b + width ts) m at.1 is rest))

  pub end_number : slice_get (all whole) (positions whole) ≡ Some the_end
  end_number =
      let len : length (own (table whole first the_end)) ≡ positions whole = length-map (table whole first the_end) (λ (r : Entry). r.0) in
      let P : ℕ → Type 0 = λ n. slice_get (all whole) n ≡ Some the_end in
      subst P len (get_seam (own (table whole first the_end)) the_end [])

  lone_fits : whole ≡ then start done → nodes ≡ start_at 2 ∷ until_end 2 ∷ [] → FitsFrom (table whole first the_end) 0
  lone_fits lone same =
      let known : table whole first the_end ≡ (before first, start, the_end) ∷ (inside first, start, the_end)
      ∷ [] = ap (λ (ts : Tokens). table ts first the_end) lone in
      let outer : slice_get nodes 0 ≡ Some (start_at 2) = ap (λ (l : List Node). slice_get l 0) same in
      let inner : slice_get nodes 1 ≡ Some (until_end 2) = ap (λ (l : List Node). slice_get l 1) same in
      let one : slice_get (all whole) 1 ≡ Some (inside first) = ap (λ (ts : Tokens). slice_get (all ts) 1) lone in
      let two : slice_get (all whole) 2 ≡ Some the_end = ap (λ (ts : Tokens). slice_get (all ts) 2) lone in
      let P : List Entry → Type 0 = λ rs. FitsFrom rs 0 in
      subst P (sym known) ((2, two, outer, one), ((2, two, inr (lone, inner, refl, refl)), tt))

  glob_fits : AreGlobNodes nodes whole → FitsFrom (table whole first the_end) 0
  glob_fits at =
      let len : length nodes ≡ positions whole = positions_length nodes whole at in
      elim at [
        | inl lone ↦ lone_fits lone.0 lone.1
        | inr plain ↦
            let P : ℕ → Type 0 = λ n. slice_get (all whole) n ≡ Some the_end in
            tokens_fit plain.0 whole first the_end 0 (length nodes) plain.1.0 (subst P (sym len) end_number) all_stand
      ]

  -- each entry's node is that of its number
  pub entry_fits : AreGlobNodes nodes whole → (k : ℕ) (r : Entry) → slice_get (table whole first the_end) k ≡ Some r → Fits r.0 r.1 r.2 k
  entry_fits at k r is =
      let P : ℕ → Type 0 = λ n. Fits r.0 r.1 r.2 n in
      let e : 0 + k ≡ k = omega arith in
      subst P e (fits_at (table whole first the_end) 0 k r (glob_fits at) is)
