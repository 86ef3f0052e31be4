-- What tokens match leads from their first position to the next, and only that.
use Rattle.std.proofs.Common.{◌≡◌, ◌≢◌, ◌+◌, ◌⊎◌, ◌↔◌, inl, inr, ℕ, zero, suc, Bool, List, [], ◌∷◌, ◌++◌, length, arith, slice_get, Some}
use Rattle.std.proofs.Common.{refl, sym, ◌∙◌, ap, subst, append_assoc}
use Rattle.std.specs.Prelude.{All, Contains}
use Rattle.std.proofs.lemmas.List.{append-nil}
use Rattle.std.proofs.lemmas.Option.{slice_get_within}
use Rattle.std.proofs.lemmas.List.Elements.{All-head, All-tail, All-cons}
use Rattle.ignore_glob.specs.Glob.{Token, literal, any, star, start, middle, end, class, alternates, Tokens, done, then, Branches}
use Rattle.ignore_glob.specs.Glob.{no_branch, branch}
use Rattle.ignore_glob.specs.Matches.{slash, token_matches, tokens_match, branch_matches}
use Rattle.ignore_glob.specs.Nodes.{Node, literal_at, any_at, star_at, start_at, middle_at, end_at, until_slash, until_end, class_at}
use Rattle.ignore_glob.specs.Nodes.{fork_at, StepsByNothing, StepsBy, token_width, width, entry, entries, fork, TokenAt, TokensAt}
use Rattle.ignore_glob.specs.Nodes.{BranchesAt, AreNodes}

-- from the position, some steps by this text lead to the end
pub data Path (fold : Bool) (nodes : List Node) : ℕ → List ℕ → Type 0 where
  ends : Path fold nodes (length nodes) []
  nothing : (p q : ℕ) (w : List ℕ) (node : Node) → slice_get nodes p ≡ Some node → StepsByNothing node p q → Path fold nodes q w
      → Path fold nodes p w
  character : (p q c : ℕ) (w : List ℕ) (node : Node) → slice_get nodes p ≡ Some node → StepsBy fold node c p q → Path fold nodes q w
      → Path fold nodes p (c ∷ w)

Contains-head : (x : ℕ) (xs : List ℕ) → Contains (x ∷ xs) x
Contains-head x xs = (0, omega arith, refl)

Contains-tail : (x y : ℕ) (xs : List ℕ) → Contains xs y → Contains (x ∷ xs) y
Contains-tail x y xs h = (suc h.0, omega (arith, h.1), h.2)

Contains-cases : (x y : ℕ) (xs : List ℕ) → Contains (x ∷ xs) y → (y ≡ x) ⊎ Contains xs y
Contains-cases x y xs (zero, lt, e) = inl (sym e)
Contains-cases x y xs (suc k, lt, e) = inr (k, omega (arith, lt), e)

module _ (fold : Bool) (nodes : List Node) where
  -- inside a start or a middle, any text up to a slash leads on
  past_slash : (b e : ℕ) (a v : List ℕ) → slice_get nodes b ≡ Some (until_slash e) → Path fold nodes e v
      → Path fold nodes b (a ++ slash ∷ v)
  past_slash b e [] v at p = character b e slash v (until_slash e) at (inr (refl, refl)) p
  past_slash b e (c ∷ a) v at p = character b b c (a ++ slash ∷ v) (until_slash e) at (inl refl) (past_slash b e a v at p)

  pub past_end : (b e : ℕ) (a v : List ℕ) → slice_get nodes b ≡ Some (until_end e) → Path fold nodes e v → Path fold nodes b (a ++ v)
  past_end b e [] v at p = nothing b e v (until_end e) at refl p
  past_end b e (c ∷ a) v at p = character b b c (a ++ v) (until_end e) at refl (past_end b e a v at p)

  past_star : (b e : ℕ) (a v : List ℕ) → slice_get nodes b ≡ Some (star_at e) → All (λ c. c ≢ slash) a → Path fold nodes e v
      → Path fold nodes b (a ++ v)
  past_star b e [] v at all p = nothing b e v (star_at e) at refl p
  past_star b e (c ∷ a) v at all p =
      character b b c (a ++ v) (star_at e) at (All-head (λ d. d ≢ slash) c a all, refl)
      (past_star b e a v at (All-tail (λ d. d ≢ slash) c a all) p)

  past_middle : (b e : ℕ) (x y v : List ℕ) → slice_get nodes b ≡ Some (middle_at e) → slice_get nodes (b + 1) ≡ Some (until_slash e)
      → x ++ slash ∷ [] ≡ slash ∷ y → Path fold nodes e v → Path fold nodes b ((x ++ slash ∷ []) ++ v)
  past_middle b e [] y v at inside same p = character b e slash v (middle_at e) at (refl, inr refl) p
  past_middle b e (c ∷ x) y v at inside same p =
      let first : c ≡ slash = cc in
      rw append_assoc (character b (b + 1) c (x ++ slash ∷ v) (middle_at e) at (first, inl refl) (past_slash (b + 1) e x v inside p))

  fork_path : (bs : Branches) (b e : ℕ) (a v : List ℕ) → TokenAt nodes (alternates bs) b e → token_matches fold (alternates bs) a
      → Path fold nodes e v → (branch_matches fold bs a → (q : ℕ) × Contains (entries bs (b + 1) e) q × Path fold nodes q (a ++ v))
      → Path fold nodes b (a ++ v)
  fork_path no_branch b e a v at h p find = elim h [
    | inl none ↦ rw none.1 (nothing b e v (fork_at (e ∷ [])) at.0 (Contains-head e []) p)
    | inr some ↦ absurd some
  ]
  fork_path (branch ts bs) b e a v at h p find = elim h [
    | inl none ↦ absurd (cc none.0)
    | inr some ↦ let found = find some in nothing b found.0 (a ++ v) (fork_at (entries (branch ts bs) (b + 1) e)) at.0 found.1 found.2
  ]

  mutual
    token_path : (t : Token) (b e : ℕ) (a v : List ℕ) → TokenAt nodes t b e → token_matches fold t a → Path fold nodes e v
        → Path fold nodes b (a ++ v)
    token_path (literal c) b e a v at h p = rw h.1 (character b e h.0 v (literal_at c e) at (h.2, refl) p)
    token_path any b e a v at h p = rw h.1 (character b e h.0 v (any_at e) at (h.2, refl) p)
    token_path star b e a v at h p = past_star b e a v at h p
    token_path start b e a v at h p = elim h [
      | inl none ↦ rw none (nothing b e v (start_at e) at.0 (inr refl) p)
      | inr some ↦ rw (some.1, append_assoc)
          (nothing b (b + 1) (some.0 ++ slash ∷ v) (start_at e) at.0 (inl refl) (past_slash (b + 1) e some.0 v at.1 p))
    ]
    token_path middle b e a v at h p =
        let same : h.1.0 ++ slash ∷ [] ≡ slash ∷ h.0.0 = sym h.1.1 ∙ h.0.1 in rw h.1.1 (past_middle b e h.1.0 h.0.0 v at.0 at.1 same p)
    token_path end b e a v at h p =
        rw h.1 (character b (b + 1) slash (h.0 ++ v) (end_at e) at.0 (refl, refl) (past_end (b + 1) e h.0 v at.1 p))
    token_path (class negated ranges) b e a v at h p = rw h.1 (character b e h.0 v (class_at negated ranges e) at (h.2, refl) p)
    token_path (alternates bs) b e a v at h p = fork_path bs b e a v at h p (λ some. branches_path bs (b + 1) e a v at.1 some p)

    tokens_path : (ts : Tokens) (b e : ℕ) (a v : List ℕ) → TokensAt nodes ts b e → tokens_match fold ts a → Path fold nodes e v
        → Path fold nodes (entry ts b e) (a ++ v)
    tokens_path done b e a v at h p = rw h p
    tokens_path (then t ts) b e a v at h p =
        rw (h.2, append_assoc) (token_path t b (entry ts (b + token_width t) e) h.0 (h.1 ++ v) at.0 h.3
        (tokens_path ts (b + token_width t) e h.1 v at.1 h.4 p))

    branches_path : (bs : Branches) (b e : ℕ) (a v : List ℕ) → BranchesAt nodes bs b e → branch_matches fold bs a → Path fold nodes e v
        → (q : ℕ) × Contains (entries bs b e) q × Path fold nodes q (a ++ v)
    branches_path no_branch b e a v at h p = absurd h
    branches_path (branch ts bs) b e a v at h p = elim h [
      | inl here ↦ (entry ts b e, Contains-head (entry ts b e) (entries bs (b + width ts) e), tokens_path ts b e a v at.0 here p)
      | inr later ↦ let more = branches_path bs (b + width ts) e a v at.1 later p in
          (more.0, Contains-tail (entry ts b e) more.0 (entries bs (b + width ts) e) more.1, more.2)
    ]

  -- the way back: a path from a token's first position is what it matches, and then a path from the
  -- next
  abbrev Splits : (List ℕ → Type 0) → ℕ → List ℕ → Type 0
  Splits T e w = (a v : List ℕ) × (w ≡ a ++ v) × T a × Path fold nodes e v

  moved : (p q : ℕ) (w : List ℕ) → p ≡ q → Path fold nodes p w → Path fold nodes q w
  moved p q w e r = let P : ℕ → Type 0 = λ n. Path fold nodes n w in subst P e r

  abbrev FirstStep : Node → ℕ → List ℕ → Type 0
  FirstStep node b w =
      ((q : ℕ) × StepsByNothing node b q × Path fold nodes q w)
      ⊎ ((c q : ℕ) × (u : List ℕ) × (w ≡ c ∷ u) × StepsBy fold node c b q × Path fold nodes q u)

  nowhere : (node : Node) → slice_get nodes (length nodes) ≡ Some node → ⊥
  nowhere node at = let h = slice_get_within nodes (length nodes) node at in omega (arith, h)

  step_from : (b : ℕ) (w : List ℕ) → Path fold nodes b w → (node : Node) → slice_get nodes b ≡ Some node → FirstStep node b w
  step_from b w ends node at = absurd (nowhere node at)
  step_from b w (nothing p q u k here s r) node at =
      let same : k ≡ node = cc (at, here) in
      let P : Node → Type 0 = λ n. StepsByNothing n b q in
      inl (q, subst P same s, r)
  step_from b w (character p q c u k here s r) node at =
      let same : k ≡ node = cc (at, here) in
      let P : Node → Type 0 = λ n. StepsBy fold n c b q in
      inr (c, q, u, refl, subst P same s, r)

  end_back : (p : ℕ) (w : List ℕ) → Path fold nodes p w → p ≡ length nodes → w ≡ []
  end_back m w ends e = refl
  end_back m w (nothing p q u k here s r) e = absurd (let h = slice_get_within nodes p k here in omega (arith, h, e))
  end_back m w (character p q c u k here s r) e = absurd (let h = slice_get_within nodes p k here in omega (arith, h, e))

  star_back : (p : ℕ) (w : List ℕ) → Path fold nodes p w → (b e : ℕ) → p ≡ b → slice_get nodes b ≡ Some (star_at e)
      → Splits (token_matches fold star) e w
  star_back m w ends b e same at =
      absurd (let P : ℕ → Type 0 = λ n. slice_get nodes n ≡ Some (star_at e) in nowhere (star_at e) (subst P (sym same) at))
  star_back m w (nothing p q u k here s r) b e same at =
      let node : k ≡ star_at e = cc (at, here, same) in
      let P : Node → Type 0 = λ n. StepsByNothing n p q in
      ([], u, refl, (λ i d h. absurd (omega arith)), moved q e u (subst P node s) r)
  star_back m w (character p q c u k here s r) b e same at =
      let node : k ≡ star_at e = cc (at, here, same) in
      let P : Node → Type 0 = λ n. StepsBy fold n c p q in
      let step = subst P node s in
      let more = star_back q u r b e (step.1 ∙ same) at in
      (c ∷ more.0, more.1, ap (λ x. c ∷ x) more.2, All-cons (λ d. d ≢ slash) c more.0 step.0 more.3, more.4)

  slash_back : (p : ℕ) (w : List ℕ) → Path fold nodes p w → (b e : ℕ) → p ≡ b → slice_get nodes b ≡ Some (until_slash e)
      → (x v : List ℕ) × (w ≡ x ++ slash ∷ v) × Path fold nodes e v
  slash_back m w ends b e same at =
      absurd (let P : ℕ → Type 0 = λ n. slice_get nodes n ≡ Some (until_slash e) in nowhere (until_slash e) (subst P (sym same) at))
  slash_back m w (nothing p q u k here s r) b e same at =
      let node : k ≡ until_slash e = cc (at, here, same) in
      let P : Node → Type 0 = λ n. StepsByNothing n p q in
      absurd (subst P node s)
  slash_back m w (character p q c u k here s r) b e same at =
      let node : k ≡ until_slash e = cc (at, here, same) in
      let P : Node → Type 0 = λ n. StepsBy fold n c p q in
      elim (subst P node s) [
        | inl stay ↦ let more = slash_back q u r b e (stay ∙ same) at in (c ∷ more.0, more.1, ap (λ x. c ∷ x) more.2, more.3)
        | inr go ↦ ([], u, ap (λ d. d ∷ u) go.0, moved q e u go.1 r)
      ]

  inside_end_back : (p : ℕ) (w : List ℕ) → Path fold nodes p w → (b e : ℕ) → p ≡ b → slice_get nodes b ≡ Some (until_end e)
      → (x v : List ℕ) × (w ≡ x ++ v) × Path fold nodes e v
  inside_end_back m w ends b e same at =
      absurd (let P : ℕ → Type 0 = λ n. slice_get nodes n ≡ Some (until_end e) in nowhere (until_end e) (subst P (sym same) at))
  inside_end_back m w (nothing p q u k here s r) b e same at =
      let node : k ≡ until_end e = cc (at, here, same) in
      let P : Node → Type 0 = λ n. StepsByNothing n p q in
      ([], u, refl, moved q e u (subst P node s) r)
  inside_end_back m w (character p q c u k here s r) b e same at =
      let node : k ≡ until_end e = cc (at, here, same) in
      let P : Node → Type 0 = λ n. StepsBy fold n c p q in
      let more = inside_end_back q u r b e (subst P node s ∙ same) at in
      (c ∷ more.0, more.1, ap (λ x. c ∷ x) more.2, more.3)

  fork_back : (bs : Branches) (b e q : ℕ) (w : List ℕ) → Contains (fork bs (b + 1) e) q → Path fold nodes q w
      → (Contains (entries bs (b + 1) e) q → Splits (branch_matches fold bs) e w) → Splits (token_matches fold (alternates bs)) e w
  fork_back no_branch b e q w has r find = elim (Contains-cases e q [] has) [
    | inl here ↦ ([], w, refl, inl (refl, refl), moved q e w here r)
    | inr none ↦ absurd (omega (arith, none.1))
  ]
  fork_back (branch ts bs) b e q w has r find = let found = find has in (found.0, found.1, found.2, inr found.3, found.4)

  mutual
    token_back : (t : Token) (b e : ℕ) (w : List ℕ) → TokenAt nodes t b e → Path fold nodes b w → Splits (token_matches fold t) e w
    token_back (literal c) b e w at r = elim (step_from b w r (literal_at c e) at) [
      | inl s ↦ absurd s.1
      | inr s ↦ (s.0 ∷ [], s.2, s.3, (s.0, refl, s.4.0), moved s.1 e s.2 s.4.1 s.5)
    ]
    token_back any b e w at r = elim (step_from b w r (any_at e) at) [
      | inl s ↦ absurd s.1
      | inr s ↦ (s.0 ∷ [], s.2, s.3, (s.0, refl, s.4.0), moved s.1 e s.2 s.4.1 s.5)
    ]
    token_back star b e w at r = star_back b w r b e refl at
    token_back start b e w at r = elim (step_from b w r (start_at e) at.0) [
      | inl s ↦ elim s.1 [
        | inl in' ↦ let more = slash_back s.0 w s.2 (b + 1) e in' at.1 in
            (more.0 ++ slash ∷ [], more.1, more.2 ∙ sym (append_assoc more.0 (slash ∷ []) more.1), inr (more.0, refl), more.3)
        | inr go ↦ ([], w, refl, inl refl, moved s.0 e w go s.2)
      ]
      | inr s ↦ absurd s.4
    ]
    token_back middle b e w at r = elim (step_from b w r (middle_at e) at.0) [
      | inl s ↦ absurd s.1
      | inr s ↦ let begins : w ≡ slash ∷ s.2 = s.3 ∙ ap (λ d. d ∷ s.2) s.4.0 in
          elim s.4.1 [
            | inl in' ↦ let more = slash_back s.1 s.2 s.5 (b + 1) e in' at.1 in (
              slash ∷ (more.0 ++ slash ∷ []),
              more.1,
              begins
                  ∙ ap (λ x. slash ∷ x) (more.2 ∙ sym (append_assoc more.0 (slash ∷ []) more.1)),
              ((more.0 ++ slash ∷ [], refl), (slash ∷ more.0, refl)),
              more.3,
            )
            | inr go ↦ (slash ∷ [], s.2, begins, (([], refl), ([], refl)), moved s.1 e s.2 go s.5)
          ]
    ]
    token_back end b e w at r = elim (step_from b w r (end_at e) at.0) [
      | inl s ↦ absurd s.1
      | inr s ↦ let begins : w ≡ slash ∷ s.2 = s.3 ∙ ap (λ d. d ∷ s.2) s.4.0 in
          let more = inside_end_back s.1 s.2 s.5 (b + 1) e s.4.1 at.1 in
          (slash ∷ more.0, more.1, begins ∙ ap (λ x. slash ∷ x) more.2, (more.0, refl), more.3)
    ]
    token_back (class negated ranges) b e w at r = elim (step_from b w r (class_at negated ranges e) at) [
      | inl s ↦ absurd s.1
      | inr s ↦ (s.0 ∷ [], s.2, s.3, (s.0, refl, s.4.0), moved s.1 e s.2 s.4.1 s.5)
    ]
    token_back (alternates bs) b e w at r = elim (step_from b w r (fork_at (fork bs (b + 1) e)) at.0) [
      | inl s ↦ fork_back bs b e s.0 w s.1 s.2 (λ has. branches_back bs (b + 1) e s.0 w at.1 has s.2)
      | inr s ↦ absurd s.4
    ]

    tokens_back : (ts : Tokens) (b e : ℕ) (w : List ℕ) → TokensAt nodes ts b e → Path fold nodes (entry ts b e) w
        → Splits (tokens_match fold ts) e w
    tokens_back done b e w at r = ([], w, refl, refl, r)
    tokens_back (then t ts) b e w at r =
        let first = token_back t b (entry ts (b + token_width t) e) w at.0 r in
        let more = tokens_back ts (b + token_width t) e first.1 at.1 first.4 in (
          first.0 ++ more.0,
          more.1,
          first.2 ∙ (ap (λ x. first.0 ++ x) more.2 ∙ sym (append_assoc first.0 more.0 more.1)),
          (first.0, more.0, refl, first.3, more.3),
          more.4,
        )

    branches_back : (bs : Branches) (b e q : ℕ) (w : List ℕ) → BranchesAt nodes bs b e → Contains (entries bs b e) q → Path fold nodes q w
        → Splits (branch_matches fold bs) e w
    branches_back no_branch b e q w at has r = absurd (omega (arith, has.1))
    branches_back (branch ts bs) b e q w at has r = elim (Contains-cases (entry ts b e) q (entries bs (b + width ts) e) has) [
      | inl here ↦ let found = tokens_back ts b e w at.0 (moved q (entry ts b e) w here r) in
          (found.0, found.1, found.2, inl found.3, found.4)
      | inr later ↦ let found = branches_back bs (b + width ts) e q w at.1 later r in (found.0, found.1, found.2, inr found.3, found.4)
    ]

  entry_zero : (ts : Tokens) → length nodes ≡ width ts → entry ts 0 (length nodes) ≡ 0
  entry_zero done e = e
  entry_zero (then t ts) e = refl

  pub matching_path : (ts : Tokens) (w : List ℕ) → AreNodes nodes ts → (tokens_match fold ts w ↔ Path fold nodes 0 w)
  matching_path ts w at = (
    (λ h. let r = tokens_path ts 0 (length nodes) w [] at.0 h ends in rw append-nil at (moved _ 0 _ (entry_zero ts at.1) r)),
    (λ r. let back = tokens_back ts 0 (length nodes) w at.0 (moved 0 (entry ts 0 (length nodes)) w (sym (entry_zero ts at.1)) r) in
        let none : back.1 ≡ [] = end_back (length nodes) back.1 back.4 refl in
        let whole : w ≡ back.0 = back.2 ∙ (ap (λ v. back.0 ++ v) none ∙ append-nil back.0) in
        let P : List ℕ → Type 0 = λ v. tokens_match fold ts v in
        subst P (sym whole) back.3),
  )

  -- where the whole glob is one recursive start, each text leads to the end
  pub lone_path : (w : List ℕ) → nodes ≡ start_at 2 ∷ until_end 2 ∷ [] → Path fold nodes 0 w
  lone_path w same =
      let at : slice_get nodes 0 ≡ Some (start_at 2) = ap (λ l. slice_get l 0) same in
      let inside : slice_get nodes 1 ≡ Some (until_end 2) = ap (λ l. slice_get l 1) same in
      let two : length nodes ≡ 2 = ap length same in
      let P : ℕ → Type 0 = λ n. Path fold nodes n [] in
      rw append-nil at (nothing 0 1 (w ++ []) (start_at 2) at (inl refl) (past_end 1 2 w [] inside (subst P two ends)))
