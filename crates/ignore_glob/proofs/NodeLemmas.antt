-- The nodes of a glob lead to positions up to the end, and by no character only to later ones.
use Rattle.std.proofs.Common.{◌≡◌, ◌<◌, ◌≤◌, ◌+◌, inl, inr, ℕ, List, [], ◌∷◌, length, arith, slice_get, Some, subst, ap}
use Rattle.std.specs.Prelude.{All}
use Rattle.std.proofs.lemmas.Bool.{cases_order}
use Rattle.std.proofs.lemmas.Option.{slice_get_within}
use Rattle.std.proofs.lemmas.List.Elements.{All-cons}
use Rattle.ignore_glob.specs.Glob.{Token, literal, any, star, start, middle, end, class, alternates, Tokens, done, then, Branches}
use Rattle.ignore_glob.specs.Glob.{no_branch, branch}
use Rattle.ignore_glob.specs.Nodes.{Node, literal_at, any_at, star_at, start_at, middle_at, end_at, until_slash, until_end, class_at}
use Rattle.ignore_glob.specs.Nodes.{fork_at, token_width, width, branches_width, entry, entries, fork, TokenAt, TokensAt, BranchesAt}
use Rattle.ignore_glob.specs.Nodes.{AreGlobNodes}
use Rattle.ignore_glob.specs.Flags.{LeadsOn, AllLeadOn}

-- tokens that stand from b up to e begin there
entry_between : (ts : Tokens) (b e : ℕ) → b ≤ e → (b ≤ entry ts b e) × (entry ts b e ≤ e)
entry_between done b e h = (h, omega arith)
entry_between (then t ts) b e h = (omega arith, h)

-- each branch begins past the braces and leads on
entries_between : (bs : Branches) (p b e last : ℕ) → p < b → b + branches_width bs ≤ e → e ≤ last
    → All (λ q. (p < q) × (q ≤ last)) (entries bs b e)
entries_between no_branch p b e last h k l = λ i d g. absurd (omega (arith, g))
entries_between (branch ts bs) p b e last h k l =
    let at = entry_between ts b e (omega (arith, k)) in
    All-cons (λ q. (p < q) × (q ≤ last)) (entry ts b e) (entries bs (b + width ts) e) (omega (arith, at.0), omega (arith, at.1))
    (entries_between bs p (b + width ts) e last (omega arith) (omega (arith, k)) l)

fork_between : (bs : Branches) (p e last : ℕ) → p + 1 + branches_width bs ≤ e → e ≤ last
    → All (λ q. (p < q) × (q ≤ last)) (fork bs (p + 1) e)
fork_between no_branch p e last k l = All-cons (λ q. (p < q) × (q ≤ last)) e [] (omega (arith, k), l) (λ i d g. absurd (omega (arith, g)))
fork_between (branch ts bs) p e last k l = entries_between (branch ts bs) p (p + 1) e last (omega arith) k l

module _ (nodes : List Node) where
  -- what stands at one position leads on where the node that stands there does
  same_leads : (k b : ℕ) (node known : Node) → k ≡ b → slice_get nodes k ≡ Some node → slice_get nodes b ≡ Some known
      → LeadsOn known b (length nodes) → LeadsOn node k (length nodes)
  same_leads k b node known e here at h =
      let same : known ≡ node = cc (here, at, e) in
      let back : b ≡ k = omega (arith, e) in
      let P : Node → Type 0 = λ n. LeadsOn n b (length nodes) in
      let Q : ℕ → Type 0 = λ j. LeadsOn node j (length nodes) in
      subst Q back (subst P same h)

  two_leads : (k b : ℕ) (node first second : Node) → b ≤ k → k < b + 2 → slice_get nodes k ≡ Some node → slice_get nodes b ≡ Some first
      → slice_get nodes (b + 1) ≡ Some second → LeadsOn first b (length nodes) → LeadsOn second (b + 1) (length nodes)
      → LeadsOn node k (length nodes)
  two_leads k b node first second low high here at inside f s = elim (cases_order k b) [
    | inl e ↦ same_leads k b node first e here at f
    | inr apart ↦ same_leads k (b + 1) node second (elim apart [ inl l ↦ absurd (omega arith) | inr g ↦ omega arith ]) here inside s
  ]

  mutual
    token_leads : (t : Token) (b e k : ℕ) (node : Node) → TokenAt nodes t b e → b + token_width t ≤ e → e ≤ length nodes → b ≤ k
        → k < b + token_width t → slice_get nodes k ≡ Some node → LeadsOn node k (length nodes)
    token_leads (literal c) b e k node at w l low high here = same_leads k b node (literal_at c e) (omega arith) here at l
    token_leads any b e k node at w l low high here = same_leads k b node (any_at e) (omega arith) here at l
    token_leads star b e k node at w l low high here = same_leads k b node (star_at e) (omega arith) here at (omega arith, l)
    token_leads start b e k node at w l low high here =
        two_leads k b node (start_at e) (until_slash e) low high here at.0 at.1 (omega arith, omega arith, l) l
    token_leads middle b e k node at w l low high here =
        two_leads k b node (middle_at e) (until_slash e) low high here at.0 at.1 (omega arith, l) l
    token_leads end b e k node at w l low high here =
        two_leads k b node (end_at e) (until_end e) low high here at.0 at.1 (omega arith, l) (omega arith, l)
    token_leads (class negated ranges) b e k node at w l low high here =
        same_leads k b node (class_at negated ranges e) (omega arith) here at l
    token_leads (alternates bs) b e k node at w l low high here = elim (cases_order k b) [
      | inl same ↦ same_leads k b node (fork_at (fork bs (b + 1) e)) same here at.0
          (fork_between bs b e (length nodes) (omega (arith, w)) l)
      | inr apart ↦ elim apart [
        | inl before ↦ absurd (omega arith)
        | inr after ↦ branches_lead bs (b + 1) e k node at.1 (omega (arith, w)) l (omega arith) (omega (arith, high)) here
      ]
    ]

    tokens_lead : (ts : Tokens) (b e k : ℕ) (node : Node) → TokensAt nodes ts b e → b + width ts ≤ e → e ≤ length nodes → b ≤ k
        → k < b + width ts → slice_get nodes k ≡ Some node → LeadsOn node k (length nodes)
    tokens_lead done b e k node at w l low high here = absurd (omega (arith, high))
    tokens_lead (then t ts) b e k node at w l low high here =
        let next = entry_between ts (b + token_width t) e (omega (arith, w)) in
        elim (cases_order k (b + token_width t)) [
          | inl same ↦ tokens_lead ts (b + token_width t) e k node at.1 (omega (arith, w)) l (omega arith) (omega (arith, high)) here
          | inr apart ↦ elim apart [
            | inl before ↦ token_leads t b (entry ts (b + token_width t) e) k node at.0 next.0 (omega (arith, next.1)) low before here
            | inr after ↦ tokens_lead ts (b + token_width t) e k node at.1 (omega (arith, w)) l (omega arith) (omega (arith, high)) here
          ]
        ]

    branches_lead : (bs : Branches) (b e k : ℕ) (node : Node) → BranchesAt nodes bs b e → b + branches_width bs ≤ e → e ≤ length nodes
        → b ≤ k → k < b + branches_width bs → slice_get nodes k ≡ Some node → LeadsOn node k (length nodes)
    branches_lead no_branch b e k node at w l low high here = absurd (omega (arith, high))
    branches_lead (branch ts bs) b e k node at w l low high here = elim (cases_order k (b + width ts)) [
      | inl same ↦ branches_lead bs (b + width ts) e k node at.1 (omega (arith, w)) l (omega arith) (omega (arith, high)) here
      | inr apart ↦ elim apart [
        | inl before ↦ tokens_lead ts b e k node at.0 (omega (arith, w)) l low before here
        | inr after ↦ branches_lead bs (b + width ts) e k node at.1 (omega (arith, w)) l (omega arith) (omega (arith, high)) here
      ]
    ]

lone_leads : (nodes : List Node) → nodes ≡ start_at 2 ∷ until_end 2 ∷ [] → AllLeadOn nodes
lone_leads nodes same k node here =
    let two : length nodes ≡ 2 = ap length same in
    let at : slice_get nodes 0 ≡ Some (start_at 2) = ap (λ l. slice_get l 0) same in
    let inside : slice_get nodes (0 + 1) ≡ Some (until_end 2) = ap (λ l. slice_get l 1) same in
    let within = slice_get_within nodes k node here in
    two_leads nodes k 0 node (start_at 2) (until_end 2) (omega arith) (omega (arith, within)) here at inside
    (omega arith, omega (arith, two), omega (arith, two)) (omega arith, omega (arith, two))

pub lead_on : (nodes : List Node) (ts : Tokens) → AreGlobNodes nodes ts → AllLeadOn nodes
lead_on nodes ts at = elim at [
  | inl lone ↦ lone_leads nodes lone.1
  | inr plain ↦ λ k node here.
      let within = slice_get_within nodes k node here in
      tokens_lead nodes ts 0 (length nodes) k node plain.1.0 (let w : length nodes ≡ width ts = plain.1.1 in omega (arith, w)) (omega arith)
      (omega arith) (let w : length nodes ≡ width ts = plain.1.1 in omega (arith, w, within)) here
]
