-- What the masks of a short glob without braces say of its nodes.
use Rattle.std.proofs.Common.{◌≡◌, ◌<◌, ◌≤◌, ◌+◌, ◌-◌, ◌*◌, ◌^◌, ◌⊎◌, ◌↔◌, inl, inr, ℕ, zero, suc, Bool, true, false, List, [], ◌∷◌, length}
use Rattle.std.proofs.Common.{map, drop, arith, refl, sym, ap, subst, ◌∙◌, slice_get, Some, None, cond, get_or, leb-true, eqb-true}
use Rattle.std.proofs.Common.{pow_mono, drop-cons}
use Rattle.std.specs.Prelude.{◌≢◌, ◌&&◌, nat_le}
use Rattle.std.specs.Simd.Lanes.{mask_l}
use Rattle.std.proofs.lemmas.Bool.{and_parts}
use Rattle.std.proofs.lemmas.List.{length-map, drop-map, length-drop}
use Rattle.std.proofs.lemmas.Option.{slice_get-map, slice_get_read}
use Rattle.std.specs.Option.{option_map}
use Rattle.std.proofs.lemmas.Simd.{bit_mask_l, mask_l-lt}
use Rattle.ignore_glob.specs.Matches.{slash}
use Rattle.ignore_glob.specs.Nodes.{Node, literal_at, any_at, star_at, start_at, middle_at, end_at, until_slash, until_end, class_at}
use Rattle.ignore_glob.specs.Nodes.{fork_at, StepsByNothing, StepsBy}
use Rattle.ignore_glob.specs.NodeLists.{node_view, nodes_view}
use Rattle.ignore_glob.specs.Words.{Has, is_tested, Tests, is_star, is_inside, is_by_slash, is_middle, is_free, is_start, masks, leads_next}
use Rattle.ignore_glob.specs.Words.{is_line, word_of}
use Rattle.ignore_glob.specs.declared.glob.node.Node.{Node as CodeNode}
use Rattle.ignore_glob.specs.declared.glob.word.Masks.{Masks}

-- a node of this kind stands at the position
abbrev pub IsKind : (Node → Bool) → List Node → ℕ → Type 0
IsKind kind nodes p = (node : Node) × (slice_get nodes p ≡ Some node) × (kind node ≡ true)

abbrev bit : Bool → ℕ
bit b = cond b 1 0

one_true : (b : Bool) → bit b ≡ 1 → b ≡ true
one_true true e = refl
one_true false e = absurd (omega (arith, e))

get_kind : (kind : Node → Bool) (nodes : List Node) (p : ℕ) → (bit (get_or (map kind nodes) p false) ≡ 1) ↔ IsKind kind nodes p
get_kind kind [] zero = ((λ h. absurd (omega (arith, h))), (λ n. absurd (cc n.1)))
get_kind kind [] (suc p) = ((λ h. absurd (omega (arith, h))), (λ n. absurd (cc n.1)))
get_kind kind (x ∷ nodes) zero = (
  (λ h. (x, refl, one_true (kind x) h)),
  (λ n. let same : n.0 ≡ x = cc n.1 in let is : kind x ≡ true = subst (λ (y : Node). kind y ≡ true) same n.2 in ap bit is),
)
get_kind kind (x ∷ nodes) (suc p) = get_kind kind nodes p

pub has_kind : (kind : Node → Bool) (nodes : List Node) (p : ℕ) → Has (mask_l (map kind nodes)) p ↔ IsKind kind nodes p
has_kind kind nodes p =
    let e = bit_mask_l (map kind nodes) p in
    let both = get_kind kind nodes p in
    ((λ h. both.0 (sym e ∙ h)), (λ n. e ∙ both.1 n))

pub mask_small : (kind : Node → Bool) (nodes : List Node) → length nodes ≤ 62 → mask_l (map kind nodes) < 2 ^ 62
mask_small kind nodes short =
    let a = mask_l-lt (map kind nodes) in
    let b = length-map nodes kind in
    let c = pow_mono {i = length (map kind nodes)} {j = 62} (omega (arith, b, short)) in
    omega (arith, a, c)

line_at : (nodes : List Node) (b p : ℕ) (node : Node) → is_line nodes b ≡ true → slice_get nodes p ≡ Some node
    → leads_next node (b + p) ≡ true
line_at [] b zero node l at = absurd (cc at)
line_at [] b (suc p) node l at = absurd (cc at)
line_at (n ∷ ns) b zero node l at =
    let both = and_parts (leads_next n b) (is_line ns (suc b)) l in
    let same : n ≡ node = cc at in
    let e : b ≡ b + zero = omega arith in
    subst (λ (k : ℕ). leads_next node k ≡ true) e (subst (λ (x : Node). leads_next x b ≡ true) same both.0)
line_at (n ∷ ns) b (suc p) node l at =
    let both = and_parts (leads_next n b) (is_line ns (suc b)) l in
    let e : suc b + p ≡ b + suc p = omega arith in
    subst (λ (k : ℕ). leads_next node k ≡ true) e (line_at ns (suc b) p node both.1 at)

some_of : {X : Type 0} → (b : Bool) (x y : X) → cond b (Some x) None ≡ Some y → (b ≡ true) × (x ≡ y)
some_of true x y e = (refl, cc e)
some_of false x y e = absurd (cc e)

-- the nodes from a place on
pub nodes_drop : (nodes : List CodeNode) (p : ℕ) (node : CodeNode) → p < length nodes → node ≡ get_or nodes p node
    → drop p (nodes_view nodes) ≡ node_view node ∷ drop (suc p) (nodes_view nodes)
nodes_drop nodes p node l is =
    drop-map node_view p nodes ∙ (ap (λ xs. nodes_view xs) (drop-cons nodes p node l)
    ∙ (λ i. node_view (sym is i) ∷ sym (drop-map node_view (suc p) nodes) i))

pub nodes_drop_before : (nodes : List CodeNode) (p : ℕ) (node : CodeNode) → 0 < p → p ≤ length nodes → node ≡ get_or nodes (p - 1) node
    → drop (p - 1) (nodes_view nodes) ≡ node_view node ∷ drop p (nodes_view nodes)
nodes_drop_before nodes p node some l is =
    let e : suc (p - 1) ≡ p = omega (arith, some) in
    nodes_drop nodes (p - 1) node (omega (arith, some, l)) is ∙ ap (λ k. node_view node ∷ drop k (nodes_view nodes)) e

pub drop_short : (nodes : List CodeNode) (p : ℕ) → length nodes ≤ 62 → length (drop p (nodes_view nodes)) ≤ 62
drop_short nodes p short =
    let a = length-drop p (nodes_view nodes) in
    let b = length-map nodes node_view in
    omega (arith, a, b, short)

-- the node that stands at a place
pub node_at : (nodes : List CodeNode) (p : ℕ) (node : CodeNode) → p < length nodes → node ≡ get_or nodes p node
    → slice_get (nodes_view nodes) p ≡ Some (node_view node)
node_at nodes p node l is =
    slice_get-map node_view nodes p ∙ ap (λ x. option_map node_view x) (slice_get_read nodes (length nodes) p node refl l is)

-- one more node is seen
pub line_more : (nodes : List Node) (p q : ℕ) (node : Node) → drop p nodes ≡ node ∷ drop (suc p) nodes → leads_next node p ≡ true
    → q ≡ suc p → is_line nodes 0 ≡ is_line (drop p nodes) p → is_line nodes 0 ≡ is_line (drop q nodes) q
line_more nodes p q node cut leads e before =
    let more : is_line nodes 0 ≡ is_line (drop (suc p) nodes) (suc p) = before ∙ (ap (λ xs. is_line xs p) cut
    ∙ ap (λ b. b && is_line (drop (suc p) nodes) (suc p)) leads) in
    subst (λ (k : ℕ). is_line nodes 0 ≡ is_line (drop k nodes) k) (sym e) more

pub line_ends : (nodes : List Node) (p : ℕ) (node : Node) → drop p nodes ≡ node ∷ drop (suc p) nodes → leads_next node p ≡ false
    → is_line nodes 0 ≡ is_line (drop p nodes) p → false ≡ is_line nodes 0
line_ends nodes p node cut stops before =
    sym (before ∙ (ap (λ xs. is_line xs p) cut ∙ ap (λ b. b && is_line (drop (suc p) nodes) (suc p)) stops))

-- the masks of one node, and those of more
small_bit : (b : Bool) → cond b 1 0 + 2 * 0 < 2
small_bit true = omega arith
small_bit false = omega arith

pub mask_pair : (kind : Node → Bool) (node : Node) (nodes : List Node) (a b : ℕ) → a ≡ mask_l (map kind (node ∷ []))
    → b ≡ mask_l (map kind nodes)
    → length nodes ≤ 62 → (a < 2) × (b < 2 ^ 62)
mask_pair kind node nodes a b e f short =
    let one = small_bit (kind node) in
    let more = mask_small kind nodes short in
    (omega (arith, e, one), omega (arith, f, more))

mask_more : (kind : Node → Bool) (node : Node) (nodes : List Node)
    → mask_l (map kind (node ∷ [])) + 2 * mask_l (map kind nodes) ≡ mask_l (map kind (node ∷ nodes))
mask_more kind node nodes = omega arith

abbrev pub sum : Masks → Masks → Masks
sum a b = record {
  tested = a.tested + 2 * b.tested;
  stars = a.stars + 2 * b.stars;
  insides = a.insides + 2 * b.insides;
  by_slash = a.by_slash + 2 * b.by_slash;
  middles = a.middles + 2 * b.middles;
  free = a.free + 2 * b.free;
  starts = a.starts + 2 * b.starts;
}

pub masks_more : (one rest : Masks) (node : Node) (nodes : List Node) → one ≡ masks (node ∷ []) → rest ≡ masks nodes
    → sum one rest ≡ masks (node ∷ nodes)
masks_more one rest node nodes a b =
    (λ i. sum (a i) (b i)) ∙ (λ i. record {
      tested = mask_more is_tested node nodes i;
      stars = mask_more is_star node nodes i;
      insides = mask_more is_inside node nodes i;
      by_slash = mask_more is_by_slash node nodes i;
      middles = mask_more is_middle node nodes i;
      free = mask_more is_free node nodes i;
      starts = mask_more is_start node nodes i;
    })

-- what follows where a glob fits a word
pub record Fits (nodes : List Node) (m : Masks) : Type 0 where
  pub short : length nodes ≤ 62
  pub line : (p : ℕ) (node : Node) → slice_get nodes p ≡ Some node → leads_next node p ≡ true
  pub same : masks nodes ≡ m

pub fits : (nodes : List Node) (m : Masks) → word_of nodes ≡ Some m → Fits nodes m
fits nodes m is =
    let found = some_of (nat_le (length nodes) 62 && is_line nodes 0) (masks nodes) m is in
    let both = and_parts (nat_le (length nodes) 62) (is_line nodes 0) found.0 in record {
      short = leb-true (length nodes) 62 both.0;
      line = λ p node at. let e : 0 + p ≡ p = omega arith in
          subst (λ (k : ℕ). leads_next node k ≡ true) e (line_at nodes 0 p node both.1 at);
      same = found.1;
    }

-- where the steps of a node lead that leads to the position after it, or after its inside
abbrev pub NothingTo : Node → ℕ → ℕ → Type 0
NothingTo node p q = ((is_free node ≡ true) × (q ≡ p + 1)) ⊎ ((is_start node ≡ true) × (q ≡ p + 2))

pub nothing_to : (node : Node) (p q : ℕ) → leads_next node p ≡ true → StepsByNothing node p q ↔ NothingTo node p q
nothing_to (star_at next) p q l =
    let n = eqb-true next (p + 1) l in
    ((λ s. inl (refl, omega (arith, n, s))), (λ t. elim t [ inl f ↦ (let e = f.1 in omega (arith, n, e)) | inr g ↦ absurd (cc g.0) ]))
nothing_to (start_at next) p q l =
    let n = eqb-true next (p + 2) l in (
      (λ s. elim s [ inl e ↦ inl (refl, e) | inr e ↦ inr (refl, omega (arith, n, e)) ]),
      (λ t. elim t [ inl f ↦ inl f.1 | inr g ↦ inr (let e = g.1 in omega (arith, n, e)) ]),
    )
nothing_to (until_end next) p q l =
    let n = eqb-true next (p + 1) l in
    ((λ s. inl (refl, omega (arith, n, s))), (λ t. elim t [ inl f ↦ (let e = f.1 in omega (arith, n, e)) | inr g ↦ absurd (cc g.0) ]))
nothing_to (fork_at firsts) p q l = absurd (cc l)
nothing_to (literal_at k next) p q l = ((λ s. absurd s), (λ t. elim t [ inl f ↦ absurd (cc f.0) | inr g ↦ absurd (cc g.0) ]))
nothing_to (any_at next) p q l = ((λ s. absurd s), (λ t. elim t [ inl f ↦ absurd (cc f.0) | inr g ↦ absurd (cc g.0) ]))
nothing_to (middle_at next) p q l = ((λ s. absurd s), (λ t. elim t [ inl f ↦ absurd (cc f.0) | inr g ↦ absurd (cc g.0) ]))
nothing_to (end_at next) p q l = ((λ s. absurd s), (λ t. elim t [ inl f ↦ absurd (cc f.0) | inr g ↦ absurd (cc g.0) ]))
nothing_to (until_slash next) p q l = ((λ s. absurd s), (λ t. elim t [ inl f ↦ absurd (cc f.0) | inr g ↦ absurd (cc g.0) ]))
nothing_to (class_at negated ranges next) p q l = ((λ s. absurd s), (λ t. elim t [ inl f ↦ absurd (cc f.0) | inr g ↦ absurd (cc g.0) ]))

-- to the position itself, to the next, and to the next but one
abbrev pub Stays : Node → ℕ → Type 0
Stays node c = (is_inside node ≡ true) ⊎ ((is_star node ≡ true) × (c ≢ slash))

abbrev pub GoesOn : Bool → Node → ℕ → Type 0
GoesOn fold node c = Tests fold node c ⊎ ((is_by_slash node ≡ true) × (c ≡ slash))

abbrev pub Skips : Node → ℕ → Type 0
Skips node c = (is_middle node ≡ true) × (c ≡ slash)

abbrev pub LeadsTo : Bool → Node → ℕ → ℕ → ℕ → Type 0
LeadsTo fold node c p q = ((q ≡ p) × Stays node c) ⊎ (((q ≡ p + 1) × GoesOn fold node c) ⊎ ((q ≡ p + 2) × Skips node c))

-- no kind but the tested ones
no_other : {A B : Type 0} → (q p : ℕ) (node : Node) (c : ℕ) → is_inside node ≡ false → is_star node ≡ false → is_by_slash node ≡ false
    → is_middle node ≡ false → (A → B)
    → (((q ≡ p) × Stays node c) ⊎ (((q ≡ p + 1) × (A ⊎ ((is_by_slash node ≡ true) × (c ≡ slash)))) ⊎ ((q ≡ p + 2) × Skips node c)))
    → B × (q ≡ p + 1)
no_other q p node c a b d e f t = elim t [
  | inl s ↦ elim s.1 [ inl x ↦ absurd (cc (a, x)) | inr y ↦ absurd (cc (b, y.0)) ]
  | inr u ↦ elim u [
    | inl g ↦ elim g.1 [ inl x ↦ (f x, g.0) | inr y ↦ absurd (cc (d, y.0)) ]
    | inr k ↦ absurd (cc (e, k.1.0))
  ]
]

pub by_to : (fold : Bool) (node : Node) (c p q : ℕ) → leads_next node p ≡ true → StepsBy fold node c p q ↔ LeadsTo fold node c p q
by_to fold (literal_at k next) c p q l =
    let n = eqb-true next (p + 1) l in (
      (λ s. inr (inl ((let e = s.1 in omega (arith, n, e)), inl s.0))),
      (λ t. let both = no_other q p (literal_at k next) c refl refl refl refl (λ x. x) t in
          (both.0, (let e = both.1 in omega (arith, n, e)))),
    )
by_to fold (any_at next) c p q l =
    let n = eqb-true next (p + 1) l in (
      (λ s. inr (inl ((let e = s.1 in omega (arith, n, e)), inl s.0))),
      (λ t. let both = no_other q p (any_at next) c refl refl refl refl (λ x. x) t in (both.0, (let e = both.1 in omega (arith, n, e)))),
    )
by_to fold (class_at negated ranges next) c p q l =
    let n = eqb-true next (p + 1) l in (
      (λ s. inr (inl ((let e = s.1 in omega (arith, n, e)), inl s.0))),
      (λ t. let both = no_other q p (class_at negated ranges next) c refl refl refl refl (λ x. x) t in
          (both.0, (let e = both.1 in omega (arith, n, e)))),
    )
by_to fold (star_at next) c p q l = (
  (λ s. inl (s.1, inr (refl, s.0))),
  (λ t. elim t [
    | inl s ↦ elim s.1 [ inl x ↦ absurd (cc x) | inr y ↦ (y.1, s.0) ]
    | inr u ↦ elim u [ inl g ↦ elim g.1 [ inl x ↦ absurd x | inr y ↦ absurd (cc y.0) ] | inr k ↦ absurd (cc k.1.0) ]
  ]),
)
by_to fold (start_at next) c p q l = (
  (λ s. absurd s),
  (λ t. elim t [
    | inl s ↦ elim s.1 [ inl x ↦ absurd (cc x) | inr y ↦ absurd (cc y.0) ]
    | inr u ↦ elim u [ inl g ↦ elim g.1 [ inl x ↦ absurd x | inr y ↦ absurd (cc y.0) ] | inr k ↦ absurd (cc k.1.0) ]
  ]),
)
by_to fold (middle_at next) c p q l =
    let n = eqb-true next (p + 2) l in (
      (λ s. elim s.1 [ inl e ↦ inr (inl (e, inr (refl, s.0))) | inr e ↦ inr (inr (omega (arith, n, e), (refl, s.0))) ]),
      (λ t. elim t [
        | inl s ↦ elim s.1 [ inl x ↦ absurd (cc x) | inr y ↦ absurd (cc y.0) ]
        | inr u ↦ elim u [
          | inl g ↦ elim g.1 [ inl x ↦ absurd x | inr y ↦ (y.1, inl g.0) ]
          | inr k ↦ (k.1.1, inr (let e = k.0 in omega (arith, n, e)))
        ]
      ]),
    )
by_to fold (end_at next) c p q l = (
  (λ s. inr (inl (s.1, inr (refl, s.0)))),
  (λ t. elim t [
    | inl s ↦ elim s.1 [ inl x ↦ absurd (cc x) | inr y ↦ absurd (cc y.0) ]
    | inr u ↦ elim u [ inl g ↦ elim g.1 [ inl x ↦ absurd x | inr y ↦ (y.1, g.0) ] | inr k ↦ absurd (cc k.1.0) ]
  ]),
)
by_to fold (until_slash next) c p q l =
    let n = eqb-true next (p + 1) l in (
      (λ s. elim s [ inl e ↦ inl (e, inl refl) | inr t ↦ inr (inl ((let e = t.1 in omega (arith, n, e)), inr (refl, t.0))) ]),
      (λ t. elim t [
        | inl s ↦ inl s.0
        | inr u ↦ elim u [
          | inl g ↦ elim g.1 [ inl x ↦ absurd x | inr y ↦ inr (y.1, (let e = g.0 in omega (arith, n, e))) ]
          | inr k ↦ absurd (cc k.1.0)
        ]
      ]),
    )
by_to fold (until_end next) c p q l = (
  (λ s. inl (s, inl refl)),
  (λ t. elim t [
    | inl s ↦ s.0
    | inr u ↦ elim u [ inl g ↦ elim g.1 [ inl x ↦ absurd x | inr y ↦ absurd (cc y.0) ] | inr k ↦ absurd (cc k.1.0) ]
  ]),
)
by_to fold (fork_at firsts) c p q l = absurd (cc l)

pub tests_tested : (fold : Bool) (node : Node) (c : ℕ) → Tests fold node c → is_tested node ≡ true
tests_tested fold (literal_at k next) c t = refl
tests_tested fold (any_at next) c t = refl
tests_tested fold (class_at negated ranges next) c t = refl
tests_tested fold node c t = absurd t

module _ (nodes : List Node) (m : Masks) (is : word_of nodes ≡ Some m) where
  known_fits : Fits nodes m
  known_fits = fits nodes m is

  -- what each mask says, and how large it is
  pub tested_kind : (p : ℕ) → Has m.tested p ↔ IsKind is_tested nodes p
  tested_kind p = subst (λ (x : Masks). Has x.tested p ↔ IsKind is_tested nodes p) known_fits.same (has_kind is_tested nodes p)

  pub star_kind : (p : ℕ) → Has m.stars p ↔ IsKind is_star nodes p
  star_kind p = subst (λ (x : Masks). Has x.stars p ↔ IsKind is_star nodes p) known_fits.same (has_kind is_star nodes p)

  pub inside_kind : (p : ℕ) → Has m.insides p ↔ IsKind is_inside nodes p
  inside_kind p = subst (λ (x : Masks). Has x.insides p ↔ IsKind is_inside nodes p) known_fits.same (has_kind is_inside nodes p)

  pub slash_kind : (p : ℕ) → Has m.by_slash p ↔ IsKind is_by_slash nodes p
  slash_kind p = subst (λ (x : Masks). Has x.by_slash p ↔ IsKind is_by_slash nodes p) known_fits.same (has_kind is_by_slash nodes p)

  pub middle_kind : (p : ℕ) → Has m.middles p ↔ IsKind is_middle nodes p
  middle_kind p = subst (λ (x : Masks). Has x.middles p ↔ IsKind is_middle nodes p) known_fits.same (has_kind is_middle nodes p)

  pub free_kind : (p : ℕ) → Has m.free p ↔ IsKind is_free nodes p
  free_kind p = subst (λ (x : Masks). Has x.free p ↔ IsKind is_free nodes p) known_fits.same (has_kind is_free nodes p)

  pub start_kind : (p : ℕ) → Has m.starts p ↔ IsKind is_start nodes p
  start_kind p = subst (λ (x : Masks). Has x.starts p ↔ IsKind is_start nodes p) known_fits.same (has_kind is_start nodes p)

  pub tested_small : m.tested < 2 ^ 62
  tested_small = subst (λ (x : Masks). x.tested < 2 ^ 62) known_fits.same (mask_small is_tested nodes known_fits.short)

  pub slash_small : m.by_slash < 2 ^ 62
  slash_small = subst (λ (x : Masks). x.by_slash < 2 ^ 62) known_fits.same (mask_small is_by_slash nodes known_fits.short)

  pub middle_small : m.middles < 2 ^ 62
  middle_small = subst (λ (x : Masks). x.middles < 2 ^ 62) known_fits.same (mask_small is_middle nodes known_fits.short)

  pub free_small : m.free < 2 ^ 62
  free_small = subst (λ (x : Masks). x.free < 2 ^ 62) known_fits.same (mask_small is_free nodes known_fits.short)

  pub start_small : m.starts < 2 ^ 62
  start_small = subst (λ (x : Masks). x.starts < 2 ^ 62) known_fits.same (mask_small is_start nodes known_fits.short)

-- an inside that is free is that of an end, or of a start that is the whole glob
pub inside_end : (node : Node) → is_inside node ≡ true → is_free node ≡ true → (next : ℕ) × (node ≡ until_end next)
inside_end (until_end next) a b = (next, refl)
inside_end (until_slash next) a b = absurd (cc b)
inside_end node a b = absurd (cc a)

pub next_end : (p next : ℕ) → leads_next (until_end next) p ≡ true → next ≡ p + 1
next_end p next l = eqb-true next (p + 1) l
