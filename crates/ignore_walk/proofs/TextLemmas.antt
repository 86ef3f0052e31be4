-- The text of a place ends with a slash, and so do those of the directories around it: their ends
-- are boundaries of characters.
use Rattle.std.proofs.Common.{◌≡◌, ℕ, ◌+◌, ◌≤◌, ◌-◌, ◌<◌, List, [], ◌∷◌, ◌++◌, length, reverse, get_or, All, sym, ap, ◌∙◌, append_assoc, subst, arith}
use Rattle.std.proofs.Math.Seq.{get_or-append_seam}
use Rattle.std.proofs.lemmas.List.{append-nil, get_or_append_left, length-append}
use Rattle.std.proofs.lemmas.List.Elements.{All-append, All-cons, All-filter, All-nil, All-weaker}
use Rattle.std.proofs.lemmas.List.Sorted.{All-permutation, IsPermutation-reverse}
use Rattle.std.proofs.lemmas.Str.{IsCharBoundary-after_ascii}
use Rattle.std.specs.Str.{IsCharBoundary, IsUtf8}
use Rattle.ignore_dir.specs.declared.dir.Dir.{Dir}
use Rattle.ignore_dir.specs.Above.{dirs_above, names_above, paths_above}
use Rattle.ignore_dir.specs.Chains.{placed_along, slashed}
use Rattle.ignore_dir.specs.Lists.{IsAfterSlash, Placed}
use Rattle.ignore_levels.specs.Levels.{counting, counts}
use Rattle.ignore_walk.specs.Branch.{Branch, placed_above, placed_at, placed_to, text_at}
use Rattle.ignore_walk.specs.Scene.{Scene}

-- a longer text
after_slash-longer : (text more : List ℕ) (offset : ℕ) → IsAfterSlash text offset → IsAfterSlash (text ++ more) offset
after_slash-longer text more offset h =
    let size : length (text ++ more) ≡ length text + length more = length-append text more in
    let low : 0 < offset = h.0 in
    let high : offset ≤ length text = h.1 in
    (low, omega arith, get_or_append_left text more 0 (offset - 1) (omega arith) ∙ h.2)

-- the end of a text that ends with a slash
after_slash-end : (text : List ℕ) → IsAfterSlash (text ++ 47 ∷ []) (length (text ++ 47 ∷ []))
after_slash-end text =
    let size : length (text ++ 47 ∷ []) ≡ length text + 1 = length-append text (47 ∷ []) in
    let last : length (text ++ 47 ∷ []) - 1 ≡ length text = omega arith in
    (omega arith, omega arith, ap (λ k. get_or (text ++ 47 ∷ []) k 0) last ∙ get_or-append_seam text 47 [] 0)

placed-longer : (text more : List ℕ) (chain : List Placed) → All (λ p. IsAfterSlash text p.1) chain → All (λ p. IsAfterSlash (text ++ more) p.1) chain
placed-longer text more chain h = All-weaker (λ p. IsAfterSlash text p.1) (λ p. IsAfterSlash (text ++ more) p.1) (λ p. after_slash-longer text more p.1) chain h

-- a text that ends with a slash, and a name with one more
one_more : (text name more : List ℕ) → ((text ++ name) ++ 47 ∷ []) ++ more ≡ text ++ (name ++ 47 ∷ more)
one_more text name more = append_assoc (text ++ name) (47 ∷ []) more ∙ append_assoc text name (47 ∷ more)

ends-slashed : (text : List ℕ) (names : List (List ℕ)) → IsAfterSlash text (length text)
    → IsAfterSlash (text ++ slashed names) (length (text ++ slashed names))
ends-slashed text [] h = subst (λ (t : List ℕ). IsAfterSlash t (length t)) (sym (append-nil text)) h
ends-slashed text (n ∷ names) h =
    subst (λ (t : List ℕ). IsAfterSlash t (length t)) (one_more text n (slashed names))
    (ends-slashed ((text ++ n) ++ 47 ∷ []) names (after_slash-end (text ++ n)))

pub after_slash-first : IsAfterSlash (47 ∷ []) 1
after_slash-first = after_slash-end []

pub boundary-after : (text : List ℕ) (offset : ℕ) → IsUtf8 text → IsAfterSlash text offset → IsCharBoundary text offset
boundary-after text offset u h =
    let low : 0 < offset = h.0 in
    let high : offset ≤ length text = h.1 in
    let slash : get_or text (offset - 1) 0 ≡ 47 = h.2 in
    let next : (offset - 1) + 1 ≡ offset = omega arith in
    subst (IsCharBoundary text) next (IsCharBoundary-after_ascii text (offset - 1) u (omega arith) (omega arith))

-- the directories along names
pub along-slashed : (text : List ℕ) (offset : ℕ) (dirs : List Dir) (names : List (List ℕ)) → offset ≡ length text → IsAfterSlash text offset
    → All (λ p. IsAfterSlash (text ++ slashed names) p.1) (placed_along offset dirs names)
along-slashed text offset [] names e h = All-nil (λ (p : Placed). IsAfterSlash (text ++ slashed names) p.1)
along-slashed text offset (d ∷ dirs) [] e h =
    All-cons (λ (p : Placed). IsAfterSlash (text ++ []) p.1) (d, offset) [] (after_slash-longer text [] offset h) (All-nil (λ (p : Placed). IsAfterSlash (text ++ []) p.1))
along-slashed text offset (d ∷ dirs) (n ∷ names) e h =
    let longer = (text ++ n) ++ 47 ∷ [] in
    let size : length longer ≡ length (text ++ n) + 1 = length-append (text ++ n) (47 ∷ []) in
    let both : length (text ++ n) ≡ length text + length n = length-append text n in
    let at : offset + length n + 1 ≡ length longer = omega arith in
    let after : IsAfterSlash longer (offset + length n + 1) = subst (IsAfterSlash longer) (sym at) (after_slash-end (text ++ n)) in
    let rest = along-slashed longer (offset + length n + 1) dirs names at after in
    All-cons (λ (p : Placed). IsAfterSlash (text ++ slashed (n ∷ names)) p.1) (d, offset) (placed_along (offset + length n + 1) dirs names)
    (after_slash-longer text (slashed (n ∷ names)) offset h)
    (subst (λ (t : List ℕ). All (λ (p : Placed). IsAfterSlash t p.1) (placed_along (offset + length n + 1) dirs names)) (one_more text n (slashed names)) rest)

module _ (g : Scene) (root : List ℕ) where
  ends : (b : Branch) → IsAfterSlash (text_at g root b) (length (text_at g root b))
  ends [] = ends-slashed (47 ∷ []) (names_above g.tree g.settings root) (after_slash-end [])
  ends (name ∷ b) =
      subst (λ (t : List ℕ). IsAfterSlash t (length t)) (append_assoc (text_at g root b) name (47 ∷ [])) (after_slash-end (text_at g root b ++ name))

  above-placed : (b : Branch) → All (λ p. IsAfterSlash (text_at g root b) p.1) (placed_above g root)
  above-placed [] =
      let far = placed_along 1 (dirs_above g.loads g.settings (paths_above g.tree g.settings root)) (names_above g.tree g.settings root) in
      All-permutation (λ (p : Placed). IsAfterSlash (text_at g root []) p.1) far (reverse far) (IsPermutation-reverse far)
      (along-slashed (47 ∷ []) 1 (dirs_above g.loads g.settings (paths_above g.tree g.settings root)) (names_above g.tree g.settings root)
      (omega arith) (after_slash-end []))
  above-placed (name ∷ b) = placed-longer (text_at g root b) (name ++ 47 ∷ []) (placed_above g root) (above-placed b)

  at-placed : (b : Branch) → All (λ p. IsAfterSlash (text_at g root b) p.1) (placed_at g root b)
  at-placed [] =
      All-cons (λ (p : Placed). IsAfterSlash (text_at g root []) p.1) ((g.loads root).0, length (text_at g root [])) [] (ends [])
      (All-nil (λ (p : Placed). IsAfterSlash (text_at g root []) p.1))
  at-placed (name ∷ b) =
      All-cons (λ (p : Placed). IsAfterSlash (text_at g root (name ∷ b)) p.1) _ (placed_at g root b) (ends (name ∷ b))
      (placed-longer (text_at g root b) (name ++ 47 ∷ []) (placed_at g root b) (at-placed b))

  -- the directories from a place up to `/` are asked about what follows slashes of a text below it
  pub after-to : (b : Branch) (name text : List ℕ) → text ≡ text_at g root b ++ name
      → All (λ p. IsAfterSlash text p.1) (counting (placed_to g root b))
  after-to b name text is =
      let own = placed-longer (text_at g root b) name (placed_at g root b) (at-placed b) in
      let far = placed-longer (text_at g root b) name (placed_above g root) (above-placed b) in
      subst (λ (t : List ℕ). All (λ (p : Placed). IsAfterSlash t p.1) (counting (placed_to g root b))) (sym is)
      (All-filter (λ (p : Placed). counts p.0) (λ (p : Placed). IsAfterSlash (text_at g root b ++ name) p.1) (placed_to g root b)
      (All-append (λ (p : Placed). IsAfterSlash (text_at g root b ++ name) p.1) (placed_at g root b) (placed_above g root) own far))
