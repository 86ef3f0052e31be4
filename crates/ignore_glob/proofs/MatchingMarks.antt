-- The end is marked at the end of the text exactly where a path by the text leads there.
use Rattle.std.proofs.Common.{◌≡◌, ◌≤◌, ◌↔◌, inl, inr, ℕ, zero, suc, Bool, List, [], ◌∷◌, length, drop, arith, slice_get, Some, refl, sym}
use Rattle.std.proofs.Common.{subst}
use Rattle.std.proofs.lemmas.Option.{slice_get_within}
use Rattle.std.proofs.Math.Seq.{drop-length}
use Rattle.ignore_glob.specs.Glob.{Tokens}
use Rattle.ignore_glob.specs.Matches.{tokens_match, glob_matches}
use Rattle.ignore_glob.specs.Nodes.{Node, StepsByNothing, Reached, here, on, SteppedTo, Marked, AreNodes, AreGlobNodes}
use Rattle.ignore_glob.proofs.NodePaths.{Path, ends, nothing, character, matching_path, lone_path}

drop_from_slice_get : (o : ℕ) (text : List ℕ) (c : ℕ) → slice_get text o ≡ Some c → drop o text ≡ c ∷ drop (suc o) text
drop_from_slice_get o [] c at = absurd (cc at)
drop_from_slice_get zero (t ∷ ts) c at = cc
drop_from_slice_get (suc o) (t ∷ ts) c at = drop_from_slice_get o ts c at

slice_get_from_drop : (o : ℕ) (text : List ℕ) (c : ℕ) (u : List ℕ) → c ∷ u ≡ drop o text
    → (slice_get text o ≡ Some c) × (u ≡ drop (suc o) text)
slice_get_from_drop zero [] c u e = absurd (cc e)
slice_get_from_drop (suc o) [] c u e = absurd (cc e)
slice_get_from_drop zero (t ∷ ts) c u e = (cc, cc)
slice_get_from_drop (suc o) (t ∷ ts) c u e = slice_get_from_drop o ts c u e

past_all : (o : ℕ) (text : List ℕ) → [] ≡ drop o text → length text ≤ o
past_all zero [] e = omega arith
past_all (suc o) [] e = omega arith
past_all zero (t ∷ ts) e = absurd (cc e)
past_all (suc o) (t ∷ ts) e = omega (arith, past_all o ts e)

module _ (fold : Bool) (nodes : List Node) (text : List ℕ) where
  -- a mark from which a path leads to the end has a path from the first position
  mutual
    reached_back : (S : ℕ → Type 0) (w : List ℕ) → ((q : ℕ) → S q → Path fold nodes q w → Path fold nodes 0 text) → (q : ℕ)
        → Reached nodes S q → Path fold nodes q w → Path fold nodes 0 text
    reached_back S w from q (here k s) r = from k s r
    reached_back S w from q (on p k node m at s) r = reached_back S w from p m (nothing p k w node at s r)

  marks_back : (o q : ℕ) → Marked fold nodes text o q → Path fold nodes q (drop o text) → Path fold nodes 0 text
  marks_back zero q m r = reached_back (λ k. k ≡ 0) text (λ k e t. let P : ℕ → Type 0 = λ n. Path fold nodes n text in subst P e t) q m r
  marks_back (suc o) q m r =
      reached_back (λ k. (c : ℕ) × (slice_get text o ≡ Some c) × SteppedTo fold nodes (Marked fold nodes text o) c k) (drop (suc o) text)
      (λ k s t. let P : List ℕ → Type 0 = λ v. Path fold nodes s.2.0 v in
      marks_back o s.2.0 s.2.2 (subst P (sym (drop_from_slice_get o text s.0 s.1))
      (character s.2.0 k s.0 (drop (suc o) text) s.2.1 s.2.3 s.2.4 t)))
      q m r

  pub marked_on : (o p q : ℕ) (node : Node) → Marked fold nodes text o p → slice_get nodes p ≡ Some node → StepsByNothing node p q
      → Marked fold nodes text o q
  marked_on zero p q node m at s = on p q node m at s
  marked_on (suc o) p q node m at s = on p q node m at s

  path_marks : (p : ℕ) (w : List ℕ) → Path fold nodes p w → (o : ℕ) → Marked fold nodes text o p → w ≡ drop o text → o ≤ length text
      → Marked fold nodes text (length text) (length nodes)
  path_marks n w ends o m e h =
      let same : o ≡ length text = omega (arith, past_all o text e) in
      let P : ℕ → Type 0 = λ k. Marked fold nodes text k (length nodes) in
      subst P same m
  path_marks n w (nothing p q u k at s r) o m e h = path_marks q u r o (marked_on o p q k m at s) e h
  path_marks n w (character p q c u k at s r) o m e h =
      let next = slice_get_from_drop o text c u e in
      path_marks q u r (suc o) (here q (c, next.0, (p, k, m, at, s))) next.1 (let l = slice_get_within text o c next.0 in omega (arith, l))

  pub tokens_mark : (ts : Tokens) → AreNodes nodes ts → (tokens_match fold ts text ↔ Marked fold nodes text (length text) (length nodes))
  tokens_mark ts at = (
    (λ h. path_marks 0 text ((matching_path fold nodes ts text at).0 h) 0 (here 0 refl) refl (omega arith)),
    (λ m. (matching_path fold nodes ts text at).1 (marks_back (length text) (length nodes) m (rw drop-length ends))),
  )

  -- the whole glob matches exactly where the end is marked at the end of the text
  pub matching_mark : (ts : Tokens) → AreGlobNodes nodes ts
      → (glob_matches fold ts text ↔ Marked fold nodes text (length text) (length nodes))
  matching_mark ts at = elim at [
    | inl lone ↦ ((λ h. path_marks 0 text (lone_path fold nodes text lone.1) 0 (here 0 refl) refl (omega arith)), (λ m. inl lone.0))
    | inr plain ↦ let both = tokens_mark ts plain.1 in
        ((λ h. elim h [ inl lone ↦ absurd (plain.0 lone) | inr whole ↦ both.0 whole ]), (λ m. inr (both.1 m)))
  ]
