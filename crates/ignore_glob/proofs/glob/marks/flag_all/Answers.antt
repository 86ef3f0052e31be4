use Rattle.std.proofs.Common.{rules, ◌≡◌, ◌<◌, ◌⊎◌, ◌↔◌, inl, inr, ℕ, zero, suc, List, ◌∷◌, length, arith, sym, subst}
use Rattle.std.specs.Prelude.{All, Contains}
use Rattle.std.proofs.lemmas.List.Elements.{All-tail}
use Rattle.ignore_glob.specs.Flags.{IsFlagged}
use Rattle.ignore_glob.proofs.glob.marks.flag_all.Goals as goal

head_there : (x p : ℕ) (xs : List ℕ) → p ≡ x → Contains (x ∷ xs) p
head_there x p xs e = (0, omega arith, sym e)

tail_there : (x p : ℕ) (xs : List ℕ) → Contains xs p → Contains (x ∷ xs) p
tail_there x p xs h = (suc h.0, omega (arith, h.1), h.2)

cases_there : (x p : ℕ) (xs : List ℕ) → Contains (x ∷ xs) p → (p ≡ x) ⊎ Contains xs p
cases_there x p xs (zero, lt, e) = inl (sym e)
cases_there x p xs (suc k, lt, e) = inr (k, omega (arith, lt), e)

-- a flag that was still to be set is set
moved : (mid new : ℕ → Type 0) (x : ℕ) (xs : List ℕ) → ((p : ℕ) → new p ↔ (mid p ⊎ (p ≡ x))) → (p : ℕ)
    → (new p ⊎ Contains xs p) ↔ (mid p ⊎ Contains (x ∷ xs) p)
moved mid new x xs step p = (
  λ h. elim h [
    | inl f ↦ elim ((step p).0 f) [ inl g ↦ inl g | inr e ↦ inr (head_there x p xs e) ]
    | inr m ↦ inr (tail_there x p xs m)
  ],
  λ h. elim h [
    | inl g ↦ inl ((step p).1 (inl g))
    | inr m ↦ elim (cases_there x p xs m) [ inl e ↦ inl ((step p).1 (inr e)) | inr k ↦ inr k ]
  ],
)

pub loop-first-preserved : goal.loop-first-preserved
loop-first-preserved c =
    let n = length c.args.flags.now.all.items in
    let first = c.in-Some.first.now in
    let more = c.in-Some.more.now in
    let cut : c.loop-first.rest.now ≡ first ∷ more = search rules in
    let P : List ℕ → Type 0 = λ xs. All (λ q. q < n) xs in
    let mid : ℕ → Type 0 = IsFlagged c.loop-first.flags.all.items in
    let Q : ℕ → List ℕ → Type 0 = λ p xs. (mid p ⊎ Contains xs p)
    ↔ (IsFlagged c.args.flags.now.all.items p ⊎ Contains c.args.positions.now p) in
    record {
      len = omega (arith, c.set.ensures.len, c.loop-first.invariant.len);
      within = All-tail (λ q. q < n) first more (subst P cut c.loop-first.invariant.within);
      flagged = λ p.
          let step = moved mid (IsFlagged c.set.new.self.all.items) first more c.set.ensures.flagged p in
          let before = subst (Q p) cut (c.loop-first.invariant.flagged p) in
          (λ h. before.0 (step.0 h), λ h. step.1 (before.1 h));
    }
