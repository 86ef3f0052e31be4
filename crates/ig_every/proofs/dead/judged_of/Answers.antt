use Rattle.std.proofs.Common.{◌≡◌, ◌+◌, ℕ, List, [], ◌∷◌, ◌++◌, Option, Some, length, slice_get, refl, sym, ap, subst, ◌∙◌, inl, inr}
use Rattle.std.proofs.lemmas.List.{length_push}
use Rattle.std.proofs.lemmas.Slice.{pushed}
use Rattle.ignore_rules.specs.Rules.{Rule}
use Rattle.ig_every.specs.Judged.{IsJudged}
use Rattle.ig_every.specs.declared.diagnostic.Diagnostic.{Diagnostic}
use Rattle.ignore_every.proofs.Pushes.{slice_get_pushed}
use Rattle.ig_every.proofs.dead.judged_of.Goals as goal

-- what is wrong with one more rule
one_more : (rules : List Rule) (old new : List (Option Diagnostic)) (one : Option Diagnostic) (index : ℕ) → new ≡ old ++ one ∷ [] → length old ≡ index
    → ((i : ℕ) (d : Option Diagnostic) → slice_get old i ≡ Some d → IsJudged rules i d) → IsJudged rules index one
    → (i : ℕ) (d : Option Diagnostic) → slice_get new i ≡ Some d → IsJudged rules i d
one_more rules old new one index grown size before here i d at =
    let there : slice_get (old ++ one ∷ []) i ≡ Some d = subst (λ l. slice_get l i ≡ Some d) grown at in
    elim (slice_get_pushed old one d i there) [
      | inl h ↦ before i d h
      | inr h ↦ (let last : index ≡ i = sym (h.0 ∙ size) in
          subst (λ k. IsJudged rules k d) last (subst (λ g. IsJudged rules index g) h.1 here))
    ]

pub loop-index-preserved : goal.loop-index-preserved
loop-index-preserved c =
    let old = c.loop-index.all.items in
    let new = c.push.new.self.items in
    let one = c.in_ok-one.one in
    let grown : new ≡ old ++ one ∷ [] = pushed (one ∷ []) refl c.in_ok-push.was c.push.ensures.items in
    let size = c.loop-index.invariant.each in
    record {
      each = ap length grown ∙ (length_push old one ∙ ap (λ n. n + 1) size);
      right = one_more c.args.rules.now old new one c.loop-index.index grown size c.loop-index.invariant.right c.in_ok-one.ensures;
    }
