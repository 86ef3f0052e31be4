use Rattle.std.proofs.Common.{◌≡◌, ◌+◌, ℕ, List, [], ◌∷◌, ◌++◌, Some, length, slice_get, refl, sym, ap, subst, ◌∙◌, inl, inr}
use Rattle.std.proofs.lemmas.List.{length_push}
use Rattle.std.proofs.lemmas.Slice.{pushed}
use Rattle.ignore_rules.specs.Rules.{Rule}
use Rattle.ignore_every.specs.Findings.{IsRightFinding}
use Rattle.ignore_every.specs.declared.findings.Finding.{Finding}
use Rattle.ignore_every.proofs.Pushes.{slice_get_pushed}
use Rattle.ignore_every.proofs.analysis.findings_of.Goals as goal

-- what is found of one more rule
one_more : (rules : List Rule) (old new : List Finding) (finding : Finding) (index : ℕ) → new ≡ old ++ finding ∷ [] → length old ≡ index
    → ((i : ℕ) (f : Finding) → slice_get old i ≡ Some f → IsRightFinding rules i f) → IsRightFinding rules index finding
    → (i : ℕ) (f : Finding) → slice_get new i ≡ Some f → IsRightFinding rules i f
one_more rules old new finding index grown size before here i f at =
    let there : slice_get (old ++ finding ∷ []) i ≡ Some f = subst (λ l. slice_get l i ≡ Some f) grown at in
    elim (slice_get_pushed old finding f i there) [
      | inl h ↦ before i f h
      | inr h ↦ (let last : index ≡ i = sym (h.0 ∙ size) in
          subst (λ k. IsRightFinding rules k f) last (subst (λ g. IsRightFinding rules index g) h.1 here))
    ]

pub loop-index-preserved : goal.loop-index-preserved
loop-index-preserved c =
    let old = c.loop-index.findings.items in
    let new = c.push.new.self.items in
    let finding = c.in_ok-finding.finding in
    let grown : new ≡ old ++ finding ∷ [] = pushed (finding ∷ []) refl c.in_ok-push.was c.push.ensures.items in
    let size = c.loop-index.invariant.each in
    record {
      each = ap length grown ∙ (length_push old finding ∙ ap (λ n. n + 1) size);
      right = one_more c.args.reached.now.rules.now.rules old new finding c.loop-index.index grown size c.loop-index.invariant.right
          c.in_ok-finding.ensures;
    }
