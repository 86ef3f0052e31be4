-- What is told of dead rules is so.
use Rattle.std.proofs.Common.{◌≡◌, ℕ, true, List, Option, None, Some, slice_get, refl, sym, ap, subst, inl, inr, arith}
use Rattle.ignore_base.specs.Text.{Bytes}
use Rattle.ignore_every.specs.Findings.{AreRightFindings, DecidesNever, IsReason, IsRightFinding}
use Rattle.ignore_every.specs.declared.findings.Finding.{Finding}
use Rattle.ignore_every.specs.declared.findings.Finding.TheVariants.{Live, DeadByFolders, Overruled, Unreached}
use Rattle.ignore_rules.specs.Rules.{Rule}
use Rattle.ignore_kept.specs.Findings.{IsToldRight, TellsDead, TellsIndex, TellsRule, named_at, named_by, parts_of, told_as}
use Rattle.ignore_kept.specs.declared.findings.Dead.{Dead}

-- an index that is told is there
index_told : (o : Option ℕ) (other : ℕ) → TellsIndex o 0 other → o ≡ Some other
index_told None other h = absurd (omega (arith, h.0))
index_told (Some index) other h = ap Some (sym h.1)

module _ (rules : List Rule) (findings : List Finding) (all : AreRightFindings rules findings) where
  rule_right : (rule : ℕ) (o : Option Finding) (dead : Dead) (text : Bytes) → slice_get findings rule ≡ o → DecidesNever true rules rule
      → TellsRule rule o 0 dead text → IsToldRight rules dead text
  rule_right rule None dead text at never h = absurd (omega (arith, h.0))
  rule_right rule (Some finding) dead text at never (inl (ok, is, texts)) =
      let same : dead.rule ≡ rule = ap (λ (d : Dead). d.rule) is in
      record {
        finding = finding;
        never = subst (DecidesNever true rules) (sym same) never;
        right = subst (λ (k : ℕ). IsRightFinding rules k finding) (sym same) (all.right rule finding at);
        told = subst (λ (k : ℕ). dead ≡ told_as k (parts_of finding)) (sym same) is;
        texts = texts;
      }
  rule_right rule (Some finding) dead text at never (inr h) = absurd (omega (arith, h.0))

  -- what is told of a rule that decides on no question which is reached
  pub dead_right : (o : Option ℕ) (dead : Dead) (text : Bytes) → ((rule : ℕ) → o ≡ Some rule → DecidesNever true rules rule)
      → TellsDead findings o 0 dead text → IsToldRight rules dead text
  dead_right None dead text never h = absurd (omega (arith, h.0))
  dead_right (Some rule) dead text never h = rule_right rule (slice_get findings rule) dead text refl (never rule refl) h

  named_right : (rule : ℕ) (o : Option Finding) (number other : ℕ) → slice_get findings rule ≡ o → TellsIndex (named_by o number) 0 other
      → IsReason rules rule other
  named_right rule None number other at h = absurd (omega (arith, h.0))
  named_right rule (Some (Live question)) number other at h = absurd (omega (arith, h.0))
  named_right rule (Some (DeadByFolders example)) number other at h = absurd (omega (arith, h.0))
  named_right rule (Some (Overruled named)) number other at h =
      (all.right rule (Overruled named) at).1.each other (number, index_told (slice_get named.items number) other h)
  named_right rule (Some Unreached) number other at h = absurd (omega (arith, h.0))

  -- what is told to overrule a rule
  pub reason_told : (o : Option ℕ) (rule number other : ℕ) → o ≡ Some rule → TellsIndex (named_at findings o number) 0 other
      → IsReason rules rule other
  reason_told o rule number other is h =
      named_right rule (slice_get findings rule) number other refl
      (subst (λ (k : Option ℕ). TellsIndex (named_at findings k number) 0 other) is h)
