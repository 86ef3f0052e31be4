-- What is reported in the place of an entry, by where it is.
use Rattle.std.proofs.Common.{◌≡◌, ◌∙◌, ◌++◌, ℕ, List, Option, None, Some, Result, OnOk, ap, subst}
use Rattle.std.specs.Io.KnownBytes.{Appends}
use Rattle.std.specs.Prelude.{codes}
use Rattle.ignore_base.specs.Problem.{Problem}
use Rattle.ig_commands.specs.Reports.{after_place, bare_depth, fault_line, folder_above, line_text, placed, report_line}
use Rattle.ig_commands.specs.declared.stop.Stop.{Stop}

module _ (r : Result (Unit {0}) Stop) (a b : Option (List ℕ)) (last : ℕ → Option (List ℕ)) (p : Problem) where
  fault_is : (line : List ℕ) → line ≡ fault_line last p → OnOk r (Appends a b line) → OnOk r (Appends a b (fault_line last p))
  fault_is line is h = subst (λ (l : List ℕ). OnOk r (Appends a b l)) is h

  pub told_in : (depth : ℕ) (folder : List ℕ) → Some depth ≡ bare_depth p → Some folder ≡ folder_above last depth
      → OnOk r (Appends a b (codes "ig: " ++ after_place (Some folder) 0 (line_text p))) → OnOk r (Appends a b (fault_line last p))
  told_in depth folder is there h =
      fault_is (codes "ig: " ++ after_place (Some folder) 0 (line_text p))
      (ap (λ (f : Option (List ℕ)). codes "ig: " ++ after_place f depth (line_text p)) there
      ∙ ap (λ (d : Option ℕ). codes "ig: " ++ placed last d (line_text p)) is) h

  pub told_at : (depth : ℕ) → Some depth ≡ bare_depth p → None ≡ folder_above last depth
      → OnOk r (Appends a b (codes "ig: " ++ after_place None depth (line_text p))) → OnOk r (Appends a b (fault_line last p))
  told_at depth is there h =
      fault_is (codes "ig: " ++ after_place None depth (line_text p))
      (ap (λ (f : Option (List ℕ)). codes "ig: " ++ after_place f depth (line_text p)) there
      ∙ ap (λ (d : Option ℕ). codes "ig: " ++ placed last d (line_text p)) is) h

  pub told_bare : None ≡ bare_depth p → OnOk r (Appends a b (report_line p)) → OnOk r (Appends a b (fault_line last p))
  told_bare is h = fault_is (report_line p) (ap (λ (d : Option ℕ). codes "ig: " ++ placed last d (line_text p)) is) h
