-- Worked: two files that can't be compared, of which nothing is wrong.
use Rattle.std.proofs.Common.{◌≡◌, ◌||◌, ℕ, Bool, true, false, [], ◌++◌, Option, ap, inl, inr, sym, subst, ◌∙◌}
use Rattle.ignore_base.specs.Text.{Bytes}
use Rattle.ig_options.specs.declared.options.Options.{Options}
use Rattle.ig_commands.specs.Same.{Compares, do_differ, is_told, is_unread, refused_line, status_by, told}
use Rattle.ig_commands.specs.declared.sides.Sides.{Sides}

-- the status of files that can be compared, and of which nothing was reported, is 0 or 1
below_2 : (differ : Bool) → 2 ≡ status_by false differ → ⊥
below_2 true is = cc is
below_2 false is = cc is

-- the status isn't 2 where nothing is reported
not_in_silence : (o : Options) (most : Option ℕ) (sides : Sides) (out : Bytes → Type 0) → (is_unread sides.old || is_unread sides.new) ≡ false
    → is_told o sides ≡ false → told o sides ≡ [] → Compares o most sides 2 out (λ bs. bs ≡ []) → ⊥
not_in_silence o most sides out read right nothing (inl (unread, status, written, reported)) = cc (unread, read)
not_in_silence o most sides out read right nothing (inr (both, inl (found, are, status, written, reported))) =
    below_2 (do_differ found) (status ∙ ap (λ t. status_by t (do_differ found)) right)
not_in_silence o most sides out read right nothing (inr (both, inr (reason, known, status, written, reported))) =
    let line : refused_line o reason ≡ [] = subst (λ bs. bs ++ refused_line o reason ≡ []) nothing reported in cc line
