-- Adding a line to lines is adding it to what the handle keeps.
use Rattle.std.proofs.Common.{◌≡◌, Option, Result, Ok, Err, Some, option_map, refl, sym, ap, subst}
use Rattle.ignore_base.specs.Text.{Bytes, Path}
use Rattle.ignore_base.specs.Problem.{problem_of}
use Rattle.ignore_kept.specs.Lines.{LineAdds, Pushes, SetsOptions, read_with, source_of}
use Rattle.ignore_kept.specs.declared.kept.Kept.{Kept}
use Rattle.ignore_kept.specs.declared.kept.Kept.TheVariants as keeps
use Rattle.ignore_kept.specs.declared.kept.Lines.{Lines}
use Rattle.ignore_kept.specs.declared.rule.RuleOptions.{RuleOptions}
use Rattle.ignore_kept.specs.declared.stopped.Stopped.{Stopped}
use Rattle.ignore_kept.specs.declared.stopped.Stopped.TheVariants.{Memory, Invalid}

added : (from line : Bytes) (old : Lines) (r : Result (Unit {0}) Stopped) (new : Lines)
    → Pushes old (source_of from) line r new → LineAdds (keeps.Lines old) from line r (keeps.Lines new)
added from line old (Ok done) new p = (old.builder, new.builder, refl, refl, p.0, p.1)
added from line old (Err Invalid) new p = (old.builder, p.0, refl, ap Some p.1, p.2, p.3)
added from line old (Err Memory) new p = ap keeps.Lines p
added from line old (Err other) new p = absurd p

pub line_adds : (kept : Kept) (from line : Bytes) (old : Lines) (source : Option Path) (r : Result (Unit {0}) Stopped) (new : Lines)
    → kept ≡ keeps.Lines old → source ≡ source_of from → Pushes old source line r new → LineAdds kept from line r (keeps.Lines new)
line_adds kept from line old source r new is of p =
    subst (λ (k : Kept). LineAdds k from line r (keeps.Lines new)) (sym is)
    (added from line old r new (subst (λ (s : Option Path). Pushes old s line r new) of p))

pub sets_options : (kept : Kept) (options : RuleOptions) (old new : Lines) → kept ≡ keeps.Lines old
    → new ≡ record old { builder = read_with old.builder options } → SetsOptions kept options (Ok tt) (keeps.Lines new)
sets_options kept options old new is set =
    subst (λ (k : Kept). SetsOptions k options (Ok tt) (keeps.Lines new)) (sym is)
    (old.builder, refl, ap (λ (l : Lines). Some l.builder) set, ap (λ (l : Lines). option_map problem_of l.problem) set)
