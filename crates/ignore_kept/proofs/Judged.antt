-- Rules that are judged over all paths are those that handles keep.
use Rattle.std.proofs.Common.{◌≡◌, Bool, Result, Ok, Err, IfOk, IfErr, refl, sym, ap, subst}
use Rattle.ignore_every.specs.Verdicts.{IsComparison}
use Rattle.ignore_every.specs.declared.error.Error.{Error}
use Rattle.ignore_every.specs.declared.error.Error.TheVariants as every
use Rattle.ignore_every.specs.declared.said.Comparison.{Comparison}
use Rattle.ignore_rules.specs.Rules.{Ruleset}
use Rattle.ignore_kept.specs.Asks.{rules_of}
use Rattle.ignore_kept.specs.Comparing.{Compares, counted_by}
use Rattle.ignore_kept.specs.Findings.{AreFindings, Finds}
use Rattle.ignore_kept.specs.Judging.{IsUnjudged, search_stop}
use Rattle.ignore_kept.specs.declared.findings.Findings.{Findings}
use Rattle.ignore_kept.specs.declared.kept.Kept.{Kept}
use Rattle.ignore_kept.specs.declared.kept.Kept.TheVariants as keeps
use Rattle.ignore_kept.specs.declared.stopped.Stopped.{Stopped}
use Rattle.ignore_kept.specs.declared.stopped.Stopped.TheVariants.{Memory, Invalid, TooLarge}

-- a search that has no result says one of three reasons
searched : (error : Error) → IsUnjudged (search_stop error)
searched every.TooLarge = tt
searched every.Rejected = tt
searched every.Memory = tt

pub unjudged : (error : Error) (stopped : Stopped) → stopped ≡ search_stop error → IsUnjudged stopped
unjudged error stopped is = subst (λ (s : Stopped). IsUnjudged s) (sym is) (searched error)

pub unjudged_full : (stopped : Stopped) → stopped ≡ Memory → IsUnjudged stopped
unjudged_full stopped is = subst (λ (s : Stopped). IsUnjudged s) (sym is) tt

-- what is found is of the rules that a handle keeps
pub finds : (kept : Kept) (rules : Ruleset) (found : Findings) → kept ≡ keeps.Rules rules → AreFindings rules.rules found
    → Finds kept (Ok (keeps.Findings found))
finds kept rules found is h = (rules, found, ap rules_of is, h, refl)

pub finds_none : (kept : Kept) (rules : Ruleset) (stopped : Stopped) → kept ≡ keeps.Rules rules → IsUnjudged stopped
    → Finds kept (Err stopped)
finds_none kept rules Memory is why = tt
finds_none kept rules Invalid is why = (rules, ap rules_of is)
finds_none kept rules TooLarge is why = (rules, ap rules_of is)
finds_none kept rules other is why = absurd why

-- what is compared are the rules that two handles keep
pub compares : (old new : Kept) (before after : Ruleset) (only_ignored : Bool) (given : Result Comparison Stopped) → old ≡ keeps.Rules before
    → new ≡ keeps.Rules after → IfOk given (IsComparison (counted_by only_ignored) before.rules after.rules)
    → IfErr given IsUnjudged → Compares old new only_ignored given
compares old new before after only_ignored (Ok comparison) is there same why =
    (before, after, ap rules_of is, ap rules_of there, same)
compares old new before after only_ignored (Err Memory) is there same why = tt
compares old new before after only_ignored (Err Invalid) is there same why = ((before, ap rules_of is), (after, ap rules_of there))
compares old new before after only_ignored (Err TooLarge) is there same why = ((before, ap rules_of is), (after, ap rules_of there))
compares old new before after only_ignored (Err other) is there same why = absurd why
