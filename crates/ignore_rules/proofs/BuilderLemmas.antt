-- A line that was read gives its rule.
use Rattle.std.proofs.Common.{◌≡◌, ℕ, List, Some, ap, subst, ◌∙◌}
use Rattle.std.specs.Str.{chars}
use Rattle.ignore_glob.specs.declared.glob.options.Options.{Options}
use Rattle.ignore_glob.specs.Reading.{Reading}
use Rattle.ignore_glob.specs.Row.{Reads}
use Rattle.ignore_rules.specs.Line.{ParsedLine}
use Rattle.ignore_rules.specs.Rules.{Rule, LineOptions, Origin, read_rule, GivesRule}

pub gives_rule : (options : LineOptions) (used : Options) (origin : Origin) (w : ParsedLine) (text : List ℕ) (p : Reading)
    (rule : Rule) → used ≡ options.glob → text ≡ w.actual → Reads used (chars text) p.tokens → p.case_insensitive ≡ used.case_insensitive
    → rule ≡ read_rule origin w p → GivesRule options origin (Some w) (Some rule)
gives_rule options used origin w text p rule same is reads folds made =
    let read = subst (λ o. Reads o (chars text) p.tokens) same reads in
    let folded : p.case_insensitive ≡ options.glob.case_insensitive = folds ∙ ap (λ (o : Options). o.case_insensitive) same in (
      p.tokens,
      subst (λ t. Reads options.glob (chars t) p.tokens) is read,
      ap Some (made ∙ ap (λ fold. read_rule origin w (record { tokens = p.tokens; case_insensitive = fold })) folded),
    )
