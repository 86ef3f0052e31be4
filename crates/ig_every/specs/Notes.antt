-- Rules with `!` without which a file ignores the same.
use Rattle.std.specs.Prelude.{◌≡◌, ℕ, ◌+◌, true, List, [], ◌∷◌, ◌++◌, Option, None, Some, drop, slice_get, take}
use Rattle.ignore_every.specs.Verdicts.{SaySame}
use Rattle.ignore_every.specs.declared.said.Counted.TheVariants.{Ignored}
use Rattle.ignore_rules.specs.Rules.{AddsLine, Building, Rule, built}
use Rattle.ig_every.specs.Judged.{IsWritten, line_in}
use Rattle.ig_every.specs.Reading.{begun_by}
use Rattle.ig_every.specs.declared.diagnostic.Diagnostic.{Diagnostic}
use Rattle.ig_every.specs.declared.diagnostic.Wrong.TheVariants.{NoEffect}
use Rattle.ig_every.specs.declared.reading.HowRead.{HowRead}

-- all rules but the one with an index
abbrev pub others : List Rule → ℕ → List Rule
others rules index = take index rules ++ drop (index + 1) rules

-- the lines of rules, added in turn, lead from the old builder to the new one
abbrev pub AddsTexts : List Rule → Building → Building → Type 0
AddsTexts [] old new = new ≡ old
AddsTexts (rule ∷ rules) old new = (between : Building) × AddsLine old None rule.original between × AddsTexts rules between new

-- a file of the lines of the other rules ignores the same paths
pub record IsIdle (how : HowRead) (rules : List Rule) (index : ℕ) : Type 0 where
  pub rest : Building
  pub read : AddsTexts (others rules index) (begun_by how) rest
  pub same : SaySame Ignored (built rest).rules rules

-- a rule has a `!`
abbrev pub IsMarked : Option Rule → Type 0
IsMarked None = ⊥
IsMarked (Some rule) = rule.is_whitelist ≡ true

-- the rule with an index has a `!` and re-includes nothing, and nothing else is wrong with it
pub record IsNote (how : HowRead) (rules : List Rule) (found : List (Option Diagnostic)) (index : ℕ) (d : Diagnostic) : Type 0 where
  pub marked : IsMarked (slice_get rules index)
  pub well : slice_get found index ≡ Some None
  pub idle : IsIdle how rules index
  pub line : d.line ≡ line_in rules index
  pub written : IsWritten d.rule (slice_get rules index)
  pub wrong : d.wrong ≡ NoEffect

-- of the rules before an index, in their order, some have such notes
pub data AreNotes (how : HowRead) (rules : List Rule) (found : List (Option Diagnostic)) : ℕ → List Diagnostic → Type 0 where
  none_yet : AreNotes how rules found 0 []
  passed : (index : ℕ) (notes : List Diagnostic) → AreNotes how rules found index notes → AreNotes how rules found (index + 1) notes
  noted : (index : ℕ) (notes : List Diagnostic) (d : Diagnostic) → AreNotes how rules found index notes
      → IsNote how rules found index d → AreNotes how rules found (index + 1) (notes ++ d ∷ [])
