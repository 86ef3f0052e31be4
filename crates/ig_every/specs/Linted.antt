-- What is wrong with a file of rules.
use Rattle.std.specs.Prelude.{◌≡◌, ◌≢◌, Bool, false, [], length, Option, None, IfSome}
use Rattle.ignore_base.specs.Problem.{Problem}
use Rattle.ignore_base.specs.Text.{Bytes, Path}
use Rattle.ignore_every.specs.declared.error.Error.TheVariants.{Memory}
use Rattle.ignore_rules.specs.Rules.{Ruleset}
use Rattle.ig_every.specs.Judged.{AreJudged}
use Rattle.ig_every.specs.Lines.{AreWrongLines}
use Rattle.ig_every.specs.Notes.{AreNotes}
use Rattle.ig_every.specs.Reading.{IsRead, input_file}
use Rattle.ig_every.specs.declared.linted.Linted.{Linted}
use Rattle.ig_every.specs.declared.linted.Verdicts.{Verdicts}
use Rattle.ig_every.specs.declared.reading.HowRead.{HowRead}

-- what is wrong with each of the rules of a file, and notes on some, where they are wanted; nothing is
-- said of them where it is said that they weren't judged, for another reason than memory
pub record AreVerdicts (how : HowRead) (has_notes : Bool) (rules : Ruleset) (v : Verdicts) : Type 0 where
  pub judged : v.refused ≡ None → AreJudged rules.rules v.rules.items
  pub noted : v.refused ≡ None → AreNotes how rules.rules v.rules.items (length rules.rules) v.notes.items
  pub unnoted : has_notes ≡ false → v.notes.items ≡ []
  pub unjudged : IfSome v.refused (λ why. (why ≢ Memory) × (v.rules.items ≡ []) × (v.notes.items ≡ []))

-- what is wrong with the lines of a file by themselves, and with the rules that were read of it
pub record IsLinted (how : HowRead) (path : Path) (bytes : Bytes) (has_notes : Bool) (l : Linted) : Type 0 where
  pub lines : AreWrongLines how bytes l.lines.items
  pub rules : Ruleset
  pub problem : Option Problem
  pub read : IsRead how path (input_file bytes) rules problem
  pub judged : AreVerdicts how has_notes rules l.verdicts
