-- What is wrong with a rule, from what was found of it.
use Rattle.std.proofs.Common.{◌≡◌, ◌<◌, ℕ, true, false, List, Some, map, slice_get, string_bytes, sym, subst}
use Rattle.ignore_base.specs.Text.{Bytes}
use Rattle.ignore_every.specs.Findings.{AreReasons, DecidesNever, IsExample}
use Rattle.ignore_every.specs.declared.findings.Example.{Example}
use Rattle.ignore_rules.specs.Rules.{Rule}
use Rattle.ig_every.specs.Judged.{IsAgain, IsHidden, IsNamed, IsOverruled, IsSo, IsWritten, line_in}
use Rattle.ig_every.specs.declared.diagnostic.Diagnostic.{Diagnostic}

-- a rule that is there is written as it is
pub written : (rules : List Rule) (index : ℕ) (rule : Rule) (text : Bytes) → slice_get rules index ≡ Some rule → rule.original ≡ text
    → IsWritten text (slice_get rules index)
written rules index rule text at is = subst (IsWritten text) (sym at) is

-- what is wrong with a rule names it
pub is_named : (rules : List Rule) (index : ℕ) (text : Bytes) (d : Diagnostic) → IsWritten text (slice_get rules index)
    → d.rule ≡ text → d.line ≡ line_in rules index → IsSo rules index text d.wrong → IsNamed rules index d
is_named rules index text d here is line so =
    record {
      line = line;
      written = subst (λ (t : Bytes). IsWritten t (slice_get rules index)) (sym is) here;
      wrong = subst (λ (t : Bytes). IsSo rules index t d.wrong) (sym is) so;
    }

-- a later rule is written in the same way
pub is_again : (rules : List Rule) (index place : ℕ) (one text : Bytes) (line : ℕ) → index < place → IsWritten one (slice_get rules place)
    → one ≡ text → line ≡ line_in rules place → IsAgain rules index text line
is_again rules index place one text line later there same number =
    record {
      place = place;
      later = later;
      written = subst (λ (t : Bytes). IsWritten t (slice_get rules place)) same there;
      number = number;
    }

-- a rule is overruled by the rules that are named
pub is_overruled : (rules : List Rule) (index : ℕ) (named lines : List ℕ) → DecidesNever false rules index → AreReasons rules index named
    → lines ≡ map (line_in rules) named → IsOverruled rules index lines
is_overruled rules index named lines never reasons numbers =
    record { never = never; named = named; reasons = reasons; numbers = numbers }

-- a rule decides in ignored folders alone
pub is_hidden : (rules : List Rule) (index : ℕ) (example : Example) (folder : Bytes) (line : ℕ) → DecidesNever true rules index
    → IsExample rules index example → folder ≡ string_bytes example.folder → line ≡ line_in rules example.rule
    → IsHidden rules index folder line
is_hidden rules index example folder line never is text number =
    record { never = never; example = example; is_example = is; folder_is = text; number = number }
