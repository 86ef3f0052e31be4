use Rattle.std.proofs.lemmas.Str.{IsUtf8-string_bytes}
use Rattle.ignore_glob.specs.declared.glob.kind.Kind.TheVariants.{Whole, Name, End}
use Rattle.ignore_glob.proofs.ExactLemmas.{form_here}
use Rattle.ignore_glob.proofs.glob.exact.Exact.key.Goals as goal

pub returns-in-Whole : goal.returns-in-Whole
returns-in-Whole c =
    form_here _ Whole _ _ _ c.in_ok-text.ensures.cases c.in-Whole.is c.self.view_is (IsUtf8-string_bytes c.self.inside.text) c.self.invariant

pub returns-in-Name : goal.returns-in-Name
returns-in-Name c =
    form_here _ Name _ _ _ c.in_ok-text.ensures.cases c.in-Name.is c.self.view_is (IsUtf8-string_bytes c.self.inside.text) c.self.invariant

pub returns-in-End : goal.returns-in-End
returns-in-End c =
    form_here _ End _ _ _ c.in_ok-text.ensures.cases c.in-End.is c.self.view_is (IsUtf8-string_bytes c.self.inside.text) c.self.invariant
