use Rattle.std.proofs.Common.{sym, ap, ◌∙◌}
use Rattle.std.proofs.lemmas.Str.{IsUtf8-string_bytes}
use Rattle.ignore_glob.specs.Forms.{key_form}
use Rattle.ignore_glob.specs.declared.glob.kind.Kind.TheVariants.{Whole, Name, End}
use Rattle.ignore_glob.proofs.ExactLemmas.{read_exact}
use Rattle.ignore_glob.proofs.glob.exact.exact_of.Goals as goal

pub returns-in-Whole : goal.returns-in-Whole
returns-in-Whole c =
    c.new.ensures
    ∙ read_exact Whole _ _ _ (sym (ap key_form c.in-Whole.is) ∙ c.in_ok-text.ensures) (IsUtf8-string_bytes c.in-Whole.text) c.if-case_insensitive.false

pub returns-in-Name : goal.returns-in-Name
returns-in-Name c =
    c.new-in-Name.ensures
    ∙ read_exact Name _ _ _ (sym (ap key_form c.in-Name.is) ∙ c.in_ok-text.ensures) (IsUtf8-string_bytes c.in-Name.text) c.if-case_insensitive.false

pub returns-in-End : goal.returns-in-End
returns-in-End c =
    c.new-in-End.ensures
    ∙ read_exact End _ _ _ (sym (ap key_form c.in-End.is) ∙ c.in_ok-text.ensures) (IsUtf8-string_bytes c.in-End.text) c.if-case_insensitive.false
