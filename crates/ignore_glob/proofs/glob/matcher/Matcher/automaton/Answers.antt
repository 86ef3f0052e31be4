use Rattle.std.proofs.Common.{◌≡◌, false, ap, sym, ◌∙◌}
use Rattle.ignore_glob.specs.Glob.{Tokens}
use Rattle.ignore_glob.specs.Matcher.{reading_of}
use Rattle.ignore_glob.specs.Reading.{Reading}
use Rattle.ignore_glob.specs.View.{tokens_view}
use Rattle.ignore_glob.proofs.SetSteps.{ok_then}
use Rattle.ignore_glob.proofs.glob.matcher.Matcher.automaton.Goals as goal

whole : (r : Reading) (ts : Tokens) → ts ≡ r.tokens → r.case_insensitive ≡ false → record { tokens = ts; case_insensitive = false } ≡ r
whole r ts tokens case = λ i. record { tokens = tokens i; case_insensitive = sym case i }

pub returns-in_ok-tokens-in-Exact : goal.returns-in_ok-tokens-in-Exact
returns-in_ok-tokens-in-Exact c =
    let exact = c.in-Exact.exact in
    let is = whole exact (tokens_view c.in_ok-tokens-in-Exact.tokens.items)
    c.in_ok-tokens-in-Exact.ensures.tokens c.in_ok-tokens-in-Exact.ensures.case in
    ok_then c.from_tokens.result _ _ (λ automaton e. e ∙ (is ∙ ap reading_of (sym c.in-Exact.is))) c.from_tokens.ensures
