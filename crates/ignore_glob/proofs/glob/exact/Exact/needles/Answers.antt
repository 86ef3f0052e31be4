use Rattle.std.proofs.Common.{refl, sym, inl, subst}
use Rattle.std.proofs.lemmas.Result.{IfOk-weaker}
use Rattle.std.proofs.lemmas.Str.{IsUtf8-string_bytes}
use Rattle.ignore_glob.specs.Needles.{HasOneOf}
use Rattle.ignore_glob.proofs.ExactLemmas.{form_here, has_literals}
use Rattle.ignore_glob.proofs.glob.exact.Exact.needles.Goals as goal

pub returns : goal.returns
returns c =
    let kind = c.self.inside.kind in
    let key = c.as_str.result.now in
    let now = c.args.self.now in
    let form = form_here kind kind _ key now c.as_str.ensures.value refl c.self.view_is (IsUtf8-string_bytes c.self.inside.text) c.self.invariant in
    IfOk-weaker c.alone.result _ _ (λ needles e text fits m.
    subst (λ l. HasOneOf l text) (sym e) (inl (has_literals kind key text now form fits m))) c.alone.ensures
