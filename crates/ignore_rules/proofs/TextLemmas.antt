-- Prefixes, suffixes and slashes of a text, as the calls that search for them report them.
use Rattle.std.proofs.Common.{◌≡◌, ◌-◌, ℕ, true, false, List, length, take, drop, Option, Some, None, MatchOption, Bor, sym, ◌∙◌, ap, subst}
use Rattle.std.proofs.Common.{arith, cond}
use Rattle.std.specs.Option.{unwrap_or}
use Rattle.std.specs.Str.{IsCharBoundary}
use Rattle.std.specs.Str.Pattern.{FindsTextPrefix, FindsTextSuffix, StripsPrefix, StripsSuffix}
use Rattle.std.proofs.lemmas.Str.Pattern.{starts_text, ends_text}
use Rattle.ignore_rules.specs.Line.{has_prefix, has_suffix, without_prefix, without_suffix}

-- `strip_prefix`, or else the text itself
pub strip_start : (start text : List ℕ) (r : Option (Bor (List ℕ))) (whole : Bor (List ℕ)) → whole.now ≡ text
    → MatchOption r (FindsTextPrefix start text None) (λ x. StripsPrefix (FindsTextPrefix start) text x.now)
    → (unwrap_or r whole).now ≡ without_prefix start text
strip_start start text None whole same h =
    let test : has_prefix start text ≡ false = sym (starts_text false start text h) in
    same ∙ sym (ap (λ b. cond b (drop (length start) text) text) test)
strip_start start text (Some x) whole same (n, found, cut, fits) =
    let test : has_prefix start text ≡ true = sym (starts_text true start text
    (n, found, subst (λ k. IsCharBoundary text k) (sym found.0) found.2)) in
    cut ∙ (ap (λ k. drop k text) found.0 ∙ sym (ap (λ b. cond b (drop (length start) text) text) test))

-- `strip_suffix`, or else the text itself
pub strip_end : (end text : List ℕ) (r : Option (Bor (List ℕ))) (whole : Bor (List ℕ)) → whole.now ≡ text
    → MatchOption r (FindsTextSuffix end text None) (λ x. StripsSuffix (FindsTextSuffix end) text x.now)
    → (unwrap_or r whole).now ≡ without_suffix end text
strip_end end text None whole same h =
    let test : has_suffix end text ≡ false = sym (ends_text false end text h) in
    same ∙ sym (ap (λ b. cond b (take (length text - length end) text) text) test)
strip_end end text (Some x) whole same (n, found, cut, fits) =
    let test : has_suffix end text ≡ true = sym (ends_text true end text
    (n, found, omega arith, subst (λ k. IsCharBoundary text (length text - k)) (sym found.0) found.2)) in
    cut ∙ (ap (λ k. take (length text - k) text) found.0 ∙ sym (ap (λ b. cond b (take (length text - length end) text) text) test))
