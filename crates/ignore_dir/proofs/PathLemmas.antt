-- A path without its leading slash.
use Rattle.std.proofs.Common.{◌≡◌, ◌≢◌, ℕ, List, [], ◌∷◌, Option, Some, None, unwrap_or, refl, sym, ap, ◌∙◌, Bor}
use Rattle.std.proofs.Common.{MatchOption, eqb-true, eqb}
use Rattle.std.proofs.lemmas.Bool.{cond-false, false_from_ne_true}
use Rattle.ignore_base.specs.Paths.{is_absolute, without_slash}

without_slash-none : (path : List ℕ) → ((rest : List ℕ) → path ≢ 47 ∷ rest) → path ≡ without_slash path
without_slash-none [] h = refl
without_slash-none (c ∷ cs) h =
    sym (cond-false (is_absolute (c ∷ cs)) cs (c ∷ cs) (false_from_ne_true (eqb c 47) (λ e. h cs (ap (λ b. b ∷ cs) (eqb-true c 47 e)))))

pub without_slash-is : (path : List ℕ) (r : Option (Bor (List ℕ))) (given : Bor (List ℕ)) → given.now ≡ path
    → MatchOption r ((rest : List ℕ) → path ≢ 47 ∷ rest) (λ x. path ≡ 47 ∷ x.now) → (unwrap_or r given).now ≡ without_slash path
without_slash-is path None given is h = is ∙ without_slash-none path h
without_slash-is path (Some x) given is h = sym (ap without_slash h)
