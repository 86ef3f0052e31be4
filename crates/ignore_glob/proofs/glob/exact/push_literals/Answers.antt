use Rattle.std.proofs.Common.{◌≡◌, ◌++◌, ◌∷◌, [], ℕ, List, map, refl, sym, ap, ◌∙◌}
use Rattle.std.proofs.lemmas.Iterator.{YieldsList-from_chars}
use Rattle.std.proofs.lemmas.Iterator.Consumers.{YieldsList-end}
use Rattle.ignore_glob.specs.Glob.{literal}
use Rattle.ignore_glob.specs.View.{view}
use Rattle.ignore_glob.proofs.glob.exact.push_literals.Goals as goal

same : (xs : List ℕ) → map (λ c. c) xs ≡ xs
same [] = refl
same (c ∷ xs) = ap (λ l. c ∷ l) (same xs)

pub returns : goal.returns
returns c =
    let ended = YieldsList-end
    (YieldsList-from_chars c.args.text.now c.utf8.text cc) c.loop-c.yielded _ c.loop-c.yielded_by _ _ c.in-None.is c.next.ensures.steps in
    c.loop-c.invariant.all ∙ ap (λ cs. map view c.args.tokens.now.items ++ map literal cs) (sym (same c.loop-c.yielded) ∙ ended.0)
