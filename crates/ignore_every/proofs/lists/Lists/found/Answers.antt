use Rattle.std.proofs.Common.{◌≡◌, ◌++◌, ◌∷◌, [], ◌<◌, List, MatchOption, Some, slice_get, refl, arith, subst, sym, ap, ◌∙◌}
use Rattle.std.proofs.lemmas.Slice.{pushed}
use Rattle.ignore_every.specs.Differences.{AreDifferent}
use Rattle.ignore_every.specs.Verdicts.{AreFirstDifferentAt, SaySame}
use Rattle.ignore_every.specs.declared.said.Difference.{Difference}
use Rattle.ignore_every.proofs.Differing.{no_different, one_more}
use Rattle.ignore_every.proofs.lists.Lists.found.Goals as goal

-- the first difference, and those that are added to it
pub returns : goal.returns
returns c =
    let counted = c.args.self.now.counted in
    let old = c.args.self.now.old.now.rules in
    let new = c.args.self.now.new.now.rules in
    let most = c.args.most in
    let d = c.in-Some.difference in
    let all : List Difference = c.push_others.new.found.items in
    let grown : c.push.new.self.items ≡ c.new-found.result.items ++ d ∷ [] = pushed (d ∷ []) refl c.in_ok-push.was c.push.ensures.items in
    let one : c.push.new.self.items ≡ d ∷ [] = grown ∙ ap (λ l. l ++ d ∷ []) c.new-found.ensures.items in
    let is : AreFirstDifferentAt counted old new d =
    subst (λ o. MatchOption o (SaySame counted old new) (λ e. AreFirstDifferentAt counted old new e)) c.in-Some.is c.in_ok-first.ensures in
    let some : 0 < most = omega arith in
    let begun : AreDifferent counted old new most (d ∷ []) =
    one_more counted old new most [] (d ∷ []) d refl (no_different counted old new most) is.0 (λ i e at same. absurd (cc at)) some in
    let kept : AreDifferent counted old new most all =
    c.in_ok-push_others.ensures.kept (subst (λ ds. AreDifferent counted old new most ds) (sym one) begun) in
    let first : slice_get all 0 ≡ Some d = c.in_ok-push_others.ensures.first d (ap (λ ds. slice_get ds 0) one) in
    record {
      different = kept;
      first = λ e at. (let same : d ≡ e = cc (at, first) in subst (λ x. AreFirstDifferentAt counted old new x) same is);
      none = λ empty. (let no : slice_get [] 0 ≡ Some d = subst (λ ds. slice_get ds 0 ≡ Some d) empty first in absurd (cc no));
    }
