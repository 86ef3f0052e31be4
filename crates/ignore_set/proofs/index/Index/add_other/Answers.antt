use Rattle.std.proofs.Common.{ℕ, List, IfSome, ap, ◌∙◌, ◌++◌, map, subst, string_bytes}
use Rattle.std.specs.Str.{chars, IsUtf8}
use Rattle.std.proofs.lemmas.Result.{IfOk-weaker}
use Rattle.ignore_glob.specs.Ends.{HasParent}
use Rattle.ignore_glob.specs.Reading.{Matches}
use Rattle.ignore_set.proofs.AddLemmas.{if_ok3, add_needles, add_parent}
use Rattle.ignore_set.proofs.OtherLemmas.{needles_at-strings}
use Rattle.ignore_set.proofs.index.Index.add_other.Goals as goal

pub returns-in-Some : goal.returns-in-Some
returns-in-Some c = if_ok3 c.put.result c.put.ensures.lists c.put.ensures.own c.put.ensures.others
    (λ lists own others. (
      c.requires.none,
      λ ms m was size is form.
          add_parent c.args.self.now c.put.new.self (string_bytes c.in-Some.parent) c.args.index (lists, own, others) c.requires.none
          ms m was size form (λ text utf8 h. subst (λ o. IfSome o (λ p. (t : List ℕ) → IsUtf8 t → Matches c.args.pattern.now (chars t)
          → HasParent (string_bytes p) t)) c.in-Some.is c.in_ok-parent.ensures text utf8 (subst (λ r. Matches r (chars text)) is h)),
    ))

pub returns-in-None : goal.returns-in-None
returns-in-None c =
    let texts = c.in_ok-needles.needles.items in
    IfOk-weaker c.put_needles.result _ _ (λ done e. (
      c.requires.none,
      λ ms m was size is form.
          add_needles c.args.self.now c.put_needles.new.needles (map string_bytes texts) c.args.index
          (e ∙ ap (λ l. c.args.self.now.others.items ++ l) (needles_at-strings c.args.index texts)) c.requires.none ms m was size form
          (λ text utf8 h. c.in_ok-needles.ensures text utf8 (subst (λ r. Matches r (chars text)) is h)),
    )) c.put_needles.ensures
