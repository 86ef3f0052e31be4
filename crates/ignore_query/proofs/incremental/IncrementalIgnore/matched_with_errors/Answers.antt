use Rattle.std.proofs.Common.{◌++◌, List, map, inl, inr, refl, sym, ap, ◌∙◌, subst}
use Rattle.ignore_base.specs.Problem.{Problem, joined_problems, problem_of}
use Rattle.ignore_dir.specs.Soft.{AllSoft, IsSoft}
use Rattle.ignore_dir.proofs.SoftLemmas.{joined-soft}
use Rattle.ignore_query.specs.Agrees.{Agrees}
use Rattle.ignore_query.specs.Reached.{scene_of}
use Rattle.ignore_query.specs.Stands.{StandsIn, problems_of_loads, problems_of_size}
use Rattle.ignore_query.proofs.QueryLemmas.{no_error, passed_on}
use Rattle.ignore_query.proofs.ReadLemmas.{reported_is, sizes_unlimited, stands_beyond, stands_unasked}
use Rattle.ignore_query.proofs.incremental.IncrementalIgnore.matched_with_errors.Goals as goal

pub returns-in_err-stand-clause-leaves : goal.returns-in_err-stand-clause-leaves
returns-in_err-stand-clause-leaves g c = record {
  same = refl;
  stays = c.stand.ensures.leaves.stays;
  loaded = c.stand.ensures.leaves.loaded;
  agrees = c.stand.ensures.leaves.agrees;
  unchanged = c.stand.ensures.leaves.unchanged;
}

pub returns-in_err-answer-clause-leaves : goal.returns-in_err-answer-clause-leaves
returns-in_err-answer-clause-leaves g c = record {
  same = refl;
  stays = c.stand.ensures.leaves.stays;
  loaded = c.stand.ensures.leaves.loaded;
  agrees = c.stand.ensures.leaves.agrees;
  unchanged = c.stand.ensures.leaves.unchanged;
}

pub returns-clause-leaves : goal.returns-clause-leaves
returns-clause-leaves g c = record {
  same = refl;
  stays = c.stand.ensures.leaves.stays;
  loaded = c.stand.ensures.leaves.loaded;
  agrees = c.stand.ensures.leaves.agrees;
  unchanged = c.stand.ensures.leaves.unchanged;
}

pub returns-clause-reports : goal.returns-clause-reports
returns-clause-reports g c = λ tree loads honest are agrees.
    let s = scene_of c.args.self.now.asked tree loads in
    let path = c.args.path.now in
    let w : StandsIn g.F.Files _ s c.stand.new.self c.in_ok-stand.stand = record {
      agrees = c.stand.ensures.leaves.agrees tree loads honest are agrees;
      stands = c.in_ok-stand.ensures.stands;
      unruled = c.in_ok-stand.ensures.unruled tree loads honest are agrees;
      sized = inl honest;
    } in
    c.joined.ensures
    ∙ (ap joined_problems (c.in_ok-answer.ensures.problems tree loads w
    ∙ ap (λ (l : List Problem). l ++ problems_of_size s path c.args.is_dir) (c.in_ok-stand.ensures.problems tree loads honest are agrees
    ∙ ap (λ (l : List Problem). l ++ problems_of_loads s c.args.self.now.cache path c.args.is_dir) (ap (map problem_of) c.new-errors.ensures.items)))
    ∙ sym (reported_is s c.args.self.now.cache path c.args.is_dir))

pub returns-clause-soft : goal.returns-clause-soft
returns-clause-soft g c =
    let none' = subst AllSoft (sym (ap (map problem_of) c.new-errors.ensures.items)) tt in
    subst IsSoft (sym c.joined.ensures) (joined-soft _ (c.in_ok-answer.ensures.soft (c.in_ok-stand.ensures.soft none')))

-- From what is kept.

pub returns-in_err-stand-clause-from_kept : goal.returns-in_err-stand-clause-from_kept
returns-in_err-stand-clause-from_kept g c = λ tree loads agrees known unlimited. (c.stand.ensures.leaves.known tree loads agrees known, passed_on _ _ c.from_residual.result c.from_residual.ensures.1)

pub returns-in_err-answer-clause-from_kept : goal.returns-in_err-answer-clause-from_kept
returns-in_err-answer-clause-from_kept g c = λ tree loads agrees known unlimited. (c.stand.ensures.leaves.known tree loads agrees known, passed_on _ _ c.from_residual-in_err-answer.result c.from_residual-in_err-answer.ensures.1)

pub returns-clause-from_kept : goal.returns-clause-from_kept
returns-clause-from_kept g c = λ tree loads agrees known unlimited.
    let s = scene_of c.args.self.now.asked tree loads in
    let path = c.args.path.now in
    let same = c.stand.ensures.leaves.known tree loads agrees known in
    let from = c.in_ok-stand.ensures.from_kept tree loads agrees known in
    let w : StandsIn g.F.Files _ s c.stand.new.self c.in_ok-stand.stand = record {
      agrees = subst (λ x. Agrees s x) (sym same) agrees;
      stands = c.in_ok-stand.ensures.stands;
      unruled = from.1;
      sized = inr unlimited;
    } in
    let none' = no_error _ (c.joined.ensures ∙ ap joined_problems (c.in_ok-answer.ensures.problems tree loads w
    ∙ (ap (λ (l : List Problem). l ++ problems_of_size s path c.args.is_dir) (from.0 ∙ ap (map problem_of) c.new-errors.ensures.items)
    ∙ sizes_unlimited s path c.args.is_dir unlimited))) in
    (same, (c.in_ok-answer.ensures.value tree loads w, none'))

-- By the path and the settings alone.

pub returns-in_err-stand-clause-unasked : goal.returns-in_err-stand-clause-unasked
returns-in_err-stand-clause-unasked g c = λ off. (c.stand.ensures.leaves.outside (λ w. let on = w.asked in absurd (cc (on, off))), passed_on _ _ c.from_residual.result c.from_residual.ensures.1)

pub returns-in_err-answer-clause-unasked : goal.returns-in_err-answer-clause-unasked
returns-in_err-answer-clause-unasked g c = λ off. (c.stand.ensures.leaves.outside (λ w. let on = w.asked in absurd (cc (on, off))), passed_on _ _ c.from_residual-in_err-answer.result c.from_residual-in_err-answer.ensures.1)

pub returns-clause-unasked : goal.returns-clause-unasked
returns-clause-unasked g c = λ off.
    let a = c.args.self.now.asked in
    let said = c.in_ok-answer.ensures.unasked (stands_unasked a c.stand.new.self c.args.path.now c.args.is_dir _ off c.in_ok-stand.ensures.stands) in
    let errors = ap (λ v. map problem_of v.items) said.0
    ∙ (ap (λ v. map problem_of v.items) (c.in_ok-stand.ensures.outside (λ w. let on = w.asked in absurd (cc (on, off)))) ∙ ap (map problem_of) c.new-errors.ensures.items) in
    let none' = no_error _ (c.joined.ensures ∙ ap joined_problems errors) in
    (c.stand.ensures.leaves.outside (λ w. let on = w.asked in absurd (cc (on, off))), (said.1, none'))

pub returns-in_err-stand-clause-beyond : goal.returns-in_err-stand-clause-beyond
returns-in_err-stand-clause-beyond g c = λ on far. (c.stand.ensures.leaves.outside (λ w. let off = w.within in absurd (cc (off, far))), passed_on _ _ c.from_residual.result c.from_residual.ensures.1)

pub returns-in_err-answer-clause-beyond : goal.returns-in_err-answer-clause-beyond
returns-in_err-answer-clause-beyond g c = λ on far. (c.stand.ensures.leaves.outside (λ w. let off = w.within in absurd (cc (off, far))), passed_on _ _ c.from_residual-in_err-answer.result c.from_residual-in_err-answer.ensures.1)

pub returns-clause-beyond : goal.returns-clause-beyond
returns-clause-beyond g c = λ on far.
    let a = c.args.self.now.asked in
    let said = c.in_ok-answer.ensures.beyond (stands_beyond a c.stand.new.self c.args.path.now c.args.is_dir _ on far c.in_ok-stand.ensures.stands) in
    let errors = ap (λ v. map problem_of v.items) said.0
    ∙ (ap (λ v. map problem_of v.items) (c.in_ok-stand.ensures.outside (λ w. let off = w.within in absurd (cc (off, far)))) ∙ ap (map problem_of) c.new-errors.ensures.items) in
    let none' = no_error _ (c.joined.ensures ∙ ap joined_problems errors) in
    (c.stand.ensures.leaves.outside (λ w. let off = w.within in absurd (cc (off, far))), (said.1, none'))

pub returns-clause-value : goal.returns-clause-value
returns-clause-value g c = λ tree loads honest are agrees. c.in_ok-answer.ensures.value tree loads (record {
  agrees = c.stand.ensures.leaves.agrees tree loads honest are agrees;
  stands = c.in_ok-stand.ensures.stands;
  unruled = c.in_ok-stand.ensures.unruled tree loads honest are agrees;
  sized = inl honest;
})
