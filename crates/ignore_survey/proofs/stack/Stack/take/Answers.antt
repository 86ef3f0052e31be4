use Rattle.std.proofs.Common.{◌≡◌, ◌↔◌, sym, ◌∙◌, ap, subst}
use Rattle.ignore_base.specs.Text.{Path}
use Rattle.ignore_survey.specs.Stands.{Finds, Found, Takes, found_at, found_of}
use Rattle.ignore_survey.specs.declared.stack.Stack.{Stack}
use Rattle.ignore_survey.proofs.LeftLemmas.{found, iff_trans}
use Rattle.ignore_survey.proofs.MiddleLemmas.{found_unlisted}
use Rattle.ignore_survey.proofs.stack.Stack.take.Goals as goal

pub returns-clause-finds : goal.returns-clause-finds
returns-clause-finds c = λ s items root empty.
    let t : Stack = record { waiting = c.args.self.now.waiting; frames = c.push_front.new.self } in
    let f = c.in-Some.frame in
    let x = c.in-Some.listed in
    let is : found_of c.in_ok-found.found ≡ found_at s.root f.path x =
    c.in_ok-found.ensures ∙ (ap (λ (p : Path). found_at c.args.root.now p x) c.as_str.ensures
    ∙ ap (λ (r : Path). found_at r f.path x) (sym root)) in
    iff_trans (c.in-Some.ensures s items)
    (subst (λ (o : Found). Takes s f x c.take_listed.new.frames.items items ↔ Finds s t o items) (sym is)
    (found s f c.take_listed.new.frames.items t items empty c.in_ok-push_front.ensures.items x))

pub returns-clause-unlisted : goal.returns-clause-unlisted
returns-clause-unlisted c =
    found_unlisted c.args.root.now c.as_str.result.now c.in-Some.listed c.in_ok-found.found c.in_ok-found.ensures
