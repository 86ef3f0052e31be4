use Rattle.std.proofs.Common.{◌∙◌, sym, map}
use Rattle.std.proofs.lemmas.Slice.Eq.{bytes_eq-Decides}
use Rattle.ignore_base.proofs.NormalLemmas.{but_last-popped, step-up}
use Rattle.ignore_base.proofs.text.normal.step.Goals as goal

pub returns-then-eq-2 : goal.returns-then-eq-2
returns-then-eq-2 c =
    let pop = c.pop.ensures in
    but_last-popped c.args.names.now.items c.pop.new.self.items c.pop.result _ _ pop.items pop.cases pop.rest
    ∙ sym (step-up (map (λ n. n.now) c.args.names.now.items) c.args.component.now
    ((bytes_eq-Decides _ _).0 (sym c.eq-2.ensures ∙ c.if-eq-2.true)))
