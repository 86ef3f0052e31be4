use Rattle.std.proofs.Common.{ap, ◌∙◌, ◌∷◌, [], map, refl}
use Rattle.std.proofs.lemmas.List.{take_all}
use Rattle.std.proofs.lemmas.Slice.{pushed}
use Rattle.ig_every.specs.Texts.{number_data}
use Rattle.ig_every.proofs.TextLemmas.{numbers_more}
use Rattle.ig_every.proofs.texts.numbers.Goals as goal

pub loop-line-preserved : goal.loop-line-preserved
loop-line-preserved c =
    numbers_more c.args.lines.now c.loop-line.line-index c.loop-line.values.items c.push.new.self.items c.from.result c.loop-line-test.true
    (pushed (c.from.result ∷ []) refl c.in_ok-push.was c.push.ensures.items) c.from.ensures c.loop-line.invariant

pub returns : goal.returns
returns c = c.loop-line.invariant ∙ ap (map number_data) (take_all c.loop-line.line-index c.args.lines.now c.loop-line-test.false)
