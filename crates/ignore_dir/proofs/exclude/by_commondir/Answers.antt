use Rattle.std.proofs.Common.{◌≡◌, ◌∙◌, codes, subst}
use Rattle.std.proofs.lemmas.Result.{IfOk-weaker}
use Rattle.ignore_base.specs.Paths.{join_of}
use Rattle.ignore_dir.specs.LoadsBy.{Reads, reads_of}
use Rattle.ignore_dir.proofs.exclude.by_commondir.Goals as goal

pub returns-clause-answered : goal.returns-clause-answered
returns-clause-answered g c =
    let path : c.as_str.result.now ≡ join_of c.args.folder.now (codes "commondir") = c.as_str.ensures.value ∙ c.in_ok-path.ensures in
    let again : c.as_str-2.result.now ≡ join_of c.args.folder.now (codes "commondir") = c.as_str-2.ensures.value ∙ c.in_ok-path.ensures in
    let R : Reads = reads_of g.F.Files c.args.ground.now.files.now in
    IfOk-weaker c.led_by_commondir.result _ _
    (λ place is. (c.in_ok-read.read, subst (λ p. R p c.in_ok-read.read) path c.in_ok-read.ensures.answered, is))
    (c.led_by_commondir.ensures.value again)
