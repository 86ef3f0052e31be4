use Rattle.std.proofs.Common.{◌≡◌, ◌<◌, take, ◌∙◌, arith}
use Rattle.ignore_base.proofs.FolderLemmas.{folder_none, folder_at_start, folder_before}
use Rattle.ignore_base.proofs.text.folder_of.Goals as goal

pub returns-in-None : goal.returns-in-None
returns-in-None c =
    let path = c.as_bytes.result.now in
    rw (← c.as_bytes.ensures.value) (folder_none path (λ k l e. c.in-None.ensures k (omega arith) l e))

pub returns-in-Some-eq0 : goal.returns-in-Some-eq0
returns-in-Some-eq0 c =
    let path = c.as_bytes.result.now in
    let found = c.in-Some-eq0.ensures in
    rw (← c.as_bytes.ensures.value) (folder_at_start path c.in-Some-eq0.field-0 (omega arith) found.0.high found.1 found.0.after)

pub returns-in-Some : goal.returns-in-Some
returns-in-Some c =
    let path = c.as_bytes.result.now in
    let found = c.in-Some.ensures in
    let cut : c.range.result.now ≡ take c.in-Some.slash c.args.path.now = grind (arith, c.range.ensures.value) in
    let some : 0 < c.in-Some.slash = omega arith in
    cut ∙ rw (← c.as_bytes.ensures.value) (folder_before path c.in-Some.slash some found.0.high found.1 found.0.after)
