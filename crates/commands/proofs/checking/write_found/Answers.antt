use Rattle.std.proofs.Common.{◌∙◌, ◌∷◌, ◌++◌, [], subst}
use Rattle.std.proofs.lemmas.Result.{err_from_is_err_and, on_err_weaker}
use Rattle.std.specs.Io.KnownBytes.{Appends}
use Rattle.commands.specs.Checking.{word_of}
use Rattle.commands.proofs.StopLemmas.{cut_first, cut_on}
use Rattle.commands.proofs.checking.write_found.Goals as goal

-- cut after the word
pub returns-in_err-write_bytes-2-clause-cut : goal.returns-in_err-write_bytes-2-clause-cut
returns-in_err-write_bytes-2-clause-cut g c =
    let contents = g.W.Output.contents in
    let line = c.args.path.now ++ 10 ∷ [] in
    let word = word_of c.args.found.verdict in
    let first = subst (Appends (contents c.args.out.now) (contents c.write_bytes.new.out)) (c.as_bytes.ensures.value ∙ c.word_for.ensures)
    c.in_ok-write_bytes.ensures.writes in
    let exit = c.from_residual-in_err-write_bytes-2 in
    let p = err_from_is_err_and exit.result exit.ensures.1 in
    rw p.1 (cut_on _ _ _ word (32 ∷ line) first (cut_first (32 ∷ []) line _ c.in_err-write_bytes-2.ensures.cut))

-- or after the space
pub returns-clause-cut : goal.returns-clause-cut
returns-clause-cut g c =
    let contents = g.W.Output.contents in
    let line = c.args.path.now ++ 10 ∷ [] in
    let word = word_of c.args.found.verdict in
    let first = subst (Appends (contents c.args.out.now) (contents c.write_bytes.new.out)) (c.as_bytes.ensures.value ∙ c.word_for.ensures)
    c.in_ok-write_bytes.ensures.writes in
    on_err_weaker c.write_line.result
    (λ h. cut_on _ _ _ word (32 ∷ line) first (cut_on _ _ _ (32 ∷ []) line c.in_ok-write_bytes-2.ensures.writes h))
    c.write_line.ensures.cut
