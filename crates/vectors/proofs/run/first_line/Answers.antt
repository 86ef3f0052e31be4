-- The text is cut at its first newline.
use Rattle.std.proofs.Common.{◌+◌, ◌==◌, take, ◌∷◌, sym, ap, ◌∙◌}
use Rattle.std.specs.List.{slice_split}
use Rattle.std.proofs.lemmas.List.{take_rest}
use Rattle.vectors.proofs.Cuts.{cut_at, cut_nowhere}
use Rattle.vectors.proofs.run.first_line.Goals as goal

pub returns-in-Some-clause-line : goal.returns-in-Some-clause-line
returns-in-Some-clause-line c =
    let bytes = c.args.bytes.now in
    let at = c.in-Some.at in
    cut_at (λ b. b == 10) bytes at (sym c.in-Some.ensures.place)
    ∙ ap (λ left. take at bytes ∷ slice_split (λ b. b == 10) left) (sym (take_rest bytes (at + 1)))

pub returns-in-None-clause-line : goal.returns-in-None-clause-line
returns-in-None-clause-line c = cut_nowhere (λ b. b == 10) c.args.bytes.now (sym c.in-None.ensures.place)
