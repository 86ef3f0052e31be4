use Rattle.std.proofs.Common.{sym, subst, ap, ◌∙◌, arith}
use Rattle.std.proofs.lemmas.Bool.{false≢true}
use Rattle.ignore_set.specs.Index.{IsMarked, after, slot_at}
use Rattle.ignore_set.proofs.IndexLemmas.{fits_cut, some_same, none_some, fits_same}
use Rattle.ignore_set.proofs.table.Table.under_end.Goals as goal

pub returns-in-None-clause-greatest : goal.returns-in-None-clause-greatest
returns-in-None-clause-greatest c = λ end fits utf8 size marked.
    let cut = fits_cut c.args.ending end c.args.text.now fits in
    absurd (none_some end (c.in-None.ensures.each cut.0 end cut.1 utf8 size))

pub returns-then-fits-clause-greatest : goal.returns-then-fits-clause-greatest
returns-then-fits-clause-greatest c = λ end fits utf8 size marked.
    let cut = fits_cut c.args.ending end c.args.text.now fits in
    let same = some_same c.in-Some.end.now end (c.in-Some.ensures.each cut.0 end cut.1 utf8 size) in
    let here = ap (λ t. after c.args.is_dir (slot_at c.args.self.now t)) same in
    omega (arith, here, c.under.ensures)

pub returns-else-fits-clause-greatest : goal.returns-else-fits-clause-greatest
returns-else-fits-clause-greatest c = λ end fits utf8 size marked.
    let cut = fits_cut c.args.ending end c.args.text.now fits in
    let same = some_same c.in-Some.end.now end (c.in-Some.ensures.each cut.0 end cut.1 utf8 size) in
    absurd (false≢true (sym c.if-fits.false ∙ c.fits.ensures.no
    (fits_same c.args.ending c.args.text.now end c.in-Some.end.now (sym same) fits)))

pub returns-then-not-may_have-clause-greatest : goal.returns-then-not-may_have-clause-greatest
returns-then-not-may_have-clause-greatest c = λ end fits utf8 size marked.
    let cut = fits_cut c.args.ending end c.args.text.now fits in
    let same = some_same c.in-Some.end.now end (c.in-Some.ensures.each cut.0 end cut.1 utf8 size) in
    absurd (false≢true (sym c.if-not-may_have.true ∙ c.may_have.ensures
    (subst (λ t. IsMarked c.args.self.now t) (sym same) marked)))
