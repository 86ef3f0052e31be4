use Rattle.std.proofs.Common.{false, map, string_bytes, sym, subst}
use Rattle.std.specs.Str.{chars}
use Rattle.std.proofs.lemmas.Result.{IfOk-weaker}
use Rattle.ignore_glob.specs.Matches.{glob_matches}
use Rattle.ignore_glob.specs.Reading.{Reading, Matches}
use Rattle.ignore_glob.specs.View.{tokens_view}
use Rattle.ignore_glob.proofs.NeedleLemmas.{of_text}
use Rattle.ignore_glob.proofs.glob.automaton.Automaton.needles.Goals as goal

pub returns-else-self : goal.returns-else-self
returns-else-self c =
    let given = tokens_view c.deref.result.now in
    IfOk-weaker c.needles_of.result _ _ (λ needles each text fits m.
    let R : Reading → Type 0 = λ r. Matches r (chars text) in
    let here = subst R (sym c.self.view_is) m in
    let exact = subst (λ fold. glob_matches fold (tokens_view c.self.inside.tokens.items) (chars text)) c.if-self.false here in
    of_text (map string_bytes needles.items) given each text fits
    (subst (λ ts. glob_matches false (tokens_view ts) (chars text)) (sym c.deref.ensures.value) exact)) c.needles_of.ensures
