use Rattle.std.proofs.Common.{◌≡◌, string_bytes, length, ap, sym, ◌∙◌, arith}
use Rattle.std.specs.Str.{chars}
use Rattle.std.proofs.lemmas.Iterator.{YieldsList-from_chars}
use Rattle.std.proofs.lemmas.Iterator.Consumers.{count_from_yields_List}
use Rattle.std.proofs.lemmas.Str.{IsUtf8-string_bytes}
use Rattle.ignore_glob.specs.Exact.{kind_tokens}
use Rattle.ignore_glob.specs.Positions.{positions}
use Rattle.ignore_glob.specs.Reading.{Reading}
use Rattle.ignore_glob.specs.declared.glob.kind.Kind.{Kind}
use Rattle.ignore_glob.proofs.ExactLemmas.{kind_width, tokens_width}
use Rattle.ignore_glob.proofs.Numbering.{positions_width}
use Rattle.ignore_glob.proofs.glob.exact.Exact.positions.Goals as goal
use Rattle.ignore_glob.proofs.glob.exact.Exact.positions.Goals.{in-Whole, in-Name, in-End}

pub returns : goal.returns
returns c =
    let kind = c.self.inside.kind in
    let bytes = string_bytes c.self.inside.text in
    let ts = kind_tokens kind (chars bytes) in
    let before : c.match-self.before ≡ kind_width kind = elim c.match-self.branch [
      | in-Whole w ↦ w.before-is ∙ ap (λ (k : Kind). kind_width k) (sym w.in-Whole.is)
      | in-Name w ↦ w.before-is ∙ ap (λ (k : Kind). kind_width k) (sym w.in-Name.is)
      | in-End w ↦ w.before-is ∙ ap (λ (k : Kind). kind_width k) (sym w.in-End.is)
    ] in
    let count : c.count.result ≡ length (chars bytes) =
    count_from_yields_List c.chars.result c.count.result c.count.ensures.ran (YieldsList-from_chars bytes (IsUtf8-string_bytes c.self.inside.text) (c.chars.ensures.rest ∙ c.deref.ensures)) in
    let same : positions ts ≡ positions c.args.self.now.tokens = ap (λ (r : Reading). positions r.tokens) c.self.view_is in
    omega (arith, before, count, same, positions_width ts, tokens_width kind (chars bytes))
