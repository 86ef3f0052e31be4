use Rattle.std.proofs.Common.{◌≡◌, ◌∙◌, List, ℕ, inl, inr, rules, sym, ap, subst, tests}
use Rattle.std.proofs.lemmas.Iterator.{YieldsList-from_slice}
use Rattle.std.proofs.lemmas.Iterator.Search.{any_from_yields_List}
use Rattle.std.specs.Io.KnownBytes.{Appends}
use Rattle.std.specs.List.{list_any}
use Rattle.std.specs.Result.{OnOk}
use Rattle.ig_options.specs.Quotes.{is_quoted}
use Rattle.ig_commands.proofs.FieldLemmas.{plain_field}
use Rattle.ig_commands.proofs.form.write_text.Goals as goal
use Rattle.ig_commands.proofs.form.write_text.Goals.{then-form-via-then-form, then-form-via-else-form+then-not-any}

pub returns-then-form-clause-writes : goal.returns-then-form-clause-writes
returns-then-form-clause-writes g c =
    let bytes = c.as_bytes-bytes.result.now in
    let is = c.as_bytes-bytes.ensures.value in
    let so = λ (t : List ℕ).
    OnOk c.write_bytes.result (Appends (g.W.Output.contents c.args.out.now) (g.W.Output.contents c.write_bytes.new.out) t) in
    elim c.then-form.branch [
      | then-form-via-then-form w ↦
          subst so (plain_field c.args.form.null c.args.text.now bytes is (inl w.if-form.true)) c.write_bytes.ensures.writes
      | then-form-via-else-form+then-not-any w ↦
          let any : w.any.result ≡ list_any is_quoted bytes =
          any_from_yields_List is_quoted _ _ w.any.result w.any.ensures.ran (YieldsList-from_slice bytes cc) (λ x b q k. search (rules, tests)) in
          subst so
          (plain_field c.args.form.null c.args.text.now bytes is
          (inr (sym (any ∙ ap (list_any is_quoted) is) ∙ w.if-not-any.true))) c.write_bytes.ensures.writes
    ]
