use Rattle.std.proofs.Common.{◌≡◌, ◌++◌, ◌∷◌, [], Ok, Err, ◌∙◌, arith}
use Rattle.std.proofs.lemmas.Grind.{common_steps}
use Rattle.std.proofs.lemmas.Result.{err_from_is_err_and}
use Rattle.ignore_glob.specs.declared.glob.fault.GlobFault.TheVariants.{UnclosedAlternates}
use Rattle.ignore_glob.specs.Lexing.{lexeme, put_first, Lexed, ends, stops, continues}
use Rattle.ignore_glob.specs.LexemeViews.{lexeme_view, row_view}
use Rattle.ignore_glob.proofs.OutcomeLemmas.{Begins-rest}
use Rattle.ignore_glob.proofs.BracketLemmas.{IsRest-shorter}
use Rattle.ignore_glob.proofs.LexemeLemmas.{ClosesBefore-rest, put_all-push, put_all-ok, put_all-err}
use Rattle.ignore_glob.proofs.BeginsLemmas.{unclosed_at, end_at, fault_at}
use Rattle.ignore_glob.proofs.glob.lexeme.lexemes.Goals as goal

pub lexeme_from-requires : goal.lexeme_from-requires
lexeme_from-requires c =
    let rest : c.loop-first.rest.now ≡ c.in-Some.first.now ∷ c.in-Some.after.now = grind (arith, common_steps) in
    ClosesBefore-rest c.after_last_closing-after_last.result c.loop-first.rest.now
    (c.in-Some.first.now ∷ []) c.in-Some.after.now rest c.loop-first.invariant.closes

pub returns-in_err-lexeme-clause-fault : goal.returns-in_err-lexeme-clause-fault
returns-in_err-lexeme-clause-fault c =
    let rest : c.loop-first.rest.now ≡ c.in-Some.first.now ∷ c.in-Some.after.now = grind (arith, common_steps) in
    let p = err_from_is_err_and c.from_residual-in_err-lexeme.result c.from_residual-in_err-lexeme.ensures.1 in
    rw (p.1, p.2) (fault_at c.args.options c.loop-first.depth c.args.text.now c.loop-first.rest.now _ c.in_err-lexeme.field-0.0
    (row_view c.loop-first.row.items) rest c.in_err-lexeme.ensures.fault c.loop-first.invariant.written)

pub loop-first-smaller : goal.loop-first-smaller
loop-first-smaller c =
    let text = c.in-Some.first.now ∷ c.in-Some.after.now in
    let rest : c.loop-first.rest.now ≡ text = grind (arith, common_steps) in
    let more = c.in_ok-lexeme.more.now in
    rw rest (IsRest-shorter text more (Begins-rest c.args.options c.loop-first.depth text
    (lexeme (lexeme_view c.in_ok-lexeme.lexeme) more c.in_ok-lexeme.next) c.in_ok-lexeme.ensures.lexeme))

pub loop-first-preserved : goal.loop-first-preserved
loop-first-preserved c =
    let text = c.in-Some.first.now ∷ c.in-Some.after.now in
    let rest : c.loop-first.rest.now ≡ text = grind (arith, common_steps) in
    let more = c.in_ok-lexeme.more.now in
    let l = lexeme_view c.in_ok-lexeme.lexeme in
    let pushed : c.push.new.self.items ≡ c.loop-first.row.items ++ c.in_ok-lexeme.lexeme ∷ [] = grind (arith, common_steps) in
    let meaning_of = c.in_ok-lexeme.ensures.lexeme in
    let cut = Begins-rest c.args.options c.loop-first.depth text (lexeme l more c.in_ok-lexeme.next) meaning_of in
    record {
      written = λ out w.
          let further : Lexed c.args.options c.loop-first.depth c.loop-first.rest.now (put_first l out) = rw rest
          (continues c.loop-first.depth c.in_ok-lexeme.next text more l out meaning_of w) in
          rw (pushed, put_all-push) (c.loop-first.invariant.written (put_first l out) further);
      closes =
          ClosesBefore-rest c.after_last_closing-after_last.result c.loop-first.rest.now cut.0 more
          (rest ∙ cut.1) c.loop-first.invariant.closes;
    }

pub returns-then-depth-gt0-clause-fault : goal.returns-then-depth-gt0-clause-fault
returns-then-depth-gt0-clause-fault c =
    let rest : c.loop-first.rest.now ≡ [] = grind (arith, common_steps) in
    let out : Lexed c.args.options c.loop-first.depth c.loop-first.rest.now (Err UnclosedAlternates) = rw rest
    (stops c.loop-first.depth [] UnclosedAlternates (unclosed_at c.args.options c.loop-first.depth (omega arith))) in
    rw put_all-err at (c.loop-first.invariant.written (Err UnclosedAlternates) out)

pub returns-clause-row : goal.returns-clause-row
returns-clause-row c =
    let rest : c.loop-first.rest.now ≡ [] = grind (arith, common_steps) in
    let out : Lexed c.args.options c.loop-first.depth c.loop-first.rest.now (Ok []) = rw rest
    (ends c.loop-first.depth [] (end_at c.args.options c.loop-first.depth (omega arith))) in
    rw put_all-ok at (c.loop-first.invariant.written (Ok []) out)
