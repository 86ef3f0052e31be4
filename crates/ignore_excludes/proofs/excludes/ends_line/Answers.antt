-- One byte decides, or leaves the question to what follows it.
use Rattle.std.proofs.Common.{◌≡◌, ◌∷◌, [], ◌+◌, drop, slice_index_or, sym, ◌∙◌, subst}
use Rattle.std.proofs.lemmas.List.{drop_more}
use Rattle.ignore_excludes.specs.Excludes.{EndsLine}
use Rattle.ignore_excludes.proofs.ExcludesBlanks.{EndsLine-solid, EndsLine-append, EndsLine-more}
use Rattle.ignore_excludes.proofs.excludes.ends_line.Goals as goal

pub returns-then-not-is_space : goal.returns-then-not-is_space
returns-then-not-is_space c =
    let text = c.args.text.now in
    let i = c.loop-byte.byte-index in
    let cut : drop i text ≡ slice_index_or text i 0 ∷ drop (i + 1) text = drop_more text i 0 c.loop-byte-test.true in (
      λ no. (cc),
      λ h. absurd
          (EndsLine-solid (slice_index_or text i 0) (drop (i + 1) text) (sym c.is_space.ensures ∙ c.if-not-is_space.true)
          (subst EndsLine cut (c.loop-byte.invariant.1 h))),
    )

pub loop-byte-preserved : goal.loop-byte-preserved
loop-byte-preserved c =
    let text = c.args.text.now in
    let i = c.loop-byte.byte-index in
    let cut : drop i text ≡ slice_index_or text i 0 ∷ drop (i + 1) text = drop_more text i 0 c.loop-byte-test.true in (
      λ h. c.loop-byte.invariant.0
          (subst EndsLine (sym cut)
          (EndsLine-append (slice_index_or text i 0 ∷ []) (drop (i + 1) text) (sym c.is_space.ensures ∙ c.if-not-is_space.false, tt) h)),
      λ h. EndsLine-more (slice_index_or text i 0) (drop (i + 1) text) c.if-byte-eq10.false
          (subst EndsLine cut (c.loop-byte.invariant.1 h)),
    )
