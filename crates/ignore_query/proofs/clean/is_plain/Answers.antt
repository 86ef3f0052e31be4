-- One pass over the bytes of a path, each of which may follow the one before it.
use Rattle.std.proofs.Common.{◌≡◌, ◌∷◌, [], ◌+◌, drop, slice_index_or, refl, sym, ap, ◌∙◌, subst}
use Rattle.std.proofs.lemmas.Bool.{and_parts, and_from, not-true}
use Rattle.std.proofs.lemmas.List.{drop_all, drop_more}
use Rattle.ignore_base.specs.Text.{is_slash}
use Rattle.ignore_query.specs.Plain.{all_follow, last_of, may_follow}
use Rattle.ignore_query.proofs.PlainLemmas.{plain_path}
use Rattle.ignore_query.proofs.clean.is_plain.Goals as goal

pub loop-byte-init : goal.loop-byte-init
loop-byte-init c = (λ p h. h, refl)

pub loop-byte-preserved : goal.loop-byte-preserved
loop-byte-preserved c =
    let same = c.as_bytes-byte-items.ensures.value in
    let bytes = c.as_bytes-byte-items.result.now in
    let i = c.loop-byte.byte-index in
    let x = slice_index_or bytes i 0 in
    let cut : drop i c.args.path.now ≡ x ∷ drop (i + 1) c.args.path.now =
    subst (λ l. drop i l ≡ x ∷ drop (i + 1) l) same (drop_more bytes i 0 c.loop-byte-test.true) in (
      λ p h. let parts = and_parts c.loop-byte.is_plain c.may_follow-is_plain.result p in
          c.loop-byte.invariant.0 parts.0
          (ap (all_follow c.loop-byte.before) cut
          ∙ and_from (may_follow c.loop-byte.before x) (all_follow x (drop (i + 1) c.args.path.now))
          (sym c.may_follow-is_plain.ensures ∙ parts.1) h),
      sym (ap (last_of c.loop-byte.before) cut) ∙ c.loop-byte.invariant.1,
    )

pub returns-then-is_plain : goal.returns-then-is_plain
returns-then-is_plain c =
    let same = c.as_bytes-byte-items.ensures.value in
    let i = c.loop-byte.byte-index in
    let none : drop i c.args.path.now ≡ [] =
    subst (λ l. drop i l ≡ []) same (drop_all i c.as_bytes-byte-items.result.now c.loop-byte-test.false) in
    record {
      names = λ k. plain_path c.args.path.now
          (c.loop-byte.invariant.0 c.if-is_plain.true (ap (all_follow c.loop-byte.before) none))
          (sym (ap is_slash c.loop-byte.invariant.1) ∙ ap (λ l. is_slash (last_of c.loop-byte.before l)) none ∙ not-true _ k);
    }
