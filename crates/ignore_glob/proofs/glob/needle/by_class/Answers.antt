use Rattle.std.proofs.Common.{◌∷◌, ◌+◌, map, string_bytes, drop, get_or, ap, sym, subst, ◌∙◌, false}
use Rattle.std.proofs.lemmas.List.{drop_all}
use Rattle.std.specs.Arc.{arc_slice_items}
use Rattle.ignore_glob.specs.Glob.{class}
use Rattle.ignore_glob.specs.Matches.{token_matches}
use Rattle.ignore_glob.proofs.NeedleLemmas.{Listed, listed_more, listed_all, pushed_text, range_place}
use Rattle.ignore_glob.proofs.glob.needle.by_class.Goals as goal

pub loop-range-preserved : goal.loop-range-preserved
loop-range-preserved c =
    let all = arc_slice_items c.args.listed.now.ranges in
    let seen = c.as_slice-range-items.result.now in
    let i = c.loop-range.range-index in
    let r = get_or seen i (0, 0) in
    let text = string_bytes c.in_ok-with_char.field-0 in
    let texts = map string_bytes c.loop-range.texts.items in
    let place = ap (λ l. drop i l) (sym c.as_slice-range-items.ensures.value)
    ∙ (range_place seen i c.loop-range-test.true ∙ ap (λ l. r ∷ drop (i + 1) l) c.as_slice-range-items.ensures.value) in
    let here = subst (λ rs. Listed all rs c.args.run.now texts) place c.loop-range.invariant in
    subst (λ l. Listed all (drop (i + 1) all) c.args.run.now l)
    (sym (pushed_text c.loop-range.texts.items c.push.new.self.items c.in_ok-with_char.field-0 c.in_ok-push.ensures.items))
    (listed_more all (drop (i + 1) all) r.0 r.1 c.args.run.now text texts c.if-range.false c.in_ok-with_char.ensures here)

pub returns : goal.returns
returns c = λ front w m.
    let all = arc_slice_items c.args.listed.now.ranges in
    let texts = map string_bytes c.loop-range.texts.items in
    let none = ap (λ l. drop c.loop-range.range-index l) (sym c.as_slice-range-items.ensures.value)
    ∙ drop_all c.loop-range.range-index c.as_slice-range-items.result.now c.loop-range-test.false in
    listed_all all c.args.run.now texts (subst (λ rs. Listed all rs c.args.run.now texts) none c.loop-range.invariant) front w
    (subst (λ b. token_matches false (class b all) w) c.if-listed.false m)
