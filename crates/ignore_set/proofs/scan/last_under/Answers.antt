use Rattle.std.proofs.Common.{rules, ◌≡◌, ◌+◌, ◌-◌, ◌<◌, get_or, length, map, sym, subst, ◌∙◌, arith}
use Rattle.std.specs.Str.{chars}
use Rattle.std.proofs.lemmas.Bool.{false≢true}
use Rattle.std.proofs.lemmas.Option.{slice_get-get_or}
use Rattle.ignore_set.specs.Sets.{Member, Applies}
use Rattle.ignore_set.proofs.IndexLemmas.{mapped_at, some_same}
use Rattle.ignore_set.proofs.ScanLemmas.{AreInVain, vain_start, vain_pass, vain_more, vain_found, vain_early, vain_end, vain_count}
use Rattle.ignore_set.proofs.ScanLemmas.{listed_within, short_at}
use Rattle.ignore_set.proofs.scan.last_under.Goals as goal

pub loop-k-init : goal.loop-k-init
loop-k-init g c =
    let ms = map g.M.HasPattern.member c.args.members.now in
    vain_start c.args.text.now c.args.is_dir ms c.args.under.now c.args.least (length c.args.under.now) (omega arith)

pub returns-then-index-least-clause-value : goal.returns-then-index-least-clause-value
returns-then-index-least-clause-value g c =
    let ms = map g.M.HasPattern.member c.args.members.now in
    let under = c.args.under.now in
    let k = c.loop-k.k - 1 in
    let next : c.loop-k.k ≡ k + 1 = omega arith in
    let fits : k < length under = omega arith in
    let vain = subst (λ n. AreInVain c.args.text.now c.args.is_dir ms under c.args.least n c.loop-k.passes) next c.loop-k.invariant in
    vain_early c.args.text.now c.args.is_dir ms under c.args.least k c.loop-k.passes (get_or under k 0) c.requires
    (slice_get-get_or under k 0 fits) c.if-index-least.true vain

pub returns-then-index-least-clause-count : goal.returns-then-index-least-clause-count
returns-then-index-least-clause-count g c =
    vain_count c.args.text.now c.args.is_dir (map g.M.HasPattern.member c.args.members.now) c.args.under.now c.args.least
    c.loop-k.k c.loop-k.passes c.loop-k.invariant

pub bounds-members-index : goal.bounds-members-index
bounds-members-index g c =
    let k = c.loop-k.k - 1 in
    let fits : k < length c.args.under.now = omega arith in
    listed_within g.M.HasPattern.member c.args.members.now c.args.under.now k c.requires fits

pub offset_bounds-members-index : goal.offset_bounds-members-index
offset_bounds-members-index g c = omega (arith, bounds-members-index g c)

pub returns-in_err-yes-clause-succeeds : goal.returns-in_err-yes-clause-succeeds
returns-in_err-yes-clause-succeeds g c = λ short.
    let k = c.loop-k.k - 1 in
    let fits : k < length c.args.under.now = omega arith in
    let within = listed_within g.M.HasPattern.member c.args.members.now c.args.under.now k c.requires fits in
    absurd (false≢true (c.in_err-yes.ensures.succeeds (short_at g.M.HasPattern.member c.args.members.now (get_or c.args.under.now k 0)
    c.index-members-index.result within c.index-members-index.is short)))

pub overflow_add-result-then-yes : goal.overflow_add-result-then-yes
overflow_add-result-then-yes g c =
    let k = c.loop-k.k - 1 in
    let fits : k < length c.args.under.now = omega arith in
    let within : get_or c.args.under.now k 0 < length c.args.members.now =
    listed_within g.M.HasPattern.member c.args.members.now c.args.under.now k c.requires fits in
    search (rules, within)

pub returns-then-yes-clause-value : goal.returns-then-yes-clause-value
returns-then-yes-clause-value g c =
    let member = g.M.HasPattern.member in
    let xs = c.args.members.now in
    let ms = map member xs in
    let under = c.args.under.now in
    let k = c.loop-k.k - 1 in
    let i = get_or under k 0 in
    let x = c.index-members-index.result in
    let next : c.loop-k.k ≡ k + 1 = omega arith in
    let fits : k < length under = omega arith in
    let here = slice_get-get_or under k 0 fits in
    let vain = subst (λ n. AreInVain c.args.text.now c.args.is_dir ms under c.args.least n c.loop-k.passes) next c.loop-k.invariant in
    let at = mapped_at member xs i x (listed_within member xs under k c.requires fits) c.index-members-index.is in
    vain_found c.args.text.now c.args.is_dir ms under c.args.least k c.loop-k.passes i (member x) c.requires here
    (omega (arith, c.if-index-least.false)) at (c.in_ok-yes.ensures.value.0 c.if-yes.true) vain

pub returns-then-yes-clause-count : goal.returns-then-yes-clause-count
returns-then-yes-clause-count g c = λ t from below.
    let ms = map g.M.HasPattern.member c.args.members.now in
    let under = c.args.under.now in
    let k = c.loop-k.k - 1 in
    let next : c.loop-k.k ≡ k + 1 = omega arith in
    let fits : k < length under = omega arith in
    let vain = subst (λ n. AreInVain c.args.text.now c.args.is_dir ms under c.args.least n c.loop-k.passes) next c.loop-k.invariant in
    vain_pass c.args.text.now c.args.is_dir ms under c.args.least k c.loop-k.passes c.saturating_add-passes.result (get_or under k 0) c.requires
    (slice_get-get_or under k 0 fits) (omega (arith, c.saturating_add-passes.ensures, c.in_ok-yes.ensures.passes)) vain
    c.args.least t (omega (arith, c.if-index-least.false)) below

pub loop-k-preserved : goal.loop-k-preserved
loop-k-preserved g c =
    let member = g.M.HasPattern.member in
    let xs = c.args.members.now in
    let ms = map member xs in
    let under = c.args.under.now in
    let k = c.loop-k.k - 1 in
    let i = get_or under k 0 in
    let x = c.index-members-index.result in
    let next : c.loop-k.k ≡ k + 1 = omega arith in
    let fits : k < length under = omega arith in
    let here = slice_get-get_or under k 0 fits in
    let vain = subst (λ n. AreInVain c.args.text.now c.args.is_dir ms under c.args.least n c.loop-k.passes) next c.loop-k.invariant in
    let at = mapped_at member xs i x (listed_within member xs under k c.requires fits) c.index-members-index.is in
    vain_more c.args.text.now c.args.is_dir ms under c.args.least k c.loop-k.passes c.saturating_add-passes.result i c.requires here
    (omega (arith, c.if-index-least.false)) (omega (arith, c.saturating_add-passes.ensures, c.in_ok-yes.ensures.passes))
    (λ m h a. false≢true (sym c.if-yes.false ∙ c.in_ok-yes.ensures.value.1
    (subst (λ (y : Member). Applies (chars c.args.text.now) c.args.is_dir y) (some_same m (member x) (sym h ∙ at)) a))) vain

pub returns-clause-value : goal.returns-clause-value
returns-clause-value g c =
    vain_end c.args.text.now c.args.is_dir (map g.M.HasPattern.member c.args.members.now) c.args.under.now c.args.least
    c.loop-k.k c.loop-k.passes (omega (arith, c.loop-k-test.false)) c.loop-k.invariant

pub returns-clause-count : goal.returns-clause-count
returns-clause-count g c =
    vain_count c.args.text.now c.args.is_dir (map g.M.HasPattern.member c.args.members.now) c.args.under.now c.args.least
    c.loop-k.k c.loop-k.passes c.loop-k.invariant
