use Rattle.std.proofs.Common.{◌≡◌, ◌+◌, ◌<◌, length, map, sym, subst, ◌∙◌, arith}
use Rattle.std.specs.Str.{chars}
use Rattle.std.proofs.lemmas.Bool.{false≢true}
use Rattle.std.proofs.lemmas.List.{length-map}
use Rattle.std.proofs.lemmas.Option.{slice_get_within}
use Rattle.ignore_set.specs.Others.{IsFoundUnder}
use Rattle.ignore_set.specs.Sets.{Member, Applies}
use Rattle.ignore_set.proofs.IndexLemmas.{mapped_at, some_same}
use Rattle.ignore_set.proofs.OtherLemmas.{bound_drop, bound_step}
use Rattle.ignore_set.proofs.ScanLemmas.{short_at, with_later, with_hit, with_miss}
use Rattle.ignore_set.proofs.scan.last_with.Goals as goal

pub returns-then-later-gt0-clause-value : goal.returns-then-later-gt0-clause-value
returns-then-later-gt0-clause-value g c =
    (with_later c.args.text.now c.args.is_dir (map g.M.HasPattern.member c.args.members.now) c.args.under.now c.args.index
    c.in_ok-later.later.after c.in_ok-later.later.left c.if-later-gt0.true c.in_ok-later.ensures.value).1

pub returns-then-later-gt0-clause-own : goal.returns-then-later-gt0-clause-own
returns-then-later-gt0-clause-own g c = λ m at a.
    (with_later c.args.text.now c.args.is_dir (map g.M.HasPattern.member c.args.members.now) c.args.under.now c.args.index
    c.in_ok-later.later.after c.in_ok-later.later.left c.if-later-gt0.true c.in_ok-later.ensures.value).0

pub returns-then-later-gt0-clause-count : goal.returns-then-later-gt0-clause-count
returns-then-later-gt0-clause-count g c = λ n less below.
    let ms = map g.M.HasPattern.member c.args.members.now in
    omega (arith, c.in_ok-later.ensures.count n (omega (arith, less)) below, bound_drop ms c.args.index (c.args.index + 1) (omega arith))

pub bounds-members-index : goal.bounds-members-index
bounds-members-index g c =
    let ms = map g.M.HasPattern.member c.args.members.now in
    let f = c.requires.here in
    omega (arith, slice_get_within ms c.args.index f.0 f.1, length-map c.args.members.now g.M.HasPattern.member)

pub offset_bounds-members-index : goal.offset_bounds-members-index
offset_bounds-members-index g c = omega (arith, bounds-members-index g c)

pub returns-in_err-yes-clause-succeeds : goal.returns-in_err-yes-clause-succeeds
returns-in_err-yes-clause-succeeds g c = λ short.
    let ms = map g.M.HasPattern.member c.args.members.now in
    let f = c.requires.here in
    let within : c.args.index < length c.args.members.now =
    omega (arith, slice_get_within ms c.args.index f.0 f.1, length-map c.args.members.now g.M.HasPattern.member) in
    absurd (false≢true (c.in_err-yes.ensures.succeeds (short_at g.M.HasPattern.member c.args.members.now c.args.index
    c.index-members-index.result within c.index-members-index.is short)))

pub returns-then-yes-clause-value : goal.returns-then-yes-clause-value
returns-then-yes-clause-value g c =
    let member = g.M.HasPattern.member in
    let xs = c.args.members.now in
    let ms = map member xs in
    let f = c.requires.here in
    let x = c.index-members-index.result in
    let left = c.in_ok-later.later.left in
    let within : c.args.index < length xs = omega (arith, slice_get_within ms c.args.index f.0 f.1, length-map xs member) in
    let none : c.in_ok-later.later.after ≡ 0 = omega (arith, c.if-later-gt0.false) in
    with_hit c.args.text.now c.args.is_dir ms c.args.under.now c.args.index left (member x)
    (mapped_at member xs c.args.index x within c.index-members-index.is) (c.in_ok-yes.ensures.value.0 c.if-yes.true)
    (subst (λ n. IsFoundUnder c.args.text.now c.args.is_dir ms c.args.under.now (c.args.index + 1) n left) none c.in_ok-later.ensures.value)

pub returns-then-yes-clause-own : goal.returns-then-yes-clause-own
returns-then-yes-clause-own g c = λ m at a. omega arith

pub returns-then-yes-clause-count : goal.returns-then-yes-clause-count
returns-then-yes-clause-count g c = λ n less below.
    let ms = map g.M.HasPattern.member c.args.members.now in
    let f = c.requires.here in
    omega (
      arith,
      c.in_ok-later.ensures.count n (omega (arith, less)) below,
      bound_step ms c.args.index (c.args.index + 1) f.0 f.1 f.2 (omega arith),
      c.saturating_add-passes.ensures,
      c.in_ok-yes.ensures.passes,
    )

pub returns-clause-value : goal.returns-clause-value
returns-clause-value g c =
    let ms = map g.M.HasPattern.member c.args.members.now in
    let left = c.in_ok-later.later.left in
    let none : c.in_ok-later.later.after ≡ 0 = omega (arith, c.if-later-gt0.false) in
    with_miss c.args.text.now c.args.is_dir ms c.args.under.now c.args.index left c.requires.apart
    (subst (λ n. IsFoundUnder c.args.text.now c.args.is_dir ms c.args.under.now (c.args.index + 1) n left) none c.in_ok-later.ensures.value)

pub returns-clause-own : goal.returns-clause-own
returns-clause-own g c = λ m h a.
    let member = g.M.HasPattern.member in
    let xs = c.args.members.now in
    let ms = map member xs in
    let f = c.requires.here in
    let x = c.index-members-index.result in
    let within : c.args.index < length xs = omega (arith, slice_get_within ms c.args.index f.0 f.1, length-map xs member) in
    let at = mapped_at member xs c.args.index x within c.index-members-index.is in
    absurd (false≢true (sym c.if-yes.false ∙ c.in_ok-yes.ensures.value.1
    (subst (λ (y : Member). Applies (chars c.args.text.now) c.args.is_dir y) (some_same m (member x) (sym h ∙ at)) a)))

pub returns-clause-count : goal.returns-clause-count
returns-clause-count g c = λ n less below.
    let ms = map g.M.HasPattern.member c.args.members.now in
    let f = c.requires.here in
    omega (
      arith,
      c.in_ok-later.ensures.count n (omega (arith, less)) below,
      bound_step ms c.args.index (c.args.index + 1) f.0 f.1 f.2 (omega arith),
      c.saturating_add-passes.ensures,
      c.in_ok-yes.ensures.passes,
    )
