use Rattle.std.proofs.Common.{◌≡◌, IfSome, Some, slice_get, sym, subst, ◌∙◌}
use Rattle.ignore_rules.specs.Rules.{Rule}
use Rattle.ignore_every.specs.Findings.{AreNamed, HasAllReasons}
use Rattle.ignore_every.specs.Rows.{table_of}
use Rattle.ignore_every.specs.Scopes.{scope_of}
use Rattle.ignore_every.proofs.Overruling.{all_from}
use Rattle.ignore_every.proofs.judge.Judge.are_all.Goals as goal

pub returns : goal.returns
returns c = λ yes.
    let judge = c.args.self.now in
    let left = judge.search.left.rules.now in
    let index = c.args.index in
    let named = c.args.named.now in
    let table = table_of judge.search.left.rows.now in
    let sound = c.requires.sound in
    let only = c.in-Some.is_only_dir in
    let at : (rule : Rule) × (slice_get c.rules.result.now index ≡ Some rule) × (only ≡ rule.is_only_dir) =
    subst (λ o. IfSome o (λ b. (rule : Rule) × (slice_get c.rules.result.now index ≡ Some rule) × (b ≡ rule.is_only_dir))) c.in-Some.is
    c.only_dir_at.ensures in
    let own : slice_get left index ≡ Some at.0 = subst (λ rs. slice_get rs index ≡ Some at.0) (c.rules.ensures ∙ sym sound.same) at.1 in
    let each : AreNamed table judge.trail.places.items only index named =
    subst (λ ps. AreNamed table ps only index named) c.deref.ensures.value (c.are_named.ensures yes) in
    subst (λ rs. HasAllReasons rs index named) sound.same
    (all_from (scope_of judge.search) judge.trail.places.items sound.sound c.requires.mode index at.0 own only at.2 named each)
