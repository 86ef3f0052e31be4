use Rattle.std.proofs.Common.{◌≡◌, inr, ◌∷◌, Bool, true, false, cond, List, Option, Some, Result, Ok, slice_get, refl, sym, ap, ◌∙◌, subst}
use Rattle.std.proofs.lemmas.Bool.{false≢true}
use Rattle.std.specs.declared.alloc.AllocError.{AllocError}
use Rattle.ignore_dir.specs.Lists.{Placed}
use Rattle.ignore_levels.specs.Levels.{IsChain, counts, has_rules, own_or}
use Rattle.ignore_levels.specs.Levels.IsChain.{a_level}
use Rattle.ignore_levels.specs.declared.list.Place.{Place}
use Rattle.ignore_levels.proofs.ChainLemmas.{chain-kept, mark-kept, ruled-kept}
use Rattle.ignore_levels.proofs.SlotLemmas.{keeps-within}
use Rattle.ignore_levels.proofs.PassLemmas.{branch-new, keeps-itself}
use Rattle.ignore_levels.proofs.list.Levels.add.Goals as goal

pub returns-then-not-counts-clause-chain : goal.returns-then-not-counts-clause-chain
returns-then-not-counts-clause-chain c = λ chain is below.
    let no : counts c.args.dir ≡ false = sym c.counts.ensures ∙ c.if-not-counts.true in
    subst (λ (l : List Placed). IsChain c.args.self.now.slots.items c.args.parent l)
    (sym (ap (λ (b : Bool). cond b ((c.args.dir, c.args.offset) ∷ chain) chain) no)) is

pub returns-in_err-put-clause-kept : goal.returns-in_err-put-clause-kept
returns-in_err-put-clause-kept c = λ place chain is. chain-kept _ _ (c.in_err-put.ensures.kept c.vacant-place.ensures.vacant) is

pub returns-in_err-put-clause-kept_within : goal.returns-in_err-put-clause-kept_within
returns-in_err-put-clause-kept_within c = λ len place chain is.
    chain-kept _ _ (keeps-within c.args.self.now.slots.items c.put.new.self.slots.items len (c.in_err-put.ensures.kept c.vacant-place.ensures.vacant)) is

pub returns-clause-kept : goal.returns-clause-kept
returns-clause-kept c = λ place chain is. chain-kept _ _ (c.in_ok-put.ensures.kept c.vacant-place.ensures.vacant) is

pub returns-clause-kept_within : goal.returns-clause-kept_within
returns-clause-kept_within c = λ len place chain is.
    chain-kept _ _ (keeps-within c.args.self.now.slots.items c.put.new.self.slots.items len (c.in_ok-put.ensures.kept c.vacant-place.ensures.vacant)) is

pub returns-clause-chain : goal.returns-clause-chain
returns-clause-chain c = λ chain is below.
    let dir = c.args.dir in
    let place = c.vacant-place.result in
    let vacant = c.vacant-place.ensures.vacant in
    let old = c.args.self.now.slots.items in
    let new = c.put.new.self.slots.items in
    let keeps = c.in_ok-put.ensures.kept vacant in
    let yes : counts dir ≡ true = sym c.counts.ensures ∙ c.if-not-counts.false in
    let ruled = c.own_or-ruled.ensures
    ∙ (ap (λ (b : Bool). own_or b place c.ruled.result) c.has_rules.ensures
    ∙ ap (own_or (has_rules dir) place) (c.ruled.ensures ∙ ruled-kept old new keeps is)) in
    let mark = c.own_or-mark.ensures ∙ ap (own_or dir.mark place) (c.mark.ensures ∙ mark-kept old new keeps is) in
    subst (λ (l : List Placed). IsChain new (Some place) l)
    (sym (ap (λ (b : Bool). cond b ((dir, c.args.offset) ∷ chain) chain) yes))
    (a_level (c.in_ok-put.ensures.put vacant) below ruled mark (chain-kept old new keeps is))

pub returns-then-not-counts-clause-levels : goal.returns-then-not-counts-clause-levels
returns-then-not-counts-clause-levels c = keeps-itself c.args.self.now.slots.items

pub returns-then-not-counts-clause-below : goal.returns-then-not-counts-clause-below
returns-then-not-counts-clause-below c = λ passed h. inr h

pub returns-in_err-put-clause-levels : goal.returns-in_err-put-clause-levels
returns-in_err-put-clause-levels c = c.in_err-put.ensures.kept c.vacant-place.ensures.vacant

pub returns-clause-levels : goal.returns-clause-levels
returns-clause-levels c = c.in_ok-put.ensures.kept c.vacant-place.ensures.vacant

pub returns-clause-below : goal.returns-clause-below
returns-clause-below c =
    let vacant = c.vacant-place.ensures.vacant in
    branch-new c.args.self.now.slots.items c.put.new.self.slots.items c.vacant-place.result _ vacant.0 (c.in_ok-put.ensures.put vacant)

pub returns-in_err-put-clause-filled : goal.returns-in_err-put-clause-filled
returns-in_err-put-clause-filled c = λ place next free slot counts.
    let same = c.vacant-place.ensures.filled place next free slot in
    let at = ap (λ (p : Place). slice_get c.args.self.now.slots.items p.index) same ∙ slot in
    absurd (false≢true (c.in_err-put.ensures.filled next at).0)

pub returns-clause-filled : goal.returns-clause-filled
returns-clause-filled c = λ place next free slot counts.
    let same = c.vacant-place.ensures.filled place next free slot in
    let at = ap (λ (p : Place). slice_get c.args.self.now.slots.items p.index) same ∙ slot in
    let put = c.in_ok-put.ensures.filled next at in
    (ap {B = Result (Option Place) AllocError} (λ (p : Place). Ok (Some p)) same, put.1, put.2)

pub returns-then-not-counts-clause-added : goal.returns-then-not-counts-clause-added
returns-then-not-counts-clause-added c = record {
  own = λ yes. absurd (false≢true (sym (sym c.counts.ensures ∙ c.if-not-counts.true) ∙ yes));
  shared = λ no. refl;
}

pub returns-clause-added : goal.returns-clause-added
returns-clause-added c = record {
  own = λ yes. record {
    own = c.vacant-place.result;
    level = _;
    same = refl;
    there = c.in_ok-put.ensures.put c.vacant-place.ensures.vacant;
    holds = refl;
    below = refl;
    begins = refl;
  };
  shared = λ no. absurd (false≢true (sym no ∙ (sym c.counts.ensures ∙ c.if-not-counts.false)));
}
