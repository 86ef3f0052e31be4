use Rattle.std.proofs.Common.{◌≡◌, ◌≤◌, ℕ, All, List, None, Some, true, Bor, String, Global, map, sym, ap, ◌∙◌, subst, inl, inr}
use Rattle.std.proofs.Common.{string_bytes, arith}
use Rattle.std.proofs.lemmas.List.Elements.{All-map, All-push, All-weaker}
use Rattle.std.proofs.lemmas.Map.Iter.{iter_end}
use Rattle.std.proofs.lemmas.Map.Views.{All-turn}
use Rattle.std.specs.BTreeMap.{get_by_text}
use Rattle.std.specs.Map.Iter.{deref_pair}
use Rattle.ignore_levels.specs.Levels.{floor_at, level_at, slots_of}
use Rattle.ignore_levels.specs.declared.list.Place.{Place}
use Rattle.ignore_levels.proofs.PassLemmas.{floor-kept, keeps-then, passes-kept}
use Rattle.ignore_query.specs.declared.kept.Kept.{Kept}
use Rattle.ignore_query.specs.Forget.{IsFreed, is_key_in}
use Rattle.ignore_query.proofs.EntryLemmas.{Entry, found-entry, freed-now, none-kept}
use Rattle.ignore_query.proofs.forget.free_levels.Goals as goal

abbrev Shown : Type 0
Shown = Bor (String Global) × Bor Kept

longer : (a b n : ℕ) → n ≤ a → a ≤ b → n ≤ b
longer a b n h k = omega (arith, h, k)

pub loop-key-preserved-then-is_key_in : goal.loop-key-preserved-then-is_key_in
loop-key-preserved-then-is_key_in c =
    let old = slots_of c.args.levels.now in
    let now = slots_of c.loop-key.levels in
    let new = slots_of c.free_from.new.levels in
    let inv = c.loop-key.invariant in
    let key = string_bytes c.in-Some.key.now in
    let k = c.in-Some.kept.now in
    let dirs = c.args.dirs.now in
    let in' : is_key_in c.args.dir.now key ≡ true =
    ap (is_key_in c.args.dir.now) (sym c.as_str.ensures.value) ∙ (sym c.is_key_in.ensures ∙ c.if-is_key_in.true) in
    let found : get_by_text dirs key ≡ Some k =
    All-turn deref_pair (λ (e : Entry). get_by_text dirs (string_bytes e.0) ≡ Some e.1) _ _ _ _ _ _ _ c.iter-key-items.ensures.found
    (c.into_iter-key-iterator.ensures.into_iter_gives ∙ c.iter-key-items.ensures.rest) c.loop-key.yielded_by c.in-Some.is c.next.ensures.steps in
    let P : Shown → Type 0 = λ e. (at : Place) → is_key_in c.args.dir.now (string_bytes e.0.now) ≡ true
    → IsFreed old e.1.now c.args.floor at → level_at now at ≡ None in
    let Q : Shown → Type 0 = λ e. (at : Place) → is_key_in c.args.dir.now (string_bytes e.0.now) ≡ true
    → IsFreed old e.1.now c.args.floor at → level_at new at ≡ None in
    record {
      levels = keeps-then _ _ _ c.free_from.ensures.levels inv.levels;
      kept = λ place chain is apart.
          c.free_from.ensures.kept place chain (inv.kept place chain is apart) (λ at freed passes.
          apart key k at found in' (
            freed.0,
            longer (floor_at now (Some at)) (floor_at old (Some at)) c.args.floor freed.1
                (floor-kept now old at inv.levels),
          ) (passes-kept inv.levels passes));
      freed = All-push Q c.loop-key.yielded (c.in-Some.key, c.in-Some.kept)
          (All-weaker P Q (λ e h at inside f. none-kept new now at c.free_from.ensures.levels (h at inside f)) c.loop-key.yielded inv.freed)
          (λ at inside f. elim (freed-now now old k c.args.floor at inv.levels f) as (λ _. level_at new at ≡ None) [
            | inl e ↦ none-kept new now at c.free_from.ensures.levels e
            | inr g ↦ c.free_from.ensures.freed at g
          ]);
    }

pub returns-clause-freed : goal.returns-clause-freed
returns-clause-freed c = λ key k at found inside freed.
    let old = slots_of c.args.levels.now in
    let now = slots_of c.loop-key.levels in
    let dirs = c.args.dirs.now in
    let P : List ℕ → Kept → Type 0 = λ t q. (at : Place) → is_key_in c.args.dir.now t ≡ true → IsFreed old q c.args.floor at
    → level_at now at ≡ None in
    let all : map deref_pair c.loop-key.yielded ≡ dirs.entries =
    (iter_end deref_pair dirs.entries c.loop-key.yielded _ _ _ _ (c.into_iter-key-iterator.ensures.into_iter_gives
    ∙ c.iter-key-items.ensures.rest) c.loop-key.yielded_by c.in-None.is c.next.ensures.steps).0 in
    let each = subst (All (λ (e : Entry). P (string_bytes e.0) e.1)) all
    (All-map (λ (e : Entry). P (string_bytes e.0) e.1) deref_pair c.loop-key.yielded c.loop-key.invariant.freed) in
    found-entry P key dirs.entries each k found at inside freed
