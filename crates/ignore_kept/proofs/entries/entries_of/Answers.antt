-- One entry more.
use Rattle.std.proofs.Common.{◌≡◌, ◌∷◌, [], ◌++◌, ◌+◌, ℕ, List, Some, length, map, slice_get, get_or, sym, ap, subst, ◌∙◌}
use Rattle.std.proofs.lemmas.List.{length_push, map_more, map_push}
use denote.Bor.{Bor}
use Rattle.ignore_guide.specs.declared.judge.Entry.{Entry}
use Rattle.ignore_kept.proofs.Named.{entry_more}
use Rattle.ignore_kept.specs.Listings.{is_dir_kind, known}
use Rattle.ignore_kept.proofs.entries.entries_of.Goals as goal

pub loop-i-preserved : goal.loop-i-preserved
loop-i-preserved c =
    let i = c.loop-i.i in
    let inv = c.loop-i.invariant in
    let names = c.args.names.now in
    let kinds = c.args.listed.kinds.now in
    let sizes = c.args.listed.sizes.now in
    let nothing : Bor (List ℕ) = record { ref_ptr = (0, 0); now = [] } in
    let before = c.loop-i.entries.items in
    let e : Entry = record { name = get_or names i nothing; is_dir = c.is_dir_at.result; size = c.size_at.result } in
    let items : c.push.new.self.items ≡ before ++ e ∷ [] = c.in_ok-push.ensures.items in
    record {
      count = ap length items ∙ (length_push before e ∙ ap (λ (n : ℕ). n + 1) inv.count);
      named = ap (map (λ (x : Entry). x.name.now)) items ∙ (map_push (λ (x : Entry). x.name.now) before e
          ∙ (ap (λ (l : List (List ℕ)). l ++ e.name.now ∷ []) inv.named
          ∙ sym (map_more (λ (n : Bor (List ℕ)). n.now) names i nothing c.loop-i-test.true)));
      dirs = subst (λ (l : List Entry). (k : ℕ) (x : Entry) → slice_get l k ≡ Some x → x.is_dir ≡ is_dir_kind (slice_get kinds k)) (sym items)
          (entry_more (λ x. x.is_dir) (λ k. is_dir_kind (slice_get kinds k)) before e i inv.count c.is_dir_at.ensures inv.dirs);
      sized = subst (λ (l : List Entry). (k : ℕ) (x : Entry) → slice_get l k ≡ Some x → x.size ≡ known (slice_get sizes k)) (sym items)
          (entry_more (λ x. x.size) (λ k. known (slice_get sizes k)) before e i inv.count c.size_at.ensures inv.sized);
    }
