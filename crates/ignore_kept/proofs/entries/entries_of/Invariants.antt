use Rattle.std.proofs.Common.{◌≡◌, ℕ, Some, length, map, slice_get, take}
use Rattle.ignore_guide.specs.declared.judge.Entry.{Entry}
use Rattle.ignore_kept.specs.Listings.{is_dir_kind, known}
use Rattle.ignore_kept.proofs.entries.entries_of.Given as goal

-- the entries are those of the names before this one
abbrev pub invariant-loop-i : goal.invariant-loop-i
invariant-loop-i l = record {
  count : length l.entries.items ≡ l.i;
  named : map (λ e. e.name.now) l.entries.items ≡ map (λ n. n.now) (take l.i l.names);
  dirs : (i : ℕ) (e : Entry) → slice_get l.entries.items i ≡ Some e → e.is_dir ≡ is_dir_kind (slice_get l.listed.kinds.now i);
  sized : (i : ℕ) (e : Entry) → slice_get l.entries.items i ≡ Some e → e.size ≡ known (slice_get l.listed.sizes.now i);
}
