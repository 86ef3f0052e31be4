use Rattle.std.proofs.Common.{◌≡◌, ℕ, All, List, Option, None, Some, true, string_bytes}
use Rattle.std.specs.BTreeMap.{get_by_text}
use Rattle.ignore_dir.specs.Lists.{Placed}
use Rattle.ignore_levels.specs.Levels.{IsChain, Keeps, Passes, level_at, slots_of}
use Rattle.ignore_levels.specs.declared.list.Place.{Place}
use Rattle.ignore_query.specs.declared.kept.Kept.{Kept}
use Rattle.ignore_query.specs.Forget.{IsFreed, is_key_in}
use Rattle.ignore_query.proofs.forget.free_levels.Given as goal

abbrev pub invariant-loop-key : goal.invariant-loop-key
invariant-loop-key l = record {
  levels : Keeps (slots_of l.levels) (slots_of l.fn.levels);
  kept : (place : Option Place) (chain : List Placed) → IsChain (slots_of l.fn.levels) place chain
      → ((key : List ℕ) (k : Kept) (at : Place) → get_by_text l.dirs key ≡ Some k → is_key_in l.dir key ≡ true
      → IsFreed (slots_of l.fn.levels) k l.floor at → ¬ Passes (slots_of l.fn.levels) place at)
      → IsChain (slots_of l.levels) place chain;
  freed : All (λ e. (at : Place) → is_key_in l.dir (string_bytes e.0.now) ≡ true → IsFreed (slots_of l.fn.levels) e.1.now l.floor at
      → level_at (slots_of l.levels) at ≡ None) l.yielded;
}
