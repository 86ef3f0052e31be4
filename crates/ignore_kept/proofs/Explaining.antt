-- A matcher that is asked for a reason is one of what the handle keeps.
use Rattle.std.proofs.Common.{◌≡◌, Bool, Result, Ok, Err, IfOk, IfErr, ap, subst}
use Rattle.ignore.specs.WalkWords.{Agrees, IncrementalIgnore, IncrementalMatch, Stays, query, query_why, query_why_of}
use Rattle.ignore_base.specs.Text.{Path}
use Rattle.ignore_files.specs.Memory.{Memory}
use Rattle.ignore_kept.proofs.Asking.{matched}
use Rattle.ignore_kept.specs.Explained.{Explains, Reasons, explained_in}
use Rattle.ignore_kept.specs.Kinds.{matcher_in, tree_in}
use Rattle.ignore_kept.specs.Matching.{InScene, Matches, keeping}
use Rattle.ignore_kept.specs.Trees as tree
use Rattle.ignore_kept.specs.declared.kept.Kept.{Kept}
use Rattle.ignore_kept.specs.declared.stopped.Stopped.{Stopped}
use Rattle.ignore_kept.specs.declared.stopped.Stopped.TheVariants.{Memory as Full}
use Rattle.ignore_why.specs.declared.explanation.Explanation.{Explanation}

module _ (kept files : Kept) (path text : Path) (is_dir : Bool) (old : IncrementalIgnore) (told : Memory) (new : IncrementalIgnore)
    (is : kept ≡ keeping old) (t : files ≡ tree.keeping told) (e : text ≡ path) (agrees : InScene old told (λ g. Agrees g new.cache))
    (stays : Stays old.cache new.cache) (same : new.asked ≡ old.asked) where
  reasons : (x : Explanation) → InScene old told (λ g. query_why_of x.reason ≡ query_why g text is_dir)
      → Reasons kept files path is_dir (explained_in (Ok x))
  reasons x why =
      subst (λ (p : Path). Reasons kept files p is_dir (explained_in (Ok x))) e (old, told, ap matcher_in is, ap tree_in t, why)

  -- an answer with its reason, or none, is that of what the handle keeps
  pub explained : (r : Result Explanation Stopped) → InScene old told (λ g. IfOk r (λ x. x.answer ≡ (query g text is_dir).0))
      → InScene old told (λ g. IfOk r (λ x. query_why_of x.reason ≡ query_why g text is_dir)) → IfErr r (λ s. s ≡ Full)
      → Explains kept files path is_dir (explained_in r) (keeping new)
  explained (Ok x) value why memory =
      (matched kept files path text is_dir old told (Ok x.answer) new is t e value agrees stays same tt, reasons x why)
  explained (Err s) value why memory =
      (matched kept files path text is_dir old told (Err s) new is t e (λ loads are agree. tt) agrees stays same memory, tt)

-- out of memory for its texts, a matcher has answered: it stays as it would without an answer
pub unspoken : (kept files : Kept) (path : Path) (is_dir : Bool) (m : IncrementalMatch) (new : Kept)
    → Matches kept files path is_dir (Ok m) new → Matches kept files path is_dir (Err Full) new
unspoken kept files path is_dir m new (before, after, told, is, t, kept_new, stays, value) =
    (before, after, told, is, t, kept_new, stays)
