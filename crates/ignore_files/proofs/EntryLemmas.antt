-- One entry more in a directory.
use Rattle.std.proofs.Common.{◌≡◌, ℕ, Bool, true, false, cond, List, [], ◌∷◌, ◌++◌, Some, None, bytes_eq, refl, ap, sym, ◌∙◌}
use Rattle.std.proofs.lemmas.Slice.Eq.{bytes_eq-Decides}
use Rattle.ignore_files.specs.Entries.{node_named}
use Rattle.ignore_files.specs.declared.types.FileType.{FileType}
use Rattle.ignore_files.specs.declared.memory.entry.Entry.{Entry}
use Rattle.ignore_files.specs.declared.memory.entry.Entry.TheVariants.{Named, Nameless}

pub named_nameless : (q : List ℕ) (es : List Entry) → node_named q (es ++ Nameless ∷ []) ≡ node_named q es
named_nameless q [] = refl
named_nameless q (Named n t i ∷ es) = ap (cond (bytes_eq n q) (Some i)) (named_nameless q es)
named_nameless q (Nameless ∷ es) = named_nameless q es

named_last : (q n : List ℕ) (t : FileType) (i : ℕ) (es : List Entry) → bytes_eq n q ≡ false → node_named q (es ++ Named n t i ∷ []) ≡ node_named q es
named_last q n t i [] e = ap (λ b. cond b (Some i) None) e
named_last q n t i (Named m u j ∷ es) e = ap (cond (bytes_eq m q) (Some j)) (named_last q n t i es e)
named_last q n t i (Nameless ∷ es) e = named_last q n t i es e

named_new : (q n : List ℕ) (t : FileType) (i : ℕ) (es : List Entry) → bytes_eq n q ≡ true → node_named q es ≡ None
    → node_named q (es ++ Named n t i ∷ []) ≡ Some i
named_new q n t i [] e h = ap (λ b. cond b (Some i) None) e
named_new q n t i (Named m u j ∷ es) e h = elsewhere (bytes_eq m q) h (named_new q n t i es e)
  where
    elsewhere : (b : Bool) → cond b (Some j) (node_named q es) ≡ None → (node_named q es ≡ None → node_named q (es ++ Named n t i ∷ []) ≡ Some i)
        → cond b (Some j) (node_named q (es ++ Named n t i ∷ [])) ≡ Some i
    elsewhere true k later = cc
    elsewhere false k later = later k
named_new q n t i (Nameless ∷ es) e h = named_new q n t i es e h

-- a node under a new name is found by it, and every other name as before
pub named_more : (q n : List ℕ) (t : FileType) (i : ℕ) (es : List Entry) → node_named n es ≡ None
    → node_named q (es ++ Named n t i ∷ []) ≡ cond (bytes_eq n q) (Some i) (node_named q es)
named_more q n t i es h = either (bytes_eq n q) refl
  where
    either : (b : Bool) → bytes_eq n q ≡ b → node_named q (es ++ Named n t i ∷ []) ≡ cond b (Some i) (node_named q es)
    either true e = named_new q n t i es e (ap (λ m. node_named m es) (sym ((bytes_eq-Decides n q).0 e)) ∙ h)
    either false e = named_last q n t i es e
