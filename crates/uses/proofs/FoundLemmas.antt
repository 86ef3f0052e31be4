-- What a search has found among one item more, and when what was read is a text.
use Rattle.std.proofs.Common.{◌≡◌, ◌≢◌, ℕ, Bool, true, false, cond, List, [], ◌∷◌, ◌++◌, Option, None, Some, Result, Ok, Err, map, refl, sym, ap, subst, ◌∙◌}
use Rattle.std.proofs.lemmas.Grind.{flat_map-append}
use Rattle.std.proofs.lemmas.List.{append-nil, map-append}
use Rattle.std.proofs.lemmas.Str.{IsUtf8-from_is_utf8, is_utf8-from_IsUtf8}
use Rattle.std.specs.List.{flat_map}
use Rattle.std.specs.Str.{IsUtf8, is_utf8}
use Rattle.ignore.specs.FileWords.{Tree}
use Rattle.ignore.specs.Finished.{IsEnd, IsFinished}
use Rattle.ignore.specs.WalkWords.{DirEntry, Item, item_of}
use Rattle.ignore.specs.Words.{Error, Fault, InvalidData}
use Rattle.uses.specs.Searched.{Adds, Finds, file_in, hits_at, hits_in_files, problems_of, text_by}
use Rattle.uses.specs.declared.search.Found.{Found}

pub as_text : (bytes : List ℕ) (fault : Option Fault) → ((x : Fault) → fault ≢ Some x) → IsUtf8 bytes → text_by bytes fault ≡ Ok bytes
as_text bytes None unread utf8 = rw (is_utf8-from_IsUtf8 bytes utf8) refl
as_text bytes (Some f) unread utf8 = absurd (unread f refl)

by_test : (bytes : List ℕ) (b : Bool) → is_utf8 bytes ≡ b → (IsUtf8 bytes → ⊥)
    → cond {A = Result (List ℕ) Fault} b (Ok bytes) (Err InvalidData) ≡ Err InvalidData
by_test bytes true e bad = absurd (bad (IsUtf8-from_is_utf8 bytes e))
by_test bytes false e bad = refl

pub no_text : (bytes : List ℕ) (fault : Option Fault) → ((x : Fault) → fault ≢ Some x) → (IsUtf8 bytes → ⊥)
    → text_by bytes fault ≡ Err InvalidData
no_text bytes None unread bad = by_test bytes (is_utf8 bytes) refl bad
no_text bytes (Some f) unread bad = absurd (unread f refl)

finished_on : (items : List Item) (item : Item) → IsFinished items → ¬ IsEnd item → IsFinished (items ++ item ∷ [])
finished_on [] item h k = (k, tt)
finished_on (x ∷ xs) item h k = (h.0, finished_on xs item h.1 k)

pub finished_more : (ys : List (Result DirEntry Error)) (y : Result DirEntry Error) → IsFinished (map item_of ys) → ¬ IsEnd (item_of y)
    → IsFinished (map item_of (ys ++ y ∷ []))
finished_more ys y h k = subst IsFinished (sym (map-append item_of ys (y ∷ []))) (finished_on (map item_of ys) (item_of y) h k)

one_more : {A B : Type 0} (f : A → List B) (xs : List A) (x : A) → flat_map f (xs ++ x ∷ []) ≡ flat_map f xs ++ f x
one_more f xs x = flat_map-append f xs (x ∷ []) ∙ ap (λ ys. flat_map f xs ++ ys) (append-nil (f x))

found_on : (tree : Tree) (word : List ℕ) (items : List Item) (item : Item) (old new : Found) → Finds tree word items old
    → Adds old new (hits_in_files tree word item) (problems_of tree item) → Finds tree word (items ++ item ∷ []) new
found_on tree word items item old new h k = record {
  hits = k.hits ∙ (ap (λ hs. hs ++ hits_in_files tree word item) h.hits
      ∙ sym (ap (flat_map (hits_at tree word)) (one_more file_in items item)
      ∙ flat_map-append (hits_at tree word) (flat_map file_in items) (file_in item)));
  problems = k.problems ∙ (ap (λ ps. ps ++ problems_of tree item) h.problems ∙ sym (one_more (problems_of tree) items item));
}

pub found_more : (tree : Tree) (word : List ℕ) (ys : List (Result DirEntry Error)) (y : Result DirEntry Error) (old new : Found)
    → Finds tree word (map item_of ys) old
    → Adds old new (hits_in_files tree word (item_of y)) (problems_of tree (item_of y)) → Finds tree word (map item_of (ys ++ y ∷ [])) new
found_more tree word ys y old new h k =
    subst (λ (items : List Item). Finds tree word items new) (sym (map-append item_of ys (y ∷ [])))
    (found_on tree word (map item_of ys) (item_of y) old new h k)
