-- What adding, finding and dropping do to types in text order.
use Rattle.std.proofs.Common.{◌≡◌, ℕ, zero, suc, ◌<◌, ◌≤◌, Bool, true, false, cond, not, List, [], ◌∷◌, ◌++◌, Some, None, Result, Ok, Err}
use Rattle.std.proofs.Common.{length, get_or, set, take, drop, refl, sym, ap, ◌∙◌, subst, arith, add-one}
use Rattle.std.specs.Str.{bytes_eq}
use Rattle.std.specs.List.{AllWithin, AllZip, insert, remove}
use Rattle.std.proofs.lemmas.List.{take-append-drop}
use Rattle.std.specs.List.Sorted.{IsNonDecreasingBy, IsPartitionPoint, IsBinarySearchResult, IsSearchInRange}
use Rattle.std.specs.Ordering.{is_lt, ordering_index}
use Rattle.std.specs.declared.cmp.Ordering.{Ordering}
use Rattle.std.specs.declared.cmp.Ordering.TheVariants.{Less, Equal, Greater}
use Rattle.std.proofs.lemmas.Slice.Eq.{bytes_eq-Decides}
use Rattle.std.proofs.lemmas.List.Sorted.{searchable_from_sorted}
use Rattle.ignore_types.specs.Types.{Definition, text_cmp, AllAfter, IsAscending, definition_of, inserted, with_glob, without, IsSortedCopy}
use Rattle.ignore_types.specs.PlaceSteps.{AllBefore, IsAt, IsGap, IsPlace}
use Rattle.ignore_types.proofs.TextOrder.{order, same_from_equal, equal_from_same, differ_from_less, differ_from_less_back}
use Rattle.ignore_types.proofs.TextOrder.{greater_from_less, less_from_greater}

-- ---- edits at a place

pub with_glob-at : (name glob : List ℕ) (a b : List Definition) (d : Definition) → AllBefore name a → d.name ≡ name
    → with_glob name glob (a ++ d ∷ b) ≡ a ++ record { name = d.name; globs = d.globs ++ glob ∷ [] } ∷ b
with_glob-at name glob [] b d before named = ap (λ o. inserted o name glob d b (with_glob name glob b)) (equal_from_same d.name name named)
with_glob-at name glob (e ∷ es) b d before named =
    ap (λ o. inserted o name glob e (es ++ d ∷ b) (with_glob name glob (es ++ d ∷ b))) before.0
    ∙ ap (λ l. e ∷ l) (with_glob-at name glob es b d before.1 named)

pub with_glob-gap : (name glob : List ℕ) (a b : List Definition) → AllBefore name a → AllAfter name b
    → with_glob name glob (a ++ b) ≡ a ++ record { name = name; globs = glob ∷ [] } ∷ b
with_glob-gap name glob [] [] before after = refl
with_glob-gap name glob [] (d ∷ ds) before after =
    ap (λ o. inserted o name glob d ds (with_glob name glob ds)) (greater_from_less name d.name after.0)
with_glob-gap name glob (e ∷ es) b before after =
    ap (λ o. inserted o name glob e (es ++ b) (with_glob name glob (es ++ b))) before.0
    ∙ ap (λ l. e ∷ l) (with_glob-gap name glob es b before.1 after)

pub definition_of-at : (name : List ℕ) (a b : List Definition) (d : Definition) → AllBefore name a → d.name ≡ name
    → definition_of name (a ++ d ∷ b) ≡ Some d
definition_of-at name [] b d before named = ap (λ t. cond t (Some d) (definition_of name b)) ((bytes_eq-Decides d.name name).1 named)
definition_of-at name (e ∷ es) b d before named =
    ap (λ t. cond t (Some e) (definition_of name (es ++ d ∷ b))) (differ_from_less e.name name before.0)
    ∙ definition_of-at name es b d before.1 named

pub definition_of-after : (name : List ℕ) (ds : List Definition) → AllAfter name ds → definition_of name ds ≡ None
definition_of-after name [] after = refl
definition_of-after name (d ∷ ds) after =
    ap (λ t. cond t (Some d) (definition_of name ds)) (differ_from_less_back name d.name after.0) ∙ definition_of-after name ds after.1

pub definition_of-gap : (name : List ℕ) (a b : List Definition) → AllBefore name a → AllAfter name b → definition_of name (a ++ b) ≡ None
definition_of-gap name [] b before after = definition_of-after name b after
definition_of-gap name (e ∷ es) b before after =
    ap (λ t. cond t (Some e) (definition_of name (es ++ b))) (differ_from_less e.name name before.0)
    ∙ definition_of-gap name es b before.1 after

pub without-after : (name : List ℕ) (ds : List Definition) → AllAfter name ds → without name ds ≡ ds
without-after name [] after = refl
without-after name (d ∷ ds) after =
    ap (λ t. cond (not t) (d ∷ without name ds) (without name ds)) (differ_from_less_back name d.name after.0)
    ∙ ap (λ l. d ∷ l) (without-after name ds after.1)

pub without-at : (name : List ℕ) (a b : List Definition) (d : Definition) → AllBefore name a → d.name ≡ name → AllAfter name b
    → without name (a ++ d ∷ b) ≡ a ++ b
without-at name [] b d before named after =
    ap (λ t. cond (not t) (d ∷ without name b) (without name b)) ((bytes_eq-Decides d.name name).1 named) ∙ without-after name b after
without-at name (e ∷ es) b d before named after =
    ap (λ t. cond (not t) (e ∷ without name (es ++ d ∷ b)) (without name (es ++ d ∷ b))) (differ_from_less e.name name before.0)
    ∙ ap (λ l. e ∷ l) (without-at name es b d before.1 named after)

pub without-gap : (name : List ℕ) (a b : List Definition) → AllBefore name a → AllAfter name b → without name (a ++ b) ≡ a ++ b
without-gap name [] b before after = without-after name b after
without-gap name (e ∷ es) b before after =
    ap (λ t. cond (not t) (e ∷ without name (es ++ b)) (without name (es ++ b))) (differ_from_less e.name name before.0)
    ∙ ap (λ l. e ∷ l) (without-gap name es b before.1 after)

-- ---- the order stays

pub AllAfter-from_less : (m name : List ℕ) (ds : List Definition) → text_cmp m name ≡ Less → AllAfter name ds → AllAfter m ds
AllAfter-from_less m name [] less after = tt
AllAfter-from_less m name (d ∷ ds) less after = (order.trans m name d.name less after.0, AllAfter-from_less m name ds less after.1)

AllAfter-placed : (m name glob : List ℕ) (d : Definition) (ds more : List Definition) (o : Ordering) → text_cmp m name ≡ Less
    → text_cmp m d.name ≡ Less → AllAfter m ds → AllAfter m more → AllAfter m (inserted o name glob d ds more)
AllAfter-placed m name glob d ds more Less less first after later = (first, later)
AllAfter-placed m name glob d ds more Equal less first after later = (first, after)
AllAfter-placed m name glob d ds more Greater less first after later = (less, (first, after))

AllAfter-with_glob : (m name glob : List ℕ) (ds : List Definition) → text_cmp m name ≡ Less → AllAfter m ds
    → AllAfter m (with_glob name glob ds)
AllAfter-with_glob m name glob [] less after = (less, tt)
AllAfter-with_glob m name glob (d ∷ ds) less after =
    AllAfter-placed m name glob d ds (with_glob name glob ds) (text_cmp d.name name) less after.0 after.1
    (AllAfter-with_glob m name glob ds less after.1)

IsAscending-placed : (name glob : List ℕ) (d : Definition) (ds : List Definition) (o : Ordering) → text_cmp d.name name ≡ o
    → AllAfter d.name ds → IsAscending ds → IsAscending (with_glob name glob ds)
    → IsAscending (inserted o name glob d ds (with_glob name glob ds))
IsAscending-placed name glob d ds Less compared after rest more = (AllAfter-with_glob d.name name glob ds compared after, more)
IsAscending-placed name glob d ds Equal compared after rest more = (after, rest)
IsAscending-placed name glob d ds Greater compared after rest more =
    let less = less_from_greater d.name name compared in ((less, AllAfter-from_less name d.name ds less after), (after, rest))

pub IsAscending-with_glob : (name glob : List ℕ) (ds : List Definition) → IsAscending ds → IsAscending (with_glob name glob ds)
IsAscending-with_glob name glob [] ascending = (tt, tt)
IsAscending-with_glob name glob (d ∷ ds) ascending =
    IsAscending-placed name glob d ds (text_cmp d.name name) refl ascending.0 ascending.1 (IsAscending-with_glob name glob ds ascending.1)

AllAfter-kept : (m : List ℕ) (d : Definition) (ds : List Definition) (keeps : Bool) → text_cmp m d.name ≡ Less → AllAfter m ds
    → AllAfter m (cond keeps (d ∷ ds) ds)
AllAfter-kept m d ds true first after = (first, after)
AllAfter-kept m d ds false first after = after

AllAfter-without : (m name : List ℕ) (ds : List Definition) → AllAfter m ds → AllAfter m (without name ds)
AllAfter-without m name [] after = tt
AllAfter-without m name (d ∷ ds) after =
    AllAfter-kept m d (without name ds) (not (bytes_eq d.name name)) after.0 (AllAfter-without m name ds after.1)

IsAscending-kept : (d : Definition) (ds : List Definition) (keeps : Bool) → AllAfter d.name ds → IsAscending ds
    → IsAscending (cond keeps (d ∷ ds) ds)
IsAscending-kept d ds true after rest = (after, rest)
IsAscending-kept d ds false after rest = rest

pub IsAscending-without : (name : List ℕ) (ds : List Definition) → IsAscending ds → IsAscending (without name ds)
IsAscending-without name [] ascending = tt
IsAscending-without name (d ∷ ds) ascending =
    IsAscending-kept d (without name ds) (not (bytes_eq d.name name)) (AllAfter-without d.name name ds ascending.0)
    (IsAscending-without name ds ascending.1)

-- ---- what a binary search finds

AllAfter-middle : (m : List ℕ) (a b : List Definition) (d : Definition) → AllAfter m (a ++ d ∷ b) → text_cmp m d.name ≡ Less
AllAfter-middle m [] b d after = after.0
AllAfter-middle m (e ∷ es) b d after = AllAfter-middle m es b d after.1

pub IsAt-found : (name : List ℕ) (ds : List Definition) (i : ℕ) → IsAscending ds → i < length ds
    → ((x : Definition) → text_cmp (get_or ds i x).name name ≡ Equal) → IsAt name ds i
IsAt-found name [] i ascending within tied = absurd (omega arith)
IsAt-found name (d ∷ ds) zero ascending within tied =
    let named : d.name ≡ name = same_from_equal d.name name (tied d) in
    record {
      definition = d;
      within = within;
      named = named;
      here = λ x. refl;
      split = refl;
      put = λ x. refl;
      before = tt;
      after = subst
          (λ n. AllAfter n ds) named ascending.0;
    }
IsAt-found name (d ∷ ds) (suc i) ascending within tied =
    let rest = IsAt-found name ds i ascending.1 (omega arith) tied in
    let first : text_cmp d.name rest.definition.name
    ≡ Less = AllAfter-middle d.name (take i ds) (drop (suc i) ds) rest.definition (subst (AllAfter d.name) rest.split ascending.0) in
    record {
      definition = rest.definition;
      within = within;
      named = rest.named;
      here = rest.here;
      split = ap
          (λ l. d ∷ l) rest.split;
      put = λ x. ap (λ l. d ∷ l) (rest.put x);
      before =
          (subst (λ n. text_cmp d.name n ≡ Less) rest.named first, rest.before);
      after = rest.after;
    }

AllBefore-take : (name : List ℕ) (ds : List Definition) (i : ℕ) → i ≤ length ds → AllWithin (λ d. text_cmp d.name name ≡ Less) ds 0 i
    → AllBefore name (take i ds)
AllBefore-take name [] zero within less = tt
AllBefore-take name [] (suc i) within less = tt
AllBefore-take name (d ∷ ds) zero within less = tt
AllBefore-take name (d ∷ ds) (suc i) within less = (
  less 0 d (omega arith) (omega arith),
  AllBefore-take name ds i (omega arith)
      (λ k x low high. less (suc k) x (omega arith) (omega arith)),
)

AllAfter-drop : (name : List ℕ) (ds : List Definition) (i : ℕ) → AllWithin (λ d. text_cmp d.name name ≡ Greater) ds i (length ds)
    → AllAfter name (drop i ds)
AllAfter-drop name [] zero greater = tt
AllAfter-drop name [] (suc i) greater = tt
AllAfter-drop name (d ∷ ds) zero greater = (
  less_from_greater d.name name (greater 0 d (omega arith) (omega arith)),
  AllAfter-drop name ds zero (λ k x low high. greater (suc k) x (omega arith) (omega arith)),
)
AllAfter-drop name (d ∷ ds) (suc i) greater = AllAfter-drop name ds i (λ k x low high. greater (suc k) x (omega arith) (omega arith))

pub IsGap-found : (name : List ℕ) (ds : List Definition) (i : ℕ) → i ≤ length ds
    → IsPartitionPoint (λ d. text_cmp d.name name ≡ Less) (λ d. text_cmp d.name name ≡ Greater) ds i → IsGap name ds i
IsGap-found name ds i within point =
    record { within = within; before = AllBefore-take name ds i within point.0; after = AllAfter-drop name ds i point.1 }

neighbours : (ds : List Definition) → IsAscending ds → (k : ℕ) (x : Definition) → suc k < length ds
    → is_lt (text_cmp (get_or ds (suc k) x).name (get_or ds k x).name) ≡ false
neighbours [] ascending k x within = absurd (omega arith)
neighbours (d ∷ []) ascending k x within = absurd (omega arith)
neighbours (d ∷ (e ∷ ds)) ascending zero x within = ap is_lt (greater_from_less d.name e.name ascending.0.0)
neighbours (d ∷ (e ∷ ds)) ascending (suc k) x within = neighbours (e ∷ ds) ascending.1 k x (omega arith)

pub rising : (name : List ℕ) (ds : List Definition) → IsAscending ds → IsNonDecreasingBy (λ d. ordering_index (text_cmp d.name name)) ds
rising name ds ascending =
    searchable_from_sorted order (λ d. d.name) ds name (λ k x low within. rw add-one (neighbours ds ascending k x (omega arith)))

pub IsPlace-found : (name : List ℕ) (ds : List Definition) (r : Result ℕ ℕ) → IsAscending ds → IsSearchInRange r (length ds)
    → IsBinarySearchResult (λ d. text_cmp d.name name) ds r → IsPlace name ds r
IsPlace-found name ds (Ok i) ascending within found = IsAt-found name ds i ascending within found
IsPlace-found name ds (Err i) ascending within found = IsGap-found name ds i within (found (rising name ds ascending))

-- ---- the edits at the place that was found

abbrev pub new_definition : List ℕ → List ℕ → Definition
new_definition name glob = record { name = name; globs = glob ∷ [] }

abbrev pub longer : Definition → List ℕ → Definition
longer d glob = record { name = d.name; globs = d.globs ++ glob ∷ [] }

pub definition_of-found : (name : List ℕ) (ds : List Definition) (i : ℕ) (at : IsAt name ds i) → definition_of name ds ≡ Some at.definition
definition_of-found name ds i at =
    ap (definition_of name) at.split ∙ definition_of-at name (take i ds) (drop (suc i) ds) at.definition at.before at.named

pub definition_of-absent : (name : List ℕ) (ds : List Definition) (i : ℕ) → IsGap name ds i → definition_of name ds ≡ None
definition_of-absent name ds i gap =
    ap (definition_of name) (sym (take-append-drop i ds)) ∙ definition_of-gap name (take i ds) (drop i ds) gap.before gap.after

pub with_glob-found : (name glob : List ℕ) (ds : List Definition) (i : ℕ) (at : IsAt name ds i)
    → with_glob name glob ds ≡ set ds i (longer at.definition glob)
with_glob-found name glob ds i at =
    ap (with_glob name glob) at.split
    ∙ with_glob-at name glob (take i ds) (drop (suc i) ds) at.definition at.before at.named
    ∙ sym (at.put (longer at.definition glob))

pub with_glob-absent : (name glob : List ℕ) (ds : List Definition) (i : ℕ) → IsGap name ds i
    → with_glob name glob ds ≡ insert ds i (new_definition name glob)
with_glob-absent name glob ds i gap =
    ap (with_glob name glob) (sym (take-append-drop i ds)) ∙ with_glob-gap name glob (take i ds) (drop i ds) gap.before gap.after

pub without-found : (name : List ℕ) (ds : List Definition) (i : ℕ) → IsAt name ds i → without name ds ≡ remove ds i
without-found name ds i at =
    ap (without name) at.split ∙ without-at name (take i ds) (drop (suc i) ds) at.definition at.before at.named at.after

pub without-absent : (name : List ℕ) (ds : List Definition) (i : ℕ) → IsGap name ds i → without name ds ≡ ds
without-absent name ds i gap =
    ap (without name) (sym (take-append-drop i ds)) ∙ without-gap name (take i ds) (drop i ds) gap.before gap.after ∙ take-append-drop i ds

-- ---- copies with sorted globs

AllAfter-copies : (m : List ℕ) (ds copies : List Definition) → AllZip IsSortedCopy ds copies → AllAfter m ds → AllAfter m copies
AllAfter-copies m [] [] same after = tt
AllAfter-copies m [] (e ∷ es) same after = absurd same
AllAfter-copies m (d ∷ ds) [] same after = absurd same
AllAfter-copies m (d ∷ ds) (e ∷ es) same after =
    (subst (λ n. text_cmp m n ≡ Less) (sym same.0.same_name) after.0, AllAfter-copies m ds es same.1 after.1)

pub IsAscending-copies : (ds copies : List Definition) → AllZip IsSortedCopy ds copies → IsAscending ds → IsAscending copies
IsAscending-copies [] [] same ascending = tt
IsAscending-copies [] (e ∷ es) same ascending = absurd same
IsAscending-copies (d ∷ ds) [] same ascending = absurd same
IsAscending-copies (d ∷ ds) (e ∷ es) same ascending = (
  subst (λ n. AllAfter n es) (sym same.0.same_name) (AllAfter-copies d.name ds es same.1 ascending.0),
  IsAscending-copies ds es same.1 ascending.1,
)
