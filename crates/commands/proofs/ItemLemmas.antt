-- What is written for the items of a walk, one more at a time.
use Rattle.std.proofs.Common.{◌≡◌, ◌≢◌, ◌∙◌, ◌⊎◌, ℕ, All, Bool, ◌||◌, List, [], ◌∷◌, ◌++◌, IfErr, None, Option, Result, Some, Err, Ok, inl, inr, map, refl, sym, ap, subst}
use Rattle.std.proofs.lemmas.Grind.{flat_map-append}
use Rattle.std.proofs.lemmas.List.{append-nil, map-append}
use Rattle.std.proofs.lemmas.List.Elements.{All-push}
use Rattle.std.proofs.lemmas.List.Folds.{list_any-append}
use Rattle.std.specs.Io.KnownBytes.{Appends}
use Rattle.std.specs.List.{flat_map, list_any}
use Rattle.ignore_base.specs.Problem.{Problem, memory, problem_of}
use Rattle.ignore_base.specs.declared.error.Error.{Error}
use Rattle.ignore_walk.specs.Entry.{Item, item_of}
use Rattle.ignore_walk.specs.declared.entry.DirEntry.{DirEntry}
use Rattle.commands.specs.declared.stop.Stop.{Stop}
use Rattle.commands.specs.declared.stop.Stop.TheVariants.{Usage, Memory, Write, Silence}
use Rattle.commands.specs.Listing.{IsOf, is_reported, lines_of, report_line, reports_of}
use Rattle.commands.specs.Stops.{EndsAfter}
use Rattle.commands.proofs.LineLemmas.{appends_nothing, appends_on, or-false}

one_more : (f : Item → List ℕ) (items : List Item) (item : Item) → flat_map f (items ++ item ∷ []) ≡ flat_map f items ++ f item
one_more f items item = flat_map-append f items (item ∷ []) ∙ ap (λ ys. flat_map f items ++ ys) (append-nil (f item))

-- what is written for one item more
pub grown : (a b c : Option (List ℕ)) (f : Item → List ℕ) (items : List (Result DirEntry Error)) (item : Result DirEntry Error)
    → Appends a b (flat_map f (map item_of items)) → Appends b c (f (item_of item))
    → Appends a c (flat_map f (map item_of (items ++ item ∷ [])))
grown a b c f items item h k =
    subst (Appends a c)
    (sym (ap (flat_map f) (map-append item_of items (item ∷ [])) ∙ one_more f (map item_of items) (item_of item)))
    (appends_on a b c _ _ h k)

-- whether something is reported of one item more
pub reported_more : (items : List (Result DirEntry Error)) (item : Result DirEntry Error) (any more : Bool)
    → any ≡ list_any is_reported (map item_of items) → more ≡ is_reported (item_of item)
    → (any || more) ≡ list_any is_reported (map item_of (items ++ item ∷ []))
reported_more items item any more h k =
    ap (λ b. b || more) h
    ∙ (ap (λ b. list_any is_reported (map item_of items) || b) k
    ∙ sym (ap (list_any is_reported) (map-append item_of items (item ∷ []))
    ∙ (list_any-append is_reported (map item_of items) (item_of item ∷ [])
    ∙ ap (λ b. list_any is_reported (map item_of items) || b) (or-false (is_reported (item_of item))))))

-- one item more that isn't out of memory
pub enough_more : (items : List (Result DirEntry Error)) (item : Result DirEntry Error)
    → All (λ (i : Item). i ≢ Err memory) (map item_of items) → item_of item ≢ Err memory
    → All (λ (i : Item). i ≢ Err memory) (map item_of (items ++ item ∷ []))
enough_more items item h k =
    subst (λ (is : List Item). All (λ (i : Item). i ≢ Err memory) is) (sym (map-append item_of items (item ∷ [])))
    (All-push (λ (i : Item). i ≢ Err memory) (map item_of items) (item_of item) h k)

-- an item that isn't out of memory is the next one
pub ends_at : (item : Item) (out err : List ℕ → Type 0) (stop : Stop) → item ≢ Err memory
    → EndsAfter lines_of reports_of [] (Some item) out err stop
    → (next : Option Item) × IsOf item next × EndsAfter lines_of reports_of [] next out err stop
ends_at item out err stop other h = (Some item, (refl, other), h)

-- the report of a problem isn't empty
some_report : (p : Problem) → report_line p ≢ []
some_report p e = cc e

-- out of memory there is none, and a problem that can't be reported is the next one
pub ends_problem : (r : Result Bool Stop) (item : Result DirEntry Error) (e : Error) (o x y : Option (List ℕ)) → item ≡ Err e
    → (problem_of e ≡ memory → IfErr r (λ stop. stop ≡ Memory)) → IfErr r (λ stop. stop ≡ Memory → Appends x y [])
    → IfErr r (λ stop. (stop ≡ Memory) ⊎ (stop ≡ Silence))
    → IfErr r (λ stop. (next : Option Item) × IsOf (item_of item) next × EndsAfter lines_of reports_of [] next (Appends o o) (Appends x y) stop)
ends_problem (Ok any) item e o x y is cause kept ended = tt
ends_problem (Err Usage) item e o x y is cause kept ended = absurd (elim ended [ inl h ↦ cc h | inr h ↦ cc h ])
ends_problem (Err Memory) item e o x y is cause kept ended = (None, tt, (appends_nothing o, kept refl))
ends_problem (Err Write) item e o x y is cause kept ended = absurd (elim ended [ inl h ↦ cc h | inr h ↦ cc h ])
ends_problem (Err Silence) item e o x y is cause kept ended = (
  Some (Err (problem_of e)),
  (sym (ap item_of is), λ same. let m : problem_of e ≡ memory = cc same in let h = cause m in cc h),
  (appends_nothing o, some_report (problem_of e)),
)
