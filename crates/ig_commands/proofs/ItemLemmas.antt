-- What is written and reported for the items of a walk, one more at a time.
use Rattle.std.proofs.Common.{◌≡◌, ◌∙◌, ℕ, Bool, List, [], ◌∷◌, ◌++◌, Option, None, Some, Result, map, refl, sym, ap, subst, append_assoc}
use Rattle.std.proofs.lemmas.List.{append-nil, map-append}
use Rattle.std.specs.Io.KnownBytes.{Appends}
use Rattle.std.specs.Option.{option_or}
use Rattle.ignore_base.specs.declared.error.Error.{Error}
use Rattle.ignore_walk.specs.Entry.{Item, item_of}
use Rattle.ignore_walk.specs.declared.entry.DirEntry.{DirEntry}
use Rattle.commands.proofs.LineLemmas.{appends_on}
use Rattle.ig_options.specs.declared.options.Options.{Options}
use Rattle.ig_commands.specs.Counts.{counted, one_more}
use Rattle.ig_commands.specs.Reports.{Notes, first_reports, last_at, names_after, names_left, path_at, reports_after, reports_of}
use Rattle.ig_commands.specs.declared.names.Unnamed.{Unnamed}

or_none : {A : Type 0} (x : Option A) → option_or x None ≡ x
or_none None = refl
or_none (Some a) = refl

or_assoc : {A : Type 0} (x y z : Option A) → option_or (option_or x y) z ≡ option_or x (option_or y z)
or_assoc None y z = refl
or_assoc (Some a) y z = refl

-- the last entry at a depth among some items and one more
last_more : (items : List Item) (item : Item) (depth : ℕ)
    → last_at (items ++ item ∷ []) depth ≡ option_or (path_at depth item) (last_at items depth)
last_more [] item depth = sym (or_none (path_at depth item))
last_more (x ∷ xs) item depth =
    ap (λ (o : Option (List ℕ)). option_or o (path_at depth x)) (last_more xs item depth)
    ∙ or_assoc (path_at depth item) (last_at xs depth) (path_at depth x)

-- what is reported of some items and one more
reports_more : (o : Options) (before : List Item) (names : Option Unnamed) (items : List Item) (item : Item)
    → reports_after o before names (items ++ item ∷ [])
    ≡ reports_after o before names items ++ reports_of o (last_at (before ++ items)) (names_left before names items) item
reports_more o before names [] item =
    append-nil (reports_of o (last_at before) names item)
    ∙ ap (λ (bs : List Item). reports_of o (last_at bs) names item) (sym (append-nil before))
reports_more o before names (x ∷ xs) item =
    let here = reports_of o (last_at before) names x in
    let now = names_after (last_at before) names x in
    let left = names_left (before ++ x ∷ []) now xs in
    ap (λ (bs : List ℕ). here ++ bs) (reports_more o (before ++ x ∷ []) now xs item)
    ∙ (sym (append_assoc here (reports_after o (before ++ x ∷ []) now xs) (reports_of o (last_at ((before ++ x ∷ []) ++ xs)) left item))
    ∙ ap (λ (bs : List Item). (here ++ reports_after o (before ++ x ∷ []) now xs) ++ reports_of o (last_at bs) left item)
    (append_assoc before (x ∷ []) xs))

-- the names that are counted after some items and one more
names_more : (before : List Item) (names : Option Unnamed) (items : List Item) (item : Item)
    → names_left before names (items ++ item ∷ []) ≡ names_after (last_at (before ++ items)) (names_left before names items) item
names_more before names [] item = ap (λ (bs : List Item). names_after (last_at bs) names item) (sym (append-nil before))
names_more before names (x ∷ xs) item =
    let now = names_after (last_at before) names x in
    names_more (before ++ x ∷ []) now xs item
    ∙ ap (λ (bs : List Item). names_after (last_at bs) (names_left (before ++ x ∷ []) now xs) item) (append_assoc before (x ∷ []) xs)

-- a table of the last entries keeps them by one item more
pub notes_more : (items : List (Result DirEntry Error)) (item : Result DirEntry Error) (old new : ℕ → Option (List ℕ))
    → ((depth : ℕ) → old depth ≡ last_at (map item_of items) depth) → Notes (item_of item) old new
    → (depth : ℕ) → new depth ≡ last_at (map item_of (items ++ item ∷ [])) depth
notes_more items item old new h k depth =
    k depth
    ∙ (ap (λ (o : Option (List ℕ)). option_or (path_at depth (item_of item)) o) (h depth)
    ∙ (sym (last_more (map item_of items) (item_of item) depth)
    ∙ ap (λ (is : List Item). last_at is depth) (sym (map-append item_of items (item ∷ [])))))

-- one item more is reported
pub told_more : (o : Options) (items : List (Result DirEntry Error)) (item : Result DirEntry Error) (table : ℕ → Option (List ℕ))
    (names : Option Unnamed) (a b c : Option (List ℕ)) → ((depth : ℕ) → table depth ≡ last_at (map item_of items) depth)
    → names ≡ names_left [] None (map item_of items)
    → Appends a b (first_reports o (map item_of items)) → Appends b c (reports_of o table names (item_of item))
    → Appends a c (first_reports o (map item_of (items ++ item ∷ [])))
told_more o items item table names a b c h k before here =
    let same : table ≡ last_at (map item_of items) = λ j depth. h depth j in
    let told = subst (λ (t : ℕ → Option (List ℕ)). Appends b c (reports_of o t names (item_of item))) same here in
    let counted = subst (λ (u : Option Unnamed). Appends b c (reports_of o (last_at (map item_of items)) u (item_of item))) k told in
    subst (Appends a c)
    (sym (ap (first_reports o) (map-append item_of items (item ∷ [])) ∙ reports_more o [] None (map item_of items) (item_of item)))
    (appends_on a b c _ _ before counted)

-- the names that are counted after one item more
pub left_more : (items : List (Result DirEntry Error)) (item : Result DirEntry Error) (table : ℕ → Option (List ℕ))
    (names new : Option Unnamed) → ((depth : ℕ) → table depth ≡ last_at (map item_of items) depth)
    → names ≡ names_left [] None (map item_of items) → new ≡ names_after table names (item_of item)
    → new ≡ names_left [] None (map item_of (items ++ item ∷ []))
left_more items item table names new h k is =
    let same : table ≡ last_at (map item_of items) = λ j depth. h depth j in
    is
    ∙ (ap (λ (t : ℕ → Option (List ℕ)). names_after t names (item_of item)) same
    ∙ (ap (λ (u : Option Unnamed). names_after (last_at (map item_of items)) u (item_of item)) k
    ∙ sym (ap (λ (is : List Item). names_left [] None is) (map-append item_of items (item ∷ []))
    ∙ names_more [] None (map item_of items) (item_of item))))

counted_more : (n : ℕ) (bs : List Bool) (b : Bool) → counted n (bs ++ b ∷ []) ≡ one_more (counted n bs) b
counted_more n [] b = refl
counted_more n (x ∷ bs) b = counted_more (one_more n x) bs b

-- a count of one item more
pub count_more : (f : Item → Bool) (items : List (Result DirEntry Error)) (item : Result DirEntry Error) (old new : ℕ) (holds : Bool)
    → old ≡ counted 0 (map f (map item_of items)) → new ≡ one_more old holds → holds ≡ f (item_of item)
    → new ≡ counted 0 (map f (map item_of (items ++ item ∷ [])))
count_more f items item old new holds h k same =
    k
    ∙ (ap (λ n. one_more n holds) h
    ∙ (ap (λ b. one_more (counted 0 (map f (map item_of items))) b) same
    ∙ (sym (counted_more 0 (map f (map item_of items)) (f (item_of item)))
    ∙ ap (counted 0) (sym (ap (map f) (map-append item_of items (item ∷ [])) ∙ map-append f (map item_of items) (item_of item ∷ []))))))
