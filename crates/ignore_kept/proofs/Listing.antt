-- A walk is one of what the handle keeps.
use Rattle.std.proofs.Common.{◌≡◌, ◌≢◌, ◌⊎◌, ◌∙◌, ◌+◌, ◌<◌, ◌≤◌, ℕ, Bool, true, List, [], Option, None, Some, Result, Ok, Err, inl, inr, refl, sym, ap, arith, subst, map, length, option_map}
use Rattle.std.proofs.lemmas.List.{length-map}
use Rattle.std.proofs.lemmas.Option.{slice_get-map, slice_get_within}
use Rattle.std.specs.List.{slice_get}
use Rattle.ignore.specs.Headline.{IsAboveLimit, IsBareScene, IsOnlyListIn, IsSceneOf}
use Rattle.ignore.specs.ItsList.{InItsScenes}
use Rattle.ignore.specs.WalkWords.{Item, Outside, Scene, Whole, item_of}
use Rattle.ignore.specs.FileWords.{Tree as Files}
use Rattle.ignore.specs.declared.options.WalkOptions.{WalkOptions}
use Rattle.ignore_base.specs.Errors.{problem_text}
use Rattle.ignore_base.specs.Problem.{Problem, io, memory}
use Rattle.ignore_base.specs.Text.{Bytes, Path}
use Rattle.ignore_base.specs.declared.error.Error.{Error}
use Rattle.ignore_base.specs.declared.fault.Fault.TheVariants.{StepLimit}
use Rattle.ignore_files.specs.Answers.{tree_of}
use Rattle.ignore_files.specs.Gives.{IsHonest}
use Rattle.ignore_files.specs.Memory.{Memory}
use Rattle.ignore_files.specs.declared.files.Files.{Ghosts as FileCalls}
use Rattle.ignore_files.specs.declared.env.Env.{Env}
use Rattle.ignore_walk.specs.declared.callbacks.Callbacks.{Ghosts as Callbacks}
use Rattle.ignore_walk.specs.declared.callbacks.Order.{Order}
use Rattle.ignore_walk.specs.declared.entry.DirEntry.{DirEntry}
use Rattle.ignore_kept.specs.Kinds.{setup_in, tree_in}
use Rattle.ignore_kept.specs.Setups as setup
use Rattle.ignore_kept.specs.Trees as tree
use Rattle.ignore_kept.specs.Walking.{Builds, IsListOf, IsNext, Nexts, TellsNext, end_of, error_text, keeping, next_of}
use Rattle.ignore_kept.specs.declared.kept.Kept.{Kept}
use Rattle.ignore_kept.specs.declared.setup.Setup.{Setup}
use Rattle.ignore_kept.specs.declared.stopped.Stopped.{Stopped}
use Rattle.ignore_kept.specs.declared.stopped.Stopped.TheVariants.{NotUtf8, Memory as Full, Limit, Invalid, Misused, Tree}
use Rattle.ignore_kept.specs.declared.walked.WalkEntry.{WalkEntry}
use Rattle.ignore_kept.specs.declared.walked.Walked.{Walked}

-- the list of the definition is there, by an owner
abbrev IsThere : {S : Type 0} → Callbacks S → S → Memory → Env → WalkOptions → Order → List Item → Type 0
IsThere calls owner tree env b order all =
    InItsScenes (IsSceneOf calls owner b order (tree_of tree)) env b (tree_of tree) (λ g. (n : ℕ) × (n ≤ b.limit) × Whole g b.roots all n)

-- the list of a walk that goes by its options alone is the list of the definition
pub listed : {S : Type 0} (calls : Callbacks S) (owner : S) (tree : Memory) (env : Env) (taken b : WalkOptions) (order : Order)
    (all : List Item) → taken ≡ b
    → ((t : Files) (o : Outside) (g : Scene) → IsBareScene taken t o g → IsSceneOf calls owner taken order t o g)
    → IsOnlyListIn calls owner env taken order (tree_of tree) all → IsThere calls owner tree env taken order all
    → IsListOf tree env b (Ok all)
listed calls owner tree env taken b order all same bare h there =
    subst (λ (o : WalkOptions). IsListOf tree env o (Ok all)) same (
      (there.0, there.1, λ g is. there.2 g (bare (tree_of tree) there.0 g is)),
      (h.0, h.1, λ g items n is whole. h.2 g items n (bare (tree_of tree) h.0 g is) whole),
    )

-- why such a walk has no list
pub unlisted : {F S : Type 0} (files : FileCalls F) (calls : Callbacks S) (f : F) (owner : S) (tree : Memory) (env : Env)
    (taken b : WalkOptions) (order : Order) (problem : Problem) (stopped : Stopped) → IsHonest files f (tree_of tree) → taken ≡ b
    → ((t : Files) (o : Outside) (g : Scene) → IsBareScene taken t o g → IsSceneOf calls owner taken order t o g)
    → stopped ≡ end_of problem
    → (problem ≡ memory) ⊎ ((problem ≡ io StepLimit) × IsAboveLimit files calls f owner env taken order)
    → IsListOf tree env b (Err stopped)
unlisted files calls f owner tree env taken b order problem stopped honest same bare is (inl m) =
    subst (λ (s : Stopped). IsListOf tree env b (Err s)) (sym (is ∙ ap end_of m)) tt
unlisted files calls f owner tree env taken b order problem stopped honest same bare is (inr h) =
    let l = h.1 (tree_of tree) honest in
    subst (λ (s : Stopped). IsListOf tree env b (Err s)) (sym (is ∙ ap end_of h.0))
    (subst (λ (o : WalkOptions). IsListOf tree env o (Err Limit)) same
    (l.0, l.1, λ g items n p whole. l.2 g items n (bare (tree_of tree) l.0 g p) whole))

module _ (builder files : Kept) (options : Setup) (told : Memory) (taken : WalkOptions) (b : builder ≡ setup.keeping options)
    (t : files ≡ tree.keeping told) (same : taken ≡ options.options) where
  pub walks : (walk : Walked) → IsListOf told options.env taken (Ok (map item_of walk.items.items)) → walk.given ≡ 0
      → Builds builder files (Ok (keeping walk))
  walks walk h none = (
    options,
    told,
    walk,
    ap setup_in b,
    ap tree_in t,
    subst (λ (o : WalkOptions). IsListOf told options.env o (Ok (map item_of walk.items.items))) same h,
    none,
    refl,
  )

  pub walks_none : (e : Stopped) → IsListOf told options.env taken (Err e) → Builds builder files (Err e)
  walks_none Limit h =
      (options, told, ap setup_in b, ap tree_in t, subst (λ (o : WalkOptions). IsListOf told options.env o (Err Limit)) same h)
  walks_none Full h = tt
  walks_none other h = absurd h

-- the next item of a walk is that of what the handle keeps
pub nexts : (room : ℕ) (kept : Kept) (old : Walked) (code : ℕ) (entry : WalkEntry) (text : Bytes) (new : Walked) → kept ≡ keeping old
    → TellsNext room old (next_of old) code entry text new → Nexts room kept code entry text (keeping new)
nexts room kept old code entry text new is h =
    subst (λ (k : Kept). Nexts room k code entry text (keeping new)) (sym is) (new, refl, h)

-- no number is two
told_one : (code : ℕ) → code ≡ 0 → code ≡ 1 → ⊥
told_one code ok one = omega arith

told_five : (code : ℕ) → code ≡ 0 → code ≡ 5 → ⊥
told_five code ok five = omega arith

-- where an item isn't told, nothing is handed out
pub not_handed : (room : ℕ) (walk : Walked) (item : Option Item) (code : ℕ) (entry : WalkEntry) (text : Bytes)
    → IsNext item code entry text → code ≢ 0 → TellsNext room walk item code entry text walk
not_handed room walk None code entry text (is, none, empty) other = (is, none, empty, refl)
not_handed room walk (Some item) code entry text (inl h) other = absurd (other h.0)
not_handed room walk (Some item) code entry text (inr (is, none, empty)) other = inr (inr (is, none, empty, refl))

-- one that is told, and whose texts don't fit, stays the next
pub withheld : (room : ℕ) (walk : Walked) (item : Option Item) (code : ℕ) (entry : WalkEntry) (text : Bytes)
    → IsNext item code entry text → code ≡ 0 → room < length text → TellsNext room walk item 15 entry text walk
withheld room walk None code entry text h ok more = absurd (told_one code ok h.0)
withheld room walk (Some item) code entry text (inl (is, (how, what))) ok more = inr (inl (refl, how, what, more, refl))
withheld room walk (Some item) code entry text (inr h) ok more = absurd (told_five code ok h.0)

-- and one whose texts fit is handed out
pub handed : (room : ℕ) (walk : Walked) (item : Option Item) (code : ℕ) (entry : WalkEntry) (text : Bytes) (new : Walked)
    → IsNext item code entry text → code ≡ 0 → length text ≤ room → new ≡ record walk { given = walk.given + 1 }
    → TellsNext room walk item code entry text new
handed room walk None code entry text new h ok fits on = absurd (told_one code ok h.0)
handed room walk (Some item) code entry text new (inl (is, (how, what))) ok fits on = inl (is, how, what, fits, on)
handed room walk (Some item) code entry text new (inr h) ok fits on = absurd (told_five code ok h.0)

-- an item that is told is one of the list
within : (item : Option Item) (items : List Item) (place code : ℕ) (entry : WalkEntry) (text : Bytes) → slice_get items place ≡ item
    → IsNext item code entry text → code ≡ 0 → place < length items
within None items place code entry text at h ok = absurd (told_one code ok h.0)
within (Some item) items place code entry text at h ok = slice_get_within items place item at

pub below : (walk : Walked) (code : ℕ) (entry : WalkEntry) (text : Bytes) → IsNext (next_of walk) code entry text → code ≡ 0
    → walk.given < length walk.items.items
below walk code entry text h ok =
    subst (λ (n : ℕ). walk.given < n) (length-map walk.items.items item_of)
    (within (next_of walk) (map item_of walk.items.items) walk.given code entry text refl h ok)

-- the next item is that of the list
pub of_next : (walk : Walked) (item : Option (Result DirEntry Error)) (code : ℕ) (entry : WalkEntry) (text : Bytes)
    → slice_get walk.items.items walk.given ≡ item → IsNext (option_map item_of item) code entry text
    → IsNext (next_of walk) code entry text
of_next walk item code entry text at h =
    subst (λ (n : Option Item). IsNext n code entry text)
    (sym (slice_get-map item_of walk.items.items walk.given ∙ ap (λ (i : Option (Result DirEntry Error)). option_map item_of i) at)) h

-- the text of no problem, and that of one
pub no_error : (problem : Option Problem) (text : Bytes) → None ≡ problem → text ≡ [] → text ≡ error_text problem
no_error problem text is empty = empty ∙ ap error_text is

pub an_error : (problem : Option Problem) (of : Problem) (text : Bytes) → Some of ≡ problem → text ≡ problem_text of
    → text ≡ error_text problem
an_error problem of text is told = told ∙ ap error_text is
