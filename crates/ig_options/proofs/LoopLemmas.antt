-- One step of a loop over texts: what is left of them leads where they all do.
use Rattle.std.proofs.Common.{◌≡◌, ◌∙◌, ℕ, ◌+◌, ◌<◌, ◌≤◌, Bool, true, false, if◌then◌else◌, List, [], ◌∷◌, ◌++◌, Option, None, Some, Result, length, drop, get_or, map, refl, sym, ap, subst, append_assoc, inl, inr}
use Rattle.std.proofs.lemmas.List.{append-nil, drop_more, drop_all}
use Rattle.ignore_base.specs.Problem.{Problem, invalid_definition}
use Rattle.ignore_files.specs.Tree.{Tree}
use Rattle.ignore_files.specs.declared.env.Env.{Env}
use Rattle.ignore_files.specs.declared.types.Contents.{Contents}
use Rattle.ignore_files.specs.declared.types.Refusal.{Refusal}
use Rattle.ignore_rules.specs.Rules.{AddsLine, Building, Refuses}
use Rattle.ignore_types.specs.Types.{Becomes, Draft, after_request, request_of, with_chosen}
use Rattle.ignore.specs.Asked.{AddsIgnore, AddsIgnoreBy, base_dir}
use Rattle.ignore.specs.Builder.{with_custom}
use Rattle.ignore.specs.declared.options.WalkOptions.{WalkOptions}
use Rattle.ig_options.specs.Choices.{AddsTypes, RefusesDefinitions, with_all_chosen}
use Rattle.ig_options.specs.Files.{AddsFileBy, AddsFiles, AddsFilesBy, explained}
use Rattle.ig_options.specs.Globs.{AddsGlobs, RefusesGlobs}
use Rattle.ig_options.specs.Settings.{with_names}

-- the texts that are left begin with the one that is here
pub record IsHere (items : List (List ℕ)) (i : ℕ) (text : List ℕ) : Type 0 where
  pub cut : drop i items ≡ text ∷ drop (i + 1) items

pub here : (items : List (List ℕ)) (i : ℕ) (item text : List ℕ) → i < length items → item ≡ get_or items i item → text ≡ item
    → IsHere items i text
here items i item text within is same = record {
  cut = drop_more items i item within ∙ ap (λ t. t ∷ drop (i + 1) items) (sym (same ∙ is));
}

-- Names of files of rules.

name_first : (w : WalkOptions) (text : List ℕ) (rest : List (List ℕ)) → with_names (text ∷ rest) w ≡ with_names rest (with_custom w text)
name_first w text rest =
    ap (λ (ns : List (List ℕ)). let made : WalkOptions = record w { settings = record w.settings { custom = ns } } in made)
    (sym (append_assoc w.settings.custom (text ∷ []) rest))

pub names_more : (items : List (List ℕ)) (i : ℕ) (text : List ℕ) (w : WalkOptions) → IsHere items i text
    → with_names (drop i items) w ≡ with_names (drop (i + 1) items) (with_custom w text)
names_more items i text w h = ap (λ ns. with_names ns w) h.cut ∙ name_first w text (drop (i + 1) items)

pub names_done : (items : List (List ℕ)) (i : ℕ) (w : WalkOptions) → length items ≤ i → with_names (drop i items) w ≡ w
names_done items i w all =
    ap (λ ns. with_names ns w) (drop_all i items all)
    ∙ ap (λ (ns : List (List ℕ)). let made : WalkOptions = record w { settings = record w.settings { custom = ns } } in made)
    (append-nil w.settings.custom)

pub no_names : (none : Bool) (names : List (List ℕ)) (w : WalkOptions) → none ≡ true → w ≡ with_names (if none then [] else names) w
no_names none names w e =
    sym (ap (λ (b : Bool). with_names (if b then [] else names) w) e
    ∙ ap (λ (ns : List (List ℕ)). let made : WalkOptions = record w { settings = record w.settings { custom = ns } } in made)
    (append-nil w.settings.custom))

pub some_names : (none : Bool) (names : List (List ℕ)) (old new : WalkOptions) → none ≡ false → new ≡ with_names names old
    → new ≡ with_names (if none then [] else names) old
some_names none names old new e added = added ∙ sym (ap (λ (b : Bool). with_names (if b then [] else names) old) e)

-- File types.

pub chosen_more : (negated : Bool) (items : List (List ℕ)) (i : ℕ) (text : List ℕ) (draft : Draft) → IsHere items i text
    → with_all_chosen negated (drop i items) draft ≡ with_all_chosen negated (drop (i + 1) items) (with_chosen negated text draft)
chosen_more negated items i text draft h = ap (λ ns. with_all_chosen negated ns draft) h.cut

pub types_more : (items : List (List ℕ)) (i : ℕ) (text : List ℕ) (old next new : Draft) → IsHere items i text
    → Becomes old (after_request (request_of text) old.definitions) next → AddsTypes (drop (i + 1) items) next new
    → AddsTypes (drop i items) old new
types_more items i text old next new h becomes adds =
    subst (λ (ts : List (List ℕ)). AddsTypes ts old new) (sym h.cut) (next, becomes, adds)

pub types_done : (items : List (List ℕ)) (i : ℕ) (draft : Draft) → length items ≤ i → AddsTypes (drop i items) draft draft
types_done items i draft all = subst (λ (ts : List (List ℕ)). AddsTypes ts draft draft) (sym (drop_all i items all)) refl

pub definitions_here : (items : List (List ℕ)) (i : ℕ) (text : List ℕ) (old : Draft) (problem : Problem) → IsHere items i text
    → (after_request (request_of text) old.definitions ≡ None) × (problem ≡ invalid_definition)
    → RefusesDefinitions (drop i items) old problem
definitions_here items i text old problem h refused =
    subst (λ (ts : List (List ℕ)). RefusesDefinitions ts old problem) (sym h.cut) (inl refused)

pub definitions_later : (items : List (List ℕ)) (i : ℕ) (text : List ℕ) (old next : Draft) (problem : Problem) → IsHere items i text
    → Becomes old (after_request (request_of text) old.definitions) next → RefusesDefinitions (drop (i + 1) items) next problem
    → RefusesDefinitions (drop i items) old problem
definitions_later items i text old next problem h becomes refuses =
    subst (λ (ts : List (List ℕ)). RefusesDefinitions ts old problem) (sym h.cut) (inr (next, becomes, refuses))

-- Globs.

pub globs_more : (items : List (List ℕ)) (i : ℕ) (text : List ℕ) (old next new : Building) → IsHere items i text
    → AddsLine old None text next → AddsGlobs (drop (i + 1) items) next new → AddsGlobs (drop i items) old new
globs_more items i text old next new h added adds =
    subst (λ (ts : List (List ℕ)). AddsGlobs ts old new) (sym h.cut) (next, added, adds)

pub globs_done : (items : List (List ℕ)) (i : ℕ) (b : Building) → length items ≤ i → AddsGlobs (drop i items) b b
globs_done items i b all = subst (λ (ts : List (List ℕ)). AddsGlobs ts b b) (sym (drop_all i items all)) refl

pub globs_here : (items : List (List ℕ)) (i : ℕ) (text : List ℕ) (old : Building) (problem : Problem) → IsHere items i text
    → Refuses old.options text problem → RefusesGlobs (drop i items) old problem
globs_here items i text old problem h refused =
    subst (λ (ts : List (List ℕ)). RefusesGlobs ts old problem) (sym h.cut) (inl refused)

pub globs_later : (items : List (List ℕ)) (i : ℕ) (text : List ℕ) (old next : Building) (problem : Problem) → IsHere items i text
    → AddsLine old None text next → RefusesGlobs (drop (i + 1) items) next problem → RefusesGlobs (drop i items) old problem
globs_later items i text old next problem h added refuses =
    subst (λ (ts : List (List ℕ)). RefusesGlobs ts old problem) (sym h.cut) (inr (next, added, refuses))

-- Files of rules.

pub no_files : (tree : Tree) (env : Env) (none : Bool) (paths : List (List ℕ)) (w : WalkOptions) (problems : List (Option Problem))
    → none ≡ true → problems ≡ [] → AddsFiles tree env (if none then [] else paths) w w problems
no_files tree env none paths w problems e empty =
    subst (λ (b : Bool). AddsFiles tree env (if b then [] else paths) w w problems) (sym e) (refl, empty)

pub some_files : (tree : Tree) (env : Env) (none : Bool) (paths : List (List ℕ)) (old new : WalkOptions) (problems : List (Option Problem))
    → none ≡ false → AddsFiles tree env paths old new problems → AddsFiles tree env (if none then [] else paths) old new problems
some_files tree env none paths old new problems e adds =
    subst (λ (b : Bool). AddsFiles tree env (if b then [] else paths) old new problems) (sym e) adds

pub files_more : (tree : Tree) (env : Env) (items : List (List ℕ)) (i : ℕ) (text : List ℕ) (old next new : WalkOptions)
    (first : Option Problem) (rest : List (Option Problem)) → IsHere items i text → AddsIgnore tree env text old next first
    → AddsFiles tree env (drop (i + 1) items) next new rest
    → AddsFiles tree env (drop i items) old new (explained tree text first ∷ rest)
files_more tree env items i text old next new first rest h added adds =
    subst (λ (ts : List (List ℕ)). AddsFiles tree env ts old new (explained tree text first ∷ rest)) (sym h.cut)
    (next, first, rest, refl, added, adds)

pub files_done : (tree : Tree) (env : Env) (items : List (List ℕ)) (i : ℕ) (w : WalkOptions) → length items ≤ i
    → AddsFiles tree env (drop i items) w w []
files_done tree env items i w all =
    subst (λ (ts : List (List ℕ)). AddsFiles tree env ts w w []) (sym (drop_all i items all)) (refl, refl)

-- The same over any files.

pub file_by : (Gives : Result Contents Refusal → Type 0) (path : List ℕ) (dir base : Option (List ℕ)) (old new : WalkOptions)
    (problem : Option Problem) → base ≡ dir → ((d : List ℕ) → base ≡ Some d → AddsIgnoreBy Gives path d old new problem)
    → (base ≡ None → new ≡ old) → AddsFileBy Gives path dir old new
file_by Gives path None base old new problem is read unknown = unknown is
file_by Gives path (Some d) base old new problem is read unknown = (problem, read d is)

module _ (Gives : List ℕ → Result Contents Refusal → Type 0) (env : Env) where
  pub files_by_more : (items : List (List ℕ)) (i : ℕ) (text : List ℕ) (old next new : WalkOptions) → IsHere items i text
      → AddsFileBy (Gives text) text (base_dir old env) old next → AddsFilesBy Gives env (drop (i + 1) items) next new
      → AddsFilesBy Gives env (drop i items) old new
  files_by_more items i text old next new h added adds =
      subst (λ (ts : List (List ℕ)). AddsFilesBy Gives env ts old new) (sym h.cut) (next, added, adds)

  pub files_by_done : (items : List (List ℕ)) (i : ℕ) (w : WalkOptions) → length items ≤ i → AddsFilesBy Gives env (drop i items) w w
  files_by_done items i w all = subst (λ (ts : List (List ℕ)). AddsFilesBy Gives env ts w w) (sym (drop_all i items all)) refl

  pub no_files_by : (none : Bool) (paths : List (List ℕ)) (w : WalkOptions) → none ≡ true
      → AddsFilesBy Gives env (if none then [] else paths) w w
  no_files_by none paths w e = subst (λ (b : Bool). AddsFilesBy Gives env (if b then [] else paths) w w) (sym e) refl

  pub some_files_by : (none : Bool) (paths : List (List ℕ)) (old new : WalkOptions) → none ≡ false
      → AddsFilesBy Gives env paths old new → AddsFilesBy Gives env (if none then [] else paths) old new
  some_files_by none paths old new e adds =
      subst (λ (b : Bool). AddsFilesBy Gives env (if b then [] else paths) old new) (sym e) adds

-- what an item more becomes comes after what those before became
pub one_more : {A B : Type 0} (f : A → B) (items : List A) (item : A) (rest : List B)
    → map f (items ++ item ∷ []) ++ rest ≡ map f items ++ (f item ∷ rest)
one_more f [] item rest = refl
one_more f (x ∷ items) item rest = ap (λ l. f x ∷ l) (one_more f items item rest)
