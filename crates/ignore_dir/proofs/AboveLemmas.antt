-- One directory more on the way along names, and offsets after slashes.
use Rattle.std.proofs.Common.{◌≡◌, ℕ, suc, ◌+◌, List, [], ◌∷◌, ◌++◌, length, Option, refl, sym, ap, ◌∙◌, arith, true, cond}
use Rattle.std.proofs.Common.{Result, Ok, Err, subst}
use Rattle.std.specs.Prelude.{MatchResult}
use Rattle.std.proofs.lemmas.List.{map-append, length-map}
use Rattle.ignore_base.specs.declared.fault.Fault.{Fault}
use Rattle.ignore_base.specs.Paths.{join_of}
use Rattle.ignore_base.specs.Problem.{Problem}
use Rattle.ignore_files.specs.Tree.{Tree, Answers}
use Rattle.ignore_files.specs.declared.types.Refusal.{Refusal}
use Rattle.ignore_files.specs.declared.types.Refusal.TheVariants.{Fault as Refused}
use Rattle.ignore_dir.specs.declared.dir.Dir.{Dir}
use Rattle.ignore_dir.specs.declared.settings.Settings.{Settings}
use Rattle.ignore_dir.specs.Above.{canonical_names, directories_along, dirs_above, kept_above, names_above, needs_above}
use Rattle.ignore_dir.specs.Above.{path_along, problems_of_loads}
use Rattle.ignore_dir.specs.Chains.{placed_along, slashed}
use Rattle.ignore_dir.specs.Lists.{Placed}
use Rattle.ignore_dir.specs.Load.{Loaded}
use Rattle.ignore_dir.proofs.ChainLemmas.{placed_along-more}

pub path_along-more : (dir : List ℕ) (names : List (List ℕ)) (name : List ℕ)
    → path_along dir (names ++ name ∷ []) ≡ join_of (path_along dir names) name
path_along-more dir [] name = refl
path_along-more dir (n ∷ names) name = path_along-more (join_of dir n) names name

pub directories_along-more : (dir : List ℕ) (names : List (List ℕ)) (name : List ℕ)
    → directories_along dir (names ++ name ∷ []) ≡ directories_along dir names ++ path_along dir names ∷ []
directories_along-more dir [] name = refl
directories_along-more dir (n ∷ names) name = ap (λ l. dir ∷ l) (directories_along-more (join_of dir n) names name)

pub length-directories : (dir : List ℕ) (names : List (List ℕ)) → length (directories_along dir names) ≡ length names
length-directories dir [] = refl
length-directories dir (n ∷ names) = ap suc (length-directories (join_of dir n) names)

-- the directories above with one more
pub above-more : (loads : List ℕ → Loaded) (s : Settings) (dir : List ℕ) (names : List (List ℕ)) (name path base : List ℕ)
    (before after : List Placed)
    → path ≡ path_along dir names → base ≡ 47 ∷ slashed names
    → before ≡ placed_along 1 (dirs_above loads s (directories_along dir names)) names
    → after ≡ before ++ (kept_above s (loads path).0, length base) ∷ []
    → after ≡ placed_along 1 (dirs_above loads s (directories_along dir (names ++ name ∷ []))) (names ++ name ∷ [])
above-more loads s dir names name path base before after at is old new =
    let dirs = dirs_above loads s (directories_along dir names) in
    let here : Dir = kept_above s (loads (path_along dir names)).0 in
    let size : length dirs ≡ length names = length-map (directories_along dir names) (λ path. kept_above s (loads path).0)
    ∙ length-directories dir names in
    let ends : length base ≡ 1 + length (slashed names) = ap (λ (t : List ℕ). length t) is ∙ omega arith in
    let grown : dirs_above loads s (directories_along dir (names ++ name ∷ [])) ≡ dirs ++ here ∷ [] =
    ap (dirs_above loads s) (directories_along-more dir names name)
    ∙ map-append _ (directories_along dir names) (path_along dir names ∷ []) in
    new
    ∙ (ap (λ (l : List Placed). l ++ (kept_above s (loads path).0, length base) ∷ []) old
    ∙ (ap (λ p. placed_along 1 dirs names ++ (kept_above s (loads p).0, length base) ∷ []) at
    ∙ (ap (λ k. placed_along 1 dirs names ++ (here, k) ∷ []) ends
    ∙ (sym (placed_along-more 1 dirs names here name size) ∙ ap (λ (ds : List Dir). placed_along 1 ds (names ++ name ∷ [])) (sym grown)))))

pub problems-more : (loads : List ℕ → Loaded) (dir : List ℕ) (names : List (List ℕ)) (name path : List ℕ)
    (before after : List (Option Problem))
    → path ≡ path_along dir names → before ≡ problems_of_loads loads (directories_along dir names) → after ≡ before ++ (loads path).1 ∷ []
    → after ≡ problems_of_loads loads (directories_along dir (names ++ name ∷ []))
problems-more loads dir names name path before after at old new =
    new
    ∙ (ap (λ (l : List (Option Problem)). l ++ (loads path).1 ∷ []) old
    ∙ (ap (λ p. problems_of_loads loads (directories_along dir names) ++ (loads p).1 ∷ []) at
    ∙ (sym (map-append _ (directories_along dir names) (path_along dir names ∷ []))
    ∙ ap (problems_of_loads loads) (sym (directories_along-more dir names name)))))

-- an answer of files that is no lack of memory is the tree's
pub answered-is : {A : Type 0} (reported : Result A Fault) (answer : Result A Refusal) (found : Result A Fault)
    → Answers reported answer → MatchResult found (λ a. answer ≡ Ok a) (λ f. answer ≡ Err (Refused f)) → reported ≡ found
answered-is reported answer (Ok a) told is = subst (Answers reported) is told
answered-is reported answer (Err f) told is = subst (Answers reported) is told

-- the names above a root, where they are asked for
pub names_above-is : (tree : Tree) (s : Settings) (root path : List ℕ) (names : List (List ℕ)) → needs_above s ≡ true
    → tree.canonical root ≡ Ok path
    → names ≡ canonical_names (Ok path) → names ≡ names_above tree s root
names_above-is tree s root path names on is same =
    same ∙ (ap canonical_names (sym is) ∙ sym (ap (λ b. cond b (canonical_names (tree.canonical root)) []) on))
