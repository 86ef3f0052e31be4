-- Worked surveys, computed: one of `/u`, which lists a fault, a name with a slash and the file `k`; and
-- those of the root `-` and of a greatest depth of 0, which are empty. Then what a survey keeps of a
-- walk.
use Rattle.std.proofs.Common.{◌≡◌, ℕ, true, false, List, [], ◌∷◌, Contains, codes, zero, suc, Some, None, Ok, Err, Option, refl, sym, ◌∙◌, ap, arith, IsSortedBy}
use Rattle.std.proofs.lemmas.List.Sorted.{IsPermutation-refl}
use Rattle.std.specs.Cmp.Lexicographic.{slice_cmp}
use Rattle.std.specs.Ordering.{is_lt, nat_cmp}
use Rattle.std.specs.Str.{chars}
use Rattle.ignore_base.specs.Paths.{below, file_name_of, join_of, strip_prefix_of}
use Rattle.ignore_base.specs.Problem.{at_path, io}
use Rattle.ignore_base.specs.declared.fault.Fault.TheVariants.{BadName, NotFound, PermissionDenied}
use Rattle.ignore_files.specs.Tree.{Tree}
use Rattle.ignore_files.specs.declared.types.FileType.TheVariants.{Dir as dir_kind, File as file_kind}
use Rattle.ignore_files.specs.declared.types.Listed.{Listed}
use Rattle.ignore_files.specs.declared.types.Listed.TheVariants as thing
use Rattle.ignore_glob.specs.DoesMatch.{does_match}
use Rattle.ignore_types.specs.TypeMatch.{no_types}
use Rattle.ignore_rules.specs.Rules.{empty}
use Rattle.ignore_dir.specs.declared.settings.Settings.{Settings}
use Rattle.ignore_dir.specs.declared.verdict.Verdict.TheVariants as v
use Rattle.ignore_dir.specs.Query.{answer_of_rules, is_ignored, query, rules_verdict}
use Rattle.ignore_dir.specs.Scene.{QueryScene, path_verdict, scene}
use Rattle.ignore_dir.specs.Verdict.{is_ignore}
use Rattle.ignore_walk.specs.Entry.{Entry as Walked}
use Rattle.ignore_walk.specs.Walked.{comes_before}
use Rattle.ignore_why.specs.QueryWhy.{query_why}
use Rattle.ignore_survey.specs.Agreement.{IsKept, IsPlain, walked}
use Rattle.ignore_survey.specs.Survey.{Entry, IsSurvey, Item, Lists, entry_at, goes_on, is_open, unlisted}
use Rattle.ignore_survey.specs.Survey.{closed, fault, leaf, lists, none, of_root}
use Rattle.ignore_survey.proofs.WorkedSurvey.{g as whole, loads, settings, walk}

abbrev k : Listed
k = thing.Entry (codes "k") file_kind

abbrev listed : List Listed
listed = thing.Fault PermissionDenied ∷ (thing.Entry (codes "x/y") file_kind ∷ (k ∷ []))

abbrev tree : Tree
tree = record {
  stat = λ p follow. Ok (record { file_type = dir_kind; len = 0 });
  list = λ p. Ok listed;
  contents = λ p. Err NotFound;
  canonical = λ p. Ok p;
  identity = λ p follow. Err NotFound;
}

-- a scene of a root, with a greatest depth or none
abbrev at : List ℕ → Option ℕ → QueryScene
at root most =
    let s : Settings = record settings { max_depth = most } in
    scene tree loads s (record { overrides = empty; types = no_types; global = empty; explicit = [] }) root

abbrev g : QueryScene
g = at (codes "/u") None

-- the name with a slash is a fault in its place
abbrev things : List Listed
things = thing.Fault PermissionDenied ∷ (thing.Fault BadName ∷ (k ∷ []))

rises : IsSortedBy (comes_before (λ a b. is_lt (slice_cmp nat_cmp a b))) things
rises zero d z p = refl
rises (suc zero) d z p = refl
rises (suc (suc i)) d z p = absurd (omega (arith, p))

ways : (is_open g ≡ true) × (goes_on g (codes "k") file_kind ≡ false)
unfolding query answer_of_rules is_ignored path_verdict rules_verdict join_of file_name_of below strip_prefix_of does_match chars
ways = (refl, refl)

-- each fault stands in the place of what can't be listed, with the path of the directory
pub with_faults : IsSurvey g (unlisted g [] PermissionDenied ∷ (unlisted g [] BadName ∷ (Ok (entry_at g (codes "k") file_kind) ∷ [])))
unfolding join_of
with_faults = of_root ways.0 (lists {things = things} (listed, refl, (IsPermutation-refl things, rises, λ z. refl)) (fault (fault (leaf ways.1 none))))

pub where_unlisted : (unlisted g [] BadName ≡ Err (at_path (codes "/u") (io BadName)))
    × (unlisted g (codes "a") BadName ≡ Err (at_path (codes "/u/a") (io BadName)))
unfolding join_of
where_unlisted = (refl, refl)

-- the file before the fault, or `b` before `a`, isn't the order of a survey

pub faults_first : (tree : Tree) (path : List ℕ) → Lists tree path (k ∷ (thing.Fault BadName ∷ [])) → ⊥
faults_first t path h = no (h.2.1 0 k (omega arith) (omega arith))
  where
    no : true ≡ false → ⊥
    no e = cc (e)

pub names_rise : (tree : Tree) (path : List ℕ)
    → Lists tree path (thing.Entry (codes "b") file_kind ∷ (thing.Entry (codes "a") file_kind ∷ [])) → ⊥
names_rise t path h = no (h.2.1 0 k (omega arith) (omega arith))
  where
    no : true ≡ false → ⊥
    no e = cc (e)

-- the root `-` isn't surveyed, and none at the greatest depth 0: their surveys are empty

shut : (q : QueryScene) (items : List Item) → is_open q ≡ false → IsSurvey q items → items ≡ []
shut q items not_open (closed h) = refl
shut q items not_open (of_root h inside) = absurd (let e = sym not_open ∙ h in cc (e))

pub stdin_is_empty : let q = at (codes "-") None in IsSurvey q [] × ((items : List Item) → IsSurvey q items → items ≡ [])
unfolding query
stdin_is_empty = (closed refl, λ items. shut (at (codes "-") None) items refl)

pub depth_0_is_empty : let q = at (codes "/u") (Some 0) in IsSurvey q [] × ((items : List Item) → IsSurvey q items → items ≡ [])
unfolding query
depth_0_is_empty = (closed refl, λ items. shut (at (codes "/u") (Some 0)) items refl)

-- the entry of the ignored directory `b` of `/t`, whole
pub entry : ((entry_at whole (codes "b") dir_kind).path ≡ codes "b")
    × ((entry_at whole (codes "b") dir_kind).kind ≡ dir_kind)
    × ((entry_at whole (codes "b") dir_kind).answer ≡ record { verdict = v.Ignore; descends = false; is_within = true })
    × ((entry_at whole (codes "b") dir_kind).why ≡ query_why whole (codes "b") true)
unfolding query answer_of_rules is_ignored path_verdict rules_verdict join_of file_name_of below strip_prefix_of does_match chars
entry = (refl, refl, refl, refl)

-- the answer and the reason of an entry are those for its kind
pub by_kind : (q : QueryScene) (path : List ℕ) → let file = entry_at q path file_kind in let dir = entry_at q path dir_kind in
    (file.answer ≡ (query q path false).0) × (file.why ≡ query_why q path false)
    × (dir.answer ≡ (query q path true).0) × (dir.why ≡ query_why q path true)
by_kind q path = (refl, refl, refl, refl)

-- a walk yields one as this, where it isn't ignored
pub as_walked : walked (codes "/t") (entry_at whole (codes "a/k") file_kind)
    ≡ record { path = codes "/t/a/k"; depth = 2; kind = Some file_kind; followed = false }
unfolding join_of
as_walked = refl

pub kept : (IsKept (codes "/t") (Ok (entry_at whole (codes "a") dir_kind) ∷ []) (walked (codes "/t") (entry_at whole (codes "a") dir_kind)))
unfolding query answer_of_rules is_ignored path_verdict rules_verdict join_of file_name_of below strip_prefix_of does_match chars
kept = record { entry = entry_at whole (codes "a") dir_kind; among = (0, omega arith, refl); kept = refl; is = refl }

same_entry : (e f : Entry) → let x : Item = Ok e in x ≡ Ok f → e ≡ f
same_entry e f h = cc (h)

-- what is ignored isn't
pub ignored_not_kept : (e : Walked) → IsKept (codes "/t") (Ok (entry_at whole (codes "b") dir_kind) ∷ []) e → ⊥
unfolding query answer_of_rules is_ignored path_verdict rules_verdict join_of file_name_of below strip_prefix_of does_match chars
ignored_not_kept e h = by h.entry h.kept h.among
  where
    by : (f : Entry) → is_ignore f.answer.verdict ≡ false → Contains {X = Item} (Ok (entry_at whole (codes "b") dir_kind) ∷ []) (Ok f) → ⊥
    by f h (zero, l, is) = no (ap (λ (x : Entry). is_ignore x.answer.verdict) (same_entry (entry_at whole (codes "b") dir_kind) f is) ∙ h)
      where
        no : true ≡ false → ⊥
        no e = cc (e)
    by f h (suc i, l, is) = omega (arith, l)

-- a walk that filters, stays on a device or has a least depth isn't plain

pub least_not_plain : (s : Settings) (depth : ℕ) → s.min_depth ≡ Some depth → IsPlain (walk s) → ⊥
least_not_plain s depth limits h = let e = sym limits ∙ h.no_least in cc (e)

pub filter_not_plain : let w = walk settings in IsPlain (record w { keep = λ e. false }) → ⊥
filter_not_plain h = no (h.is_open.keeps_all (walked (codes "/t") (entry_at whole (codes "a") dir_kind)))
  where
    no : false ≡ true → ⊥
    no e = cc (e)

pub device_not_plain : let w = walk settings in IsPlain (record w { same_file_system = true }) → ⊥
device_not_plain h = let e = h.is_open.all_devices in cc (e)
