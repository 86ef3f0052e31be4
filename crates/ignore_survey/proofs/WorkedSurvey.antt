-- A worked survey, computed. `/t` lists the directories `a`, `b` and `c` and the hidden file `.h`.
-- `/t/.ignore` ignores `b`. `/t/a` lists the file `k`; `/t/c` can't be listed. Then walks of the same
-- tree, one with which a survey agrees, and others.
use Rattle.std.proofs.Common.{◌≡◌, ℕ, true, false, Bool, List, [], ◌∷◌, codes, zero, suc, Some, None, Ok, Err, Result, refl, sym, ◌∙◌, arith, if◌then◌else◌, IsSortedBy}
use Rattle.std.proofs.lemmas.List.Sorted.{IsPermutation-refl}
use Rattle.std.specs.Cmp.Lexicographic.{slice_cmp}
use Rattle.std.specs.Ordering.{is_lt, nat_cmp}
use Rattle.std.specs.Str.{bytes_eq, chars}
use Rattle.ignore_base.specs.Paths.{below, file_name_of, join_of, strip_prefix_of}
use Rattle.ignore_base.specs.declared.fault.Fault.{Fault}
use Rattle.ignore_base.specs.declared.fault.Fault.TheVariants.{NotFound, PermissionDenied}
use Rattle.ignore_base.specs.declared.match_result.Match.TheVariants as m
use Rattle.ignore_files.specs.Tree.{Tree}
use Rattle.ignore_files.specs.declared.types.FileType.TheVariants.{Dir as dir_kind, File as file_kind}
use Rattle.ignore_files.specs.declared.types.Listed.{Listed}
use Rattle.ignore_files.specs.declared.types.Listed.TheVariants as thing
use Rattle.ignore_glob.specs.DoesMatch.{does_match}
use Rattle.ignore_glob.specs.Glob.{literal, done, then as next}
use Rattle.ignore_types.specs.TypeMatch.{no_types}
use Rattle.ignore_rules.specs.Rules.{Rule, empty}
use Rattle.ignore_dir.specs.declared.dir.Dir.{Dir}
use Rattle.ignore_dir.specs.declared.settings.Settings.{Settings}
use Rattle.ignore_dir.specs.Load.{Loaded}
use Rattle.ignore_dir.specs.Query.{answer_of_rules, is_ignored, query, rules_verdict}
use Rattle.ignore_dir.specs.Scene.{QueryScene, path_verdict, scene}
use Rattle.ignore_why.specs.declared.cause.RuleRank.TheVariants.{Ignore}
use Rattle.ignore_why.specs.Cited.Cited.{on_name, on_rule}
use Rattle.ignore_why.specs.QueryWhy.{path_why, query_why, why_by_rules}
use Rattle.ignore_why.specs.QueryWhy.QueryWhy.{decided}
use Rattle.ignore_walk.specs.Scene.{Scene, queries}
use Rattle.ignore_walk.specs.Walked.{comes_before}
use Rattle.ignore_survey.specs.Agreement.{IsPlain}
use Rattle.ignore_survey.specs.Survey.{Below, IsSurvey, entry_at, goes_on, is_open, unlisted, fails, lists, none, leaf, inner, of_root}

abbrev pub rule_b : Rule
rule_b = record {
  from = Some (codes "f");
  line = Some 1;
  original = codes "b";
  actual = codes "b";
  is_whitelist = false;
  is_only_dir = false;
  reading = record { tokens = next (literal 98) done; case_insensitive = false };
}

abbrev pub held : Bool → Dir
held top = record {
  custom = empty;
  ignore = if top then record { root = codes "/t"; rules = rule_b ∷ [] } else empty;
  gitignore = empty;
  exclude = empty;
  mark = false;
}

abbrev pub loads : List ℕ → Loaded
loads path = (held (bytes_eq path (codes "/t")), None)

abbrev pub top_list : List Listed
top_list =
    thing.Entry (codes ".h") file_kind
    ∷ (thing.Entry (codes "a") dir_kind ∷ (thing.Entry (codes "b") dir_kind ∷ (thing.Entry (codes "c") dir_kind ∷ [])))

abbrev pub listing : List ℕ → Result (List Listed) Fault
listing path =
    if bytes_eq path (codes "/t") then Ok top_list
    else if bytes_eq path (codes "/t/a") then Ok (thing.Entry (codes "k") file_kind ∷ [])
    else Err PermissionDenied

abbrev pub tree : Tree
tree = record {
  stat = λ p follow. Ok (record { file_type = dir_kind; len = 0 });
  list = listing;
  contents = λ p. Err NotFound;
  canonical = λ p. Ok p;
  identity = λ p follow. Err NotFound;
}

abbrev pub settings : Settings
settings = record {
  custom = [];
  hidden = true;
  parents = true;
  ignore = true;
  git_global = true;
  git_ignore = true;
  git_exclude = true;
  require_git = true;
  case_insensitive = false;
  git_trailing_spaces = false;
  follow_links = false;
  min_depth = None;
  max_depth = None;
  max_filesize = None;
}

abbrev pub g : QueryScene
g = scene tree loads settings (record { overrides = empty; types = no_types; global = empty; explicit = [] }) (codes "/t")

-- the reason of each entry: `.h` is hidden, and a rule ignores `b`
pub reasons : (query_why g (codes ".h") false ≡ decided (m.Ignore on_name)) × (query_why g (codes "a") true ≡ decided m.None)
    × (query_why g (codes "a/k") false ≡ decided m.None)
    × (query_why g (codes "b") true ≡ decided (m.Ignore (on_rule (record {
      rank = Ignore;
      directory = Some (codes "/t/");
      from = Some (codes "f");
      line = Some 1;
      original = codes "b";
      is_whitelist = false;
    }))))
    × (query_why g (codes "c") true ≡ decided m.None)
unfolding query_why why_by_rules path_why is_ignored path_verdict rules_verdict join_of file_name_of below strip_prefix_of does_match chars
reasons = (refl, refl, refl, refl, refl)

-- the survey goes on below `a` and `c`, and neither below `b` nor below a file
pub ways : (is_open g ≡ true) × (goes_on g (codes ".h") file_kind ≡ false) × (goes_on g (codes "a") dir_kind ≡ true)
    × (goes_on g (codes "a/k") file_kind ≡ false) × (goes_on g (codes "b") dir_kind ≡ false) × (goes_on g (codes "c") dir_kind ≡ true)
unfolding query answer_of_rules is_ignored path_verdict rules_verdict join_of file_name_of below strip_prefix_of does_match chars
ways = (refl, refl, refl, refl, refl, refl)

rises : IsSortedBy (comes_before (λ a b. is_lt (slice_cmp nat_cmp a b))) top_list
rises zero d z p = refl
rises (suc zero) d z p = refl
rises (suc (suc zero)) d z p = refl
rises (suc (suc (suc k))) d z p = absurd (omega (arith, p))

-- the hidden file comes first, and each directory before what is below it: nothing is yielded below
-- `b`, and the fault of `c` stands in the place of what it lists
pub surveyed : IsSurvey g
    (Ok (entry_at g (codes ".h") file_kind)
    ∷ (Ok (entry_at g (codes "a") dir_kind)
    ∷ (Ok (entry_at g (codes "a/k") file_kind)
    ∷ (Ok (entry_at g (codes "b") dir_kind) ∷ (Ok (entry_at g (codes "c") dir_kind) ∷ (unlisted g (codes "c") PermissionDenied ∷ []))))))
unfolding join_of
surveyed =
    let k : Listed = thing.Entry (codes "k") file_kind in
    let in_a : Below g (codes "a") (Ok (entry_at g (codes "a/k") file_kind) ∷ []) =
    lists {things = k ∷ []} (k ∷ [], refl, (IsPermutation-refl (k ∷ []), λ i d z p. absurd (omega (arith, p)), λ z. refl)) (leaf ways.3 none) in
    let in_c : Below g (codes "c") (unlisted g (codes "c") PermissionDenied ∷ []) = fails refl in
    of_root ways.0 (lists {things = top_list} (top_list, refl, (IsPermutation-refl top_list, rises, λ z. refl))
    (leaf ways.1 (inner ways.2 in_a (leaf ways.4 (inner ways.5 in_c none)))))

-- a walk of the same tree by some settings, without a filter and without an order
abbrev pub walk : Settings → Scene
walk s = record {
  tree = tree;
  loads = loads;
  settings = s;
  outside = g.outside;
  same_file_system = false;
  keep = λ e. true;
  order = None;
}

-- by the settings of the survey it is plain, and its queries are those of the survey
pub plain : IsPlain (walk settings) × (queries (walk settings) (codes "/t") ≡ g)
plain = (
  record {
    is_open = record { keeps_all = λ e. refl; all_devices = refl };
    no_links = refl;
    no_least = refl;
    no_greatest = refl;
  },
  refl,
)

-- one that follows links, or has a greatest depth, isn't

pub links_not_plain : (s : Settings) → s.follow_links ≡ true → IsPlain (walk s) → ⊥
links_not_plain s follows h = let e = sym follows ∙ h.no_links in cc (e)

pub depth_not_plain : (s : Settings) (depth : ℕ) → s.max_depth ≡ Some depth → IsPlain (walk s) → ⊥
depth_not_plain s depth limits h = let e = sym limits ∙ h.no_greatest in cc (e)
