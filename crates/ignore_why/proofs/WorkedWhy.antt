-- Worked reasons, computed. In the repository `/t` the name `1` is ignored by a custom file, `2` by
-- `.ignore`, `3` by `.gitignore` at any depth, `4` by the exclude file, `5` by the global file and
-- `6` by a file that was added by name; `7` is whitelisted by the custom file. Each rule stands on
-- the line of its number. `/t/n/.gitignore` whitelists `3`, and `/t/m` is a repository of its own.
use Rattle.std.proofs.Common.{◌≡◌, ℕ, true, false, Bool, List, [], ◌∷◌, ◌++◌, codes, Option, None, Some, Ok, Err, option_map, string_bytes, refl, ap, ◌∙◌}
use Rattle.std.specs.Fmt.{decimal}
use Rattle.std.specs.Str.{bytes_eq, chars}
use Rattle.std.specs.Prelude.{if◌then◌else◌}
use Rattle.ignore_base.specs.Paths.{below, file_name_of, join_of, strip_prefix_of}
use Rattle.ignore_base.specs.declared.fault.Fault.TheVariants.{NotFound}
use Rattle.ignore_base.specs.declared.match_result.Match.{Match}
use Rattle.ignore_base.specs.declared.match_result.Match.TheVariants as m
use Rattle.ignore_files.specs.Tree.{Tree}
use Rattle.ignore_files.specs.declared.types.FileType.TheVariants.{Dir as dir_kind, File as file_kind}
use Rattle.ignore_glob.specs.DoesMatch.{does_match}
use Rattle.ignore_glob.specs.Glob.{literal, done, start, then as next}
use Rattle.ignore_glob.specs.Reading.{Reading}
use Rattle.ignore_types.specs.TypeMatch.{Matcher, no_types}
use Rattle.ignore_rules.specs.Rules.{Rule, Ruleset, empty}
use Rattle.ignore_dir.specs.declared.dir.Dir.{Dir}
use Rattle.ignore_dir.specs.declared.incremental.IncrementalMatch.{IncrementalMatch}
use Rattle.ignore_dir.specs.declared.settings.Settings.{Settings}
use Rattle.ignore_dir.specs.declared.verdict.Verdict.TheVariants as v
use Rattle.ignore_dir.specs.Limits.{beyond}
use Rattle.ignore_dir.specs.Load.{Loaded}
use Rattle.ignore_dir.specs.Query.{depth_of_path, is_ignored, query, rules_verdict}
use Rattle.ignore_dir.specs.Scene.{QueryScene, path_verdict, scene}
use Rattle.ignore_why.specs.declared.cause.Cause.TheVariants as cause
use Rattle.ignore_why.specs.declared.cause.NamedRule.{NamedRule}
use Rattle.ignore_why.specs.declared.cause.NamedType.{NamedType}
use Rattle.ignore_why.specs.declared.cause.RuleRank.{RuleRank}
use Rattle.ignore_why.specs.declared.cause.RuleRank.TheVariants.{Custom, Ignore, Gitignore, Exclude, Global, Explicit}
use Rattle.ignore_why.specs.declared.explanation.Reason.TheVariants as reason
use Rattle.ignore_why.specs.Cited.{Cited, Typed, named_of, typed_of}
use Rattle.ignore_why.specs.Cited.Cited.{on_name, on_override, on_rule, on_type}
use Rattle.ignore_why.specs.QueryWhy.{AnswersByReason, answer_of, path_why, query_why, query_why_of, why_by_rules, why_by_size}
use Rattle.ignore_why.specs.QueryWhy.QueryWhy.{decided, inside, larger, too_deep, too_shallow, unasked, unruled}
use Rattle.ignore_why.specs.Texts.{query_why_text, rule_text}

-- the pattern of one character, and the same at any depth
abbrev pub only : ℕ → Reading
only c = record { tokens = next (literal c) done; case_insensitive = false }

abbrev deep : ℕ → Reading
deep c = record { tokens = next start (next (literal c) done); case_insensitive = false }

-- the rule of one character, on a line of the file `f`
abbrev pub rule : Reading → ℕ → ℕ → Bool → Rule
rule reading c line whitelist = record {
  from = Some (codes "f");
  line = Some line;
  original = c ∷ [];
  actual = c ∷ [];
  is_whitelist = whitelist;
  is_only_dir = false;
  reading = reading;
}

abbrev pub rules : List Rule → Ruleset
rules list = record { root = codes "/t"; rules = list }

abbrev top : Dir
top = record {
  custom = rules (rule (only 49) 49 1 false ∷ rule (only 55) 55 7 true ∷ []);
  ignore = rules (rule (only 50) 50 2 false ∷ []);
  gitignore = rules (rule (deep 51) 51 3 false ∷ []);
  exclude = rules (rule (only 52) 52 4 false ∷ []);
  mark = true;
}

abbrev near : Dir
near = record { custom = empty; ignore = empty; gitignore = rules (rule (only 51) 51 3 true ∷ []); exclude = empty; mark = false }

abbrev other : Bool → Dir
other mark = record { custom = empty; ignore = empty; gitignore = empty; exclude = empty; mark = mark }

abbrev loads : List ℕ → Loaded
loads path =
    if bytes_eq path (codes "/t") then (top, None)
    else if bytes_eq path (codes "/t/n") then (near, None)
    else (other (bytes_eq path (codes "/t/m")), None)

-- the file `/t/z` has ten bytes; all else is a directory
abbrev tree : Tree
tree = record {
  stat = λ p follow. if bytes_eq p (codes "/t/z") then Ok (record { file_type = file_kind; len = 10 })
      else Ok (record { file_type = dir_kind; len = 0 });
  list = λ p. Err NotFound;
  contents = λ p. Err NotFound;
  canonical = λ p. Ok p;
  identity = λ p follow. Err NotFound;
}

abbrev pub settings : Option ℕ → Option ℕ → Settings
settings least most = record {
  custom = [];
  hidden = true;
  parents = true;
  ignore = true;
  git_global = true;
  git_ignore = true;
  git_exclude = true;
  require_git = true;
  case_insensitive = false;
  git_trailing_spaces = false;
  follow_links = false;
  min_depth = least;
  max_depth = most;
  max_filesize = Some 9;
}

-- the type `r` of the names `7` and `8`, selected or negated
abbrev typed : Bool → Matcher
typed negated = record {
  definitions = [];
  choices = record {
    definition = record { name = codes "r"; globs = codes "7" ∷ codes "8" ∷ [] };
    readings = only 55 ∷ only 56 ∷ [];
    negated = negated;
  } ∷ [];
}

abbrev asked : Option ℕ → Option ℕ → Ruleset → Matcher → List ℕ → QueryScene
asked least most overrides types root = scene tree loads (settings least most) (record {
  overrides = overrides;
  types = types;
  global = rules (rule (only 53) 53 5 false ∷ []);
  explicit = rules (rule (only 54) 54 6 false ∷ []) ∷ [];
}) root

abbrev g : QueryScene
g = asked None None empty no_types (codes "/t")

-- a rule of that file, by name
abbrev named : RuleRank → Option (List ℕ) → ℕ → ℕ → Bool → Cited
named ranked directory c line whitelist = on_rule (record {
  rank = ranked;
  directory = directory;
  from = Some (codes "f");
  line = Some line;
  original = c ∷ [];
  is_whitelist = whitelist;
})

abbrev top_path : Option (List ℕ)
top_path = Some (codes "/t/")

-- each rank decides once
pub each_rank : (query_why g (codes "1") false ≡ decided (m.Ignore (named Custom top_path 49 1 false)))
    × (query_why g (codes "2") false ≡ decided (m.Ignore (named Ignore top_path 50 2 false)))
    × (query_why g (codes "3") false ≡ decided (m.Ignore (named Gitignore top_path 51 3 false)))
    × (query_why g (codes "4") false ≡ decided (m.Ignore (named Exclude top_path 52 4 false)))
    × (query_why g (codes "5") false ≡ decided (m.Ignore (named Global None 53 5 false)))
    × (query_why g (codes "6") false ≡ decided (m.Ignore (named Explicit None 54 6 false)))
unfolding query_why why_by_rules path_why is_ignored path_verdict rules_verdict join_of file_name_of below strip_prefix_of does_match chars
each_rank = (refl, refl, refl, refl, refl, refl)

-- no rule matches `k`; `z` is larger than nine bytes; `.k` is hidden
pub without_a_rule : (query_why g (codes "k") false ≡ decided m.None) × (query_why g (codes "z") false ≡ larger 10 9)
    × (query_why g (codes ".k") false ≡ decided (m.Ignore on_name))
unfolding query_why why_by_rules path_why is_ignored path_verdict rules_verdict join_of file_name_of below strip_prefix_of does_match chars
without_a_rule = (refl, refl, refl)

-- a path that isn't clean, and any below the root `-`, isn't asked; no rule is asked for the root
-- itself, and for a path below a file
pub not_asked : (query_why g (codes "./k") false ≡ unasked)
    × (query_why (asked None None empty no_types (codes "-")) (codes "k") false ≡ unasked) × (query_why g [] true ≡ unruled)
    × (query_why (asked None None empty no_types (codes "/t/z")) (codes "k") false ≡ unruled)
unfolding query_why why_by_rules path_why is_ignored path_verdict rules_verdict join_of file_name_of below strip_prefix_of does_match chars
not_asked = (refl, refl, refl, refl)

-- a file at the depth 1 is above the least depth 2, and one at 2 below the greatest depth 1
pub beyond_depths : (query_why (asked (Some 2) None empty no_types (codes "/t")) (codes "1") false ≡ too_shallow)
    × (query_why (asked None (Some 1) empty no_types (codes "/t")) (codes "1/k") false ≡ too_deep)
unfolding query_why why_by_rules path_why is_ignored path_verdict rules_verdict join_of file_name_of below strip_prefix_of does_match chars
beyond_depths = (refl, refl)

-- the nearer directory whitelists; git's rules end at a repository; and a path two levels below an
-- ignored directory is ignored for that
pub by_directories : (query_why g (codes "n/3") false ≡ decided (m.Whitelist (named Gitignore (Some (codes "/t/n/")) 51 3 true)))
    × (query_why g (codes "m/3") false ≡ decided m.None) × (query_why g (codes "k/3") false ≡ decided (m.Ignore (named Gitignore top_path 51 3 false)))
    × (query_why g (codes "1/n/3") false ≡ inside (codes "1") (m.Ignore (named Custom top_path 49 1 false)))
unfolding query_why why_by_rules path_why is_ignored path_verdict rules_verdict join_of file_name_of below strip_prefix_of does_match chars
by_directories = (refl, refl, refl, refl)

-- of two ignored directories on the way, `1` and `1/3`, the outer one is the reason
pub outer_directory : query_why g (codes "1/3/k") false ≡ inside (codes "1") (m.Ignore (named Custom top_path 49 1 false))
unfolding query_why why_by_rules path_why is_ignored path_verdict rules_verdict join_of file_name_of below strip_prefix_of does_match chars
outer_directory = refl

-- a size of nine bytes isn't above the limit of nine, and one that isn't known is above none
pub at_the_limit : (why_by_size (Some 9) (Ok (record { file_type = file_kind; len = 9 })) m.None ≡ decided m.None)
    × (why_by_size (Some 9) (Err NotFound) m.None ≡ decided m.None)
at_the_limit = (refl, refl)

-- the answers by reasons: what isn't asked and what no rule is asked for have no match; what is beyond
-- the depths, too large or in an ignored directory is ignored; else it is as what decides says
pub answers : let by = answer_of (settings None None) 1 false in
    ((by unasked).verdict ≡ v.None) × ((by unruled).verdict ≡ v.None) × (by too_shallow ≡ beyond) × (by too_deep ≡ beyond)
    × ((by (larger 10 9)).verdict ≡ v.Ignore) × ((by (inside (codes "1") (m.Whitelist on_name))).verdict ≡ v.Ignore)
    × ((by (decided m.None)).verdict ≡ v.None) × ((by (decided (m.Ignore on_name))).verdict ≡ v.Ignore)
    × ((by (decided (m.Whitelist on_name))).verdict ≡ v.Whitelist)
answers = (refl, refl, refl, refl, refl, refl, refl, refl, refl)

-- by the law a path in an ignored directory is ignored, whatever decides on the directory
pub ignored_inside : AnswersByReason → (q : QueryScene) (path dir : List ℕ) (is_dir : Bool) (said : Match Cited)
    → query_why q path is_dir ≡ inside dir said → (query q path is_dir).0.verdict ≡ v.Ignore
ignored_inside law q path dir is_dir said h =
    let answer = answer_of q.settings (depth_of_path path) is_dir in
    ap (λ (a : IncrementalMatch). a.verdict) (law q path is_dir ∙ ap answer h)

-- the type `r` by one of its globs
abbrev by_glob : List ℕ → Option Typed
by_glob glob = Some (record { name = codes "r"; glob = glob })

-- a rule whitelists `7`, and a negated type decides before it, by the glob that matches; a selected
-- type ignores what it doesn't match, but a rule that ignores decides before types
pub by_types : (query_why g (codes "7") false ≡ decided (m.Whitelist (named Custom top_path 55 7 true)))
    × (query_why (asked None None empty (typed true) (codes "/t")) (codes "7") false ≡ decided (m.Ignore (on_type (by_glob (codes "7")))))
    × (query_why (asked None None empty (typed true) (codes "/t")) (codes "8") false ≡ decided (m.Ignore (on_type (by_glob (codes "8")))))
    × (query_why (asked None None empty (typed false) (codes "/t")) (codes "k") false ≡ decided (m.Ignore (on_type None)))
    × (query_why (asked None None empty (typed false) (codes "/t")) (codes "2") false ≡ decided (m.Ignore (named Ignore top_path 50 2 false)))
unfolding query_why why_by_rules path_why is_ignored path_verdict rules_verdict join_of file_name_of below strip_prefix_of does_match chars
by_types = (refl, refl, refl, refl, refl)

-- an override decides before all else: `1` is its glob, and `7` isn't
pub by_overrides : let overrides = rules (rule (only 49) 49 1 false ∷ []) in
    (query_why (asked None None overrides no_types (codes "/t")) (codes "1") false ≡ decided (m.Whitelist (on_override (Some (codes "1")))))
    × (query_why (asked None None overrides no_types (codes "/t")) (codes "7") false ≡ decided (m.Ignore (on_override None)))
unfolding query_why why_by_rules path_why is_ignored path_verdict rules_verdict join_of file_name_of below strip_prefix_of does_match chars
by_overrides = (refl, refl)

-- the texts of reasons
pub texts : (query_why_text (decided (m.Ignore (named Custom top_path 49 12 false))) ≡ codes "f:" ++ (decimal 12 ++ codes ":1"))
    × (query_why_text (inside (codes "1") (m.Ignore (named Custom top_path 49 1 false))) ≡ codes "f:" ++ (decimal 1 ++ codes ":1"))
    × (query_why_text (decided m.None) ≡ codes "no rule") × (query_why_text (larger 10 9) ≡ codes "larger than " ++ decimal 9)
    × (query_why_text (decided (m.Ignore (on_type (by_glob (codes "7"))))) ≡ codes "type r")
    × (query_why_text (decided (m.Whitelist (on_override (Some (codes "*.rs"))))) ≡ codes "override *.rs")
    × (query_why_text (decided (m.Ignore on_name)) ≡ codes "hidden") × (query_why_text unasked ≡ codes "not asked")
    × (query_why_text unruled ≡ codes "not asked") × (query_why_text too_shallow ≡ codes "above the least depth")
    × (query_why_text too_deep ≡ codes "below the greatest depth") × (query_why_text (decided (m.Ignore (on_type None))) ≡ codes "no type")
    × (query_why_text (decided (m.Ignore (on_override None))) ≡ codes "no override")
texts = (refl, refl, refl, refl, refl, refl, refl, refl, refl, refl, refl, refl, refl)

-- the text of a rule without a source or a number has the colons
pub unknown_line : rule_text (record { rank = Explicit; directory = None; from = None; line = None; original = codes "*.o"; is_whitelist = true })
    ≡ codes "::*.o"
unknown_line = refl

-- what the code's reasons stand for
pub of_code : (query_why_of reason.Unasked ≡ unasked) × (query_why_of reason.Unruled ≡ unruled) × (query_why_of reason.TooShallow ≡ too_shallow)
    × (query_why_of reason.TooDeep ≡ too_deep) × (query_why_of (reason.Larger 10 9) ≡ larger 10 9)
    × (query_why_of (reason.Decided (m.Ignore cause.Hidden)) ≡ decided (m.Ignore on_name))
    × (query_why_of (reason.Decided (m.Whitelist (cause.Type None))) ≡ decided (m.Whitelist (on_type None)))
    × (query_why_of (reason.Decided (m.Ignore (cause.Override None))) ≡ decided (m.Ignore (on_override None)))
of_code = (refl, refl, refl, refl, refl, refl, refl, refl)

pub rule_of_code : (r : NamedRule) → ((named_of r).rank ≡ r.rank) × ((named_of r).directory ≡ option_map string_bytes r.directory)
    × ((named_of r).from ≡ option_map string_bytes r.source) × ((named_of r).line ≡ r.line) × ((named_of r).original ≡ string_bytes r.original)
    × ((named_of r).is_whitelist ≡ r.is_whitelist)
rule_of_code r = (refl, refl, refl, refl, refl, refl)

pub type_of_code : (t : NamedType) → ((typed_of t).name ≡ string_bytes t.name) × ((typed_of t).glob ≡ string_bytes t.glob)
type_of_code t = (refl, refl)
