-- What C is told of why a matcher answers as it does.
use Rattle.std.specs.Prelude.{◌≡◌, ℕ, Bool, true, false, [], ◌++◌, Some, None, Result, Ok, Err, is_some, length}
use Rattle.ignore.specs.WalkWords.{IncrementalIgnore, IncrementalMatch, query_why, query_why_of}
use Rattle.ignore_base.specs.Text.{Bytes}
use Rattle.ignore_base.specs.declared.match_result.Match.{Match}
use Rattle.ignore_base.specs.declared.match_result.Match.TheVariants.{Ignore as Ignores, Whitelist}
use Rattle.ignore_base.specs.declared.match_result.Match.TheVariants.{None as NoMatch}
use Rattle.ignore_files.specs.Memory.{Memory}
use Rattle.ignore_kept.specs.Asks.{number_of, source_text}
use Rattle.ignore_kept.specs.Kinds.{matcher_in, tree_in}
use Rattle.ignore_kept.specs.Matching.{InScene, Matches, found_in, match_code}
use Rattle.ignore_kept.specs.declared.asker.Found.{Found}
use Rattle.ignore_kept.specs.declared.explained.Lent.{Lent}
use Rattle.ignore_kept.specs.declared.explained.Why.{Why}
use Rattle.ignore_kept.specs.declared.kept.Kept.{Kept}
use Rattle.ignore_kept.specs.declared.stopped.Stopped.{Stopped}
use Rattle.ignore_why.specs.Cited.{Cited, Named}
use Rattle.ignore_why.specs.Cited.Cited.{on_override, on_rule, on_type, on_name}
use Rattle.ignore_why.specs.QueryWhy.{QueryWhy}
use Rattle.ignore_why.specs.QueryWhy.QueryWhy.{unasked, unruled, too_shallow, too_deep, decided, larger, inside}
use Rattle.ignore_why.specs.declared.cause.RuleRank.{RuleRank}
use Rattle.ignore_why.specs.declared.cause.RuleRank.TheVariants.{Custom, Ignore, Gitignore, Exclude, Global, Explicit}
use Rattle.ignore_why.specs.declared.explanation.Explanation.{Explanation}

-- an answer with its reason
pub record Explained : Type 0 where
  pub answer : IncrementalMatch
  pub why : QueryWhy

-- an answer with its reason, as plain data
abbrev pub explained_in : Result Explanation Stopped → Result Explained Stopped
explained_in (Ok e) = Ok (record { answer = e.answer; why = query_why_of e.reason })
explained_in (Err stopped) = Err stopped

-- the answer alone
abbrev pub answer_in : Result Explained Stopped → Result IncrementalMatch Stopped
answer_in (Ok e) = Ok e.answer
answer_in (Err stopped) = Err stopped

-- a reason is the one of the definition in each scene of the tree for which what is kept is right
abbrev pub Reasons : Kept → Kept → Bytes → Bool → Result Explained Stopped → Type 0
Reasons old tree path is_dir (Ok e) =
    (before : IncrementalIgnore) × (files : Memory) × (matcher_in old ≡ Some before) × (tree_in tree ≡ Some files)
    × InScene before files (λ g. e.why ≡ query_why g path is_dir)
Reasons old tree path is_dir (Err stopped) = Unit {0}

-- asking a matcher's handle about a path with the reason, by a tree's: it answers, and leaves the
-- handle, as without
abbrev pub Explains : Kept → Kept → Bytes → Bool → Result Explained Stopped → Kept → Type 0
Explains old tree path is_dir given new =
    Matches old tree path is_dir (answer_in given) new × Reasons old tree path is_dir given

-- the parts of a reason: what kind it is, in which list a rule stands and the number of its line; a
-- size and its limit; whether the rule has a source, and whether the path is in an ignored directory,
-- whose reason it is; the directory of the rule's list, its source, and its line; the glob of a file
-- type; and the ignored directory. A glob of a command line and the name of a type stand as the line
pub record Parts : Type 0 where
  pub kind : ℕ
  pub rank : ℕ
  pub line : ℕ
  pub size : ℕ
  pub limit : ℕ
  pub has_source : Bool
  pub is_inside : Bool
  pub directory : Bytes
  pub source : Bytes
  pub pattern : Bytes
  pub glob : Bytes
  pub ancestor : Bytes

-- a kind alone; 0 is that of no reason
abbrev pub alone : ℕ → Parts
alone kind =
    record {
      kind = kind;
      rank = 0;
      line = 0;
      size = 0;
      limit = 0;
      has_source = false;
      is_inside = false;
      directory = [];
      source = [];
      pattern = [];
      glob = [];
      ancestor = [];
    }

-- how the lists of rules are numbered, in the order in which they are asked
abbrev pub rank_code : RuleRank → ℕ
rank_code Custom = 1
rank_code Ignore = 2
rank_code Gitignore = 3
rank_code Exclude = 4
rank_code Global = 5
rank_code Explicit = 6

-- a rule
abbrev pub rule_parts : Named → Parts
rule_parts r =
    record (alone 6) {
      rank = rank_code r.rank;
      line = number_of r.line;
      has_source = is_some r.from;
      directory = source_text r.directory;
      source = source_text r.from;
      pattern = r.original;
    }

-- what decides
abbrev pub cited_parts : Cited → Parts
cited_parts (on_rule r) = rule_parts r
cited_parts (on_override (Some glob)) = record (alone 7) { pattern = glob }
cited_parts (on_override None) = alone 8
cited_parts (on_type (Some found)) = record (alone 9) { pattern = found.name; glob = found.glob }
cited_parts (on_type None) = alone 10
cited_parts on_name = alone 11

-- what decides, if anything does
abbrev pub said_parts : Match Cited → Parts
said_parts NoMatch = alone 5
said_parts (Ignores cause) = cited_parts cause
said_parts (Whitelist cause) = cited_parts cause

-- a reason
abbrev pub why_parts : QueryWhy → Parts
why_parts unasked = alone 1
why_parts unruled = alone 2
why_parts too_shallow = alone 3
why_parts too_deep = alone 4
why_parts (decided said) = said_parts said
why_parts (larger size most) = record (alone 12) { size = size; limit = most }
why_parts (inside dir said) = record (said_parts said) { is_inside = true; ancestor = dir }

abbrev pub parts_given : Result Explained Stopped → Parts
parts_given (Ok e) = why_parts e.why
parts_given (Err stopped) = alone 0

-- parts that are lent, as plain data
abbrev pub parts_of : Lent → Parts
parts_of p =
    record {
      kind = p.kind;
      rank = p.rank;
      line = p.line;
      size = p.size;
      limit = p.limit;
      has_source = p.has_source;
      is_inside = p.is_inside;
      directory = p.directory.now;
      source = p.source.now;
      pattern = p.pattern.now;
      glob = p.glob.now;
      ancestor = p.ancestor.now;
    }

-- how parts are told: numbers, and the lengths of texts
abbrev pub told_as : Parts → Why
told_as p =
    record {
      kind = p.kind;
      rank = p.rank;
      line = p.line;
      size = p.size;
      limit = p.limit;
      directory = length p.directory;
      source = length p.source;
      pattern = length p.pattern;
      glob = length p.glob;
      ancestor = length p.ancestor;
      has_source = p.has_source;
      is_inside = p.is_inside;
    }

-- and their texts, one after the other
abbrev pub texts_of : Parts → Bytes
texts_of p = p.directory ++ (p.source ++ (p.pattern ++ (p.glob ++ p.ancestor)))

-- an answer with its reason is told so
abbrev pub TellsReason : Result Explained Stopped → ℕ → Found → Why → Bytes → Type 0
TellsReason given code found why text =
    (code ≡ match_code (answer_in given)) × (found ≡ found_in (answer_in given)) × (why ≡ told_as (parts_given given))
    × (text ≡ texts_of (parts_given given))

-- asking with the reason, by what C is told
abbrev pub AsksWhy : Kept → Kept → Bytes → Bool → ℕ → Found → Why → Bytes → Kept → Type 0
AsksWhy old tree path is_dir code found why text new =
    (given : Result Explained Stopped) × Explains old tree path is_dir given new × TellsReason given code found why text
