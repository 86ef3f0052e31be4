-- The reason of a query below a root on the bare tree.
use Rattle.std.specs.Prelude.{◌≡◌, ℕ, Bool, true, not, nat_lt, List, [], ◌∷◌, Option, None, Some, Ok, Err, Result, string_bytes, if◌then◌else◌}
use Rattle.ignore_base.specs.Match.{match_map}
use Rattle.ignore_base.specs.Paths.{joined}
use Rattle.ignore_base.specs.Text.{Bytes, Path}
use Rattle.ignore_base.specs.declared.fault.Fault.{Fault}
use Rattle.ignore_base.specs.declared.match_result.Match.{Match}
use Rattle.ignore_files.specs.declared.types.Metadata.{Metadata}
use Rattle.ignore_dir.specs.declared.incremental.IncrementalMatch.{IncrementalMatch}
use Rattle.ignore_dir.specs.declared.settings.Settings.{Settings}
use Rattle.ignore_dir.specs.declared.verdict.Verdict.TheVariants as v
use Rattle.ignore_dir.specs.Above.{path_along}
use Rattle.ignore_dir.specs.Limits.{beyond, is_beyond, is_below, limited, no_match}
use Rattle.ignore_dir.specs.Query.{ancestors, depth_of_path, has_rules, is_asked, is_ignored, limit_of, names_of, query, size_of}
use Rattle.ignore_dir.specs.Scene.{QueryScene, chain, names_to}
use Rattle.ignore_dir.specs.Verdict.{verdict_of}
use Rattle.ignore_levels.specs.Reasons.{Why, why}
use Rattle.ignore_why.specs.Cited.{Cited, cited, cited_of}
use Rattle.ignore_why.specs.declared.explanation.Reason.{Reason}
use Rattle.ignore_why.specs.declared.explanation.Reason.TheVariants as reason

-- why a matcher answers as it does: nothing is asked; no rule is asked; a file above the least
-- depth; what is below the greatest; what decides, if anything does; a size above a limit; or an
-- ignored directory on the way, with what decides on that
pub data QueryWhy : Type 0 where
  unasked : QueryWhy
  unruled : QueryWhy
  too_shallow : QueryWhy
  too_deep : QueryWhy
  decided : Match Cited → QueryWhy
  larger : ℕ → ℕ → QueryWhy
  inside : Path → Match Cited → QueryWhy

-- the text of a path of these names: from `/` on, as far as the names above the root are known
abbrev pub text_to : QueryScene → List Bytes → Path
text_to g names = 47 ∷ joined (names_to g names)

-- what decides on a path of these names, and whether it ignores or whitelists it
unfoldable pub path_why : QueryScene → List Bytes → Bool → Match Why
path_why g names is_dir = why g.settings g.outside (chain g names) (path_along g.root names) is_dir

-- the same by name
abbrev pub path_cited : QueryScene → List Bytes → Bool → Match Cited
path_cited g names is_dir = match_map (cited (text_to g names)) (path_why g names is_dir)

-- the first of some directories that is ignored
abbrev pub first_ignored : QueryScene → List (List Bytes) → Option (List Bytes)
first_ignored g [] = None
first_ignored g (front ∷ fronts) = if is_ignored g front then Some front else first_ignored g fronts

-- what decides, unless the size is above a limit
abbrev pub why_by_size : Option ℕ → Result Metadata Fault → Match Cited → QueryWhy
why_by_size None size said = decided said
why_by_size (Some most) (Ok m) said = if nat_lt most m.len then larger m.len most else decided said
why_by_size (Some most) (Err fault) said = decided said

-- why the rules answer as they do, by the first ignored directory on the way, if there is one
abbrev pub why_on_way : QueryScene → Path → Bool → Option (List Bytes) → QueryWhy
why_on_way g path is_dir None = why_by_size (limit_of g path is_dir) (size_of g path) (path_cited g (names_of path) is_dir)
why_on_way g path is_dir (Some front) = inside (joined front) (path_cited g front true)

-- why the rules answer as they do
unfoldable pub why_by_rules : QueryScene → Path → Bool → QueryWhy
why_by_rules g path is_dir = why_on_way g path is_dir (first_ignored g (ancestors (names_of path)))

-- why what is beyond the limits on depth is ignored
abbrev pub why_beyond : Settings → ℕ → QueryWhy
why_beyond s depth = if is_below s.max_depth depth then too_deep else too_shallow

-- the reason of a query, in the order of its answer
unfoldable pub query_why : QueryScene → Path → Bool → QueryWhy
query_why g path is_dir =
    if not (is_asked g.root path) then unasked
    else if is_beyond g.settings (depth_of_path path) is_dir then why_beyond g.settings (depth_of_path path)
    else if has_rules g.tree g.root path then why_by_rules g path is_dir
    else unruled

-- the answer that goes with a reason
abbrev pub answer_of : Settings → ℕ → Bool → QueryWhy → IncrementalMatch
answer_of s depth is_dir unasked = no_match is_dir
answer_of s depth is_dir unruled = limited s depth is_dir v.None
answer_of s depth is_dir too_shallow = beyond
answer_of s depth is_dir too_deep = beyond
answer_of s depth is_dir (decided said) = limited s depth is_dir (verdict_of said)
answer_of s depth is_dir (larger size most) = limited s depth is_dir v.Ignore
answer_of s depth is_dir (inside dir said) = limited s depth is_dir v.Ignore

-- the answer of a query is that of its reason
abbrev pub AnswersByReason : Type 0
AnswersByReason = (g : QueryScene) (path : Path) (is_dir : Bool)
    → (query g path is_dir).0 ≡ answer_of g.settings (depth_of_path path) is_dir (query_why g path is_dir)

-- a reason as plain data
abbrev pub query_why_of : Reason → QueryWhy
query_why_of reason.Unasked = unasked
query_why_of reason.Unruled = unruled
query_why_of reason.TooShallow = too_shallow
query_why_of reason.TooDeep = too_deep
query_why_of (reason.Decided said) = decided (match_map cited_of said)
query_why_of (reason.Larger size most) = larger size most
query_why_of (reason.Inside dir said) = inside (string_bytes dir) (match_map cited_of said)
