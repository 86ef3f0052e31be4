-- The text of a reason.
use Rattle.std.specs.Prelude.{ℕ, Option, None, Some, ◌++◌, [], codes}
use Rattle.std.specs.Fmt.{decimal}
use Rattle.ignore_base.specs.Text.{Bytes, Path}
use Rattle.ignore_base.specs.declared.match_result.Match.{Match}
use Rattle.ignore_base.specs.declared.match_result.Match.TheVariants as m
use Rattle.ignore_why.specs.Cited.{Cited, Named}
use Rattle.ignore_why.specs.Cited.Cited.{on_override, on_rule, on_type, on_name}
use Rattle.ignore_why.specs.QueryWhy.{QueryWhy}
use Rattle.ignore_why.specs.QueryWhy.QueryWhy.{unasked, unruled, too_shallow, too_deep, decided, larger, inside}

-- where a line was read, and nothing where that isn't known
abbrev pub source_text : Option Path → Bytes
source_text None = []
source_text (Some path) = path

-- the number of a line, and nothing where it has none
abbrev pub line_text : Option ℕ → Bytes
line_text None = []
line_text (Some number) = decimal number

-- the source, the number and the line of a rule, with colons between them: `.gitignore:3:*.o`
abbrev pub rule_text : Named → Bytes
rule_text r = source_text r.from ++ (codes ":" ++ (line_text r.line ++ (codes ":" ++ r.original)))

-- what decides
abbrev pub cited_text : Cited → Bytes
cited_text (on_override (Some glob)) = codes "override " ++ glob
cited_text (on_override None) = codes "no override"
cited_text (on_rule r) = rule_text r
cited_text (on_type (Some found)) = codes "type " ++ found.name
cited_text (on_type None) = codes "no type"
cited_text on_name = codes "hidden"

-- what decides, if anything does
abbrev pub decided_text : Match Cited → Bytes
decided_text m.None = codes "no rule"
decided_text (m.Ignore said) = cited_text said
decided_text (m.Whitelist said) = cited_text said

-- a reason; in an ignored directory it is the text of what decides on that
abbrev pub query_why_text : QueryWhy → Bytes
query_why_text unasked = codes "not asked"
query_why_text unruled = codes "not asked"
query_why_text too_shallow = codes "above the least depth"
query_why_text too_deep = codes "below the greatest depth"
query_why_text (decided said) = decided_text said
query_why_text (larger size most) = codes "larger than " ++ decimal most
query_why_text (inside dir said) = decided_text said
