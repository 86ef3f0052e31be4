-- What the limits on depth and size make of a path, and the parts of an answer.
use Rattle.std.specs.Prelude.{ℕ, Bool, true, false, not, ◌&&◌, ◌||◌, nat_lt, nat_le, Option, Some, Ok, Err, Result, if◌then◌else◌}
use Rattle.std.specs.Prelude as std
use Rattle.ignore_base.specs.Text.{Path}
use Rattle.ignore_base.specs.Problem.{Problem, at_path, io}
use Rattle.ignore_base.specs.declared.fault.Fault.{Fault}
use Rattle.ignore_files.specs.declared.types.Metadata.{Metadata}
use Rattle.ignore_dir.specs.declared.incremental.IncrementalMatch.{IncrementalMatch}
use Rattle.ignore_dir.specs.declared.settings.Settings.{Settings}
use Rattle.ignore_dir.specs.declared.verdict.Verdict.{Verdict}
use Rattle.ignore_dir.specs.declared.verdict.Verdict.TheVariants.{None, Ignore, Whitelist}
use Rattle.ignore_dir.specs.Verdict.{is_ignore}

-- nothing decides
abbrev pub is_none : Verdict → Bool
is_none None = true
is_none Ignore = false
is_none Whitelist = false

-- the verdict whitelists
abbrev pub is_whitelist : Verdict → Bool
is_whitelist None = false
is_whitelist Ignore = false
is_whitelist Whitelist = true

-- ignore and whitelist exchanged
abbrev pub inverted : Verdict → Verdict
inverted None = None
inverted Ignore = Whitelist
inverted Whitelist = Ignore

-- the depth is above the least depth, if there is one: fewer names than that
abbrev pub is_above : Option ℕ → ℕ → Bool
is_above std.None depth = false
is_above (Some least) depth = nat_lt depth least

-- the depth is below the greatest depth, if there is one: more names than that
abbrev pub is_below : Option ℕ → ℕ → Bool
is_below std.None depth = false
is_below (Some most) depth = nat_lt most depth

-- there is a greatest depth, and the depth is at least that
abbrev pub is_deepest : Option ℕ → ℕ → Bool
is_deepest std.None depth = false
is_deepest (Some most) depth = nat_le most depth

-- a file above the least depth, and anything below the greatest
abbrev pub is_beyond : Settings → ℕ → Bool → Bool
is_beyond s depth is_dir = (not is_dir && is_above s.min_depth depth) || is_below s.max_depth depth

-- the answer where nothing is asked: no match, on which a walk goes on below directories
abbrev pub no_match : Bool → IncrementalMatch
no_match is_dir = record { verdict = None; descends = is_dir; is_within = true }

-- the answer for what is beyond the limits on depth
abbrev pub beyond : IncrementalMatch
beyond = record { verdict = Ignore; descends = false; is_within = false }

-- the answer with this verdict: a directory is descended unless it is ignored or at the greatest
-- depth, and what is above the least depth is not within depth
abbrev pub limited : Settings → ℕ → Bool → Verdict → IncrementalMatch
limited s depth is_dir v =
    record {
      verdict = v;
      descends = is_dir && (not (is_ignore v) && not (is_deepest s.max_depth depth));
      is_within = not (is_above s.min_depth depth);
    }

-- the greatest size of a path with this verdict: directories, and what is ignored anyway, have none
abbrev pub size_limit : Settings → Bool → Verdict → Option ℕ
size_limit s is_dir v = if is_dir || is_ignore v then std.None else s.max_filesize

-- there is a limit, and the size by this metadata is more
abbrev pub is_larger : Option ℕ → Result Metadata Fault → Bool
is_larger std.None size = false
is_larger (Some most) (Ok m) = nat_lt most m.len
is_larger (Some most) (Err fault) = false

-- the problem of asking the size at a path: a fault, where there is a limit
abbrev pub size_problem : Path → Option ℕ → Result Metadata Fault → Option Problem
size_problem path std.None size = std.None
size_problem path (Some most) (Ok m) = std.None
size_problem path (Some most) (Err fault) = Some (at_path path (io fault))

-- the verdict, and ignore for what is larger than the limit
abbrev pub sized : Option ℕ → Result Metadata Fault → Verdict → Verdict
sized limit size v = if is_larger limit size then Ignore else v
