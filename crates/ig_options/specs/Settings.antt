-- Which settings of a walk the options ask for, option by option.
use Rattle.std.specs.Prelude.{ℕ, Bool, nat_lt, not, ◌&&◌, ◌||◌, List, [], ◌++◌, if◌then◌else◌}
use Rattle.ignore_base.specs.Text.{Bytes}
use Rattle.ignore.specs.Builder.{unset}
use Rattle.ignore.specs.Depths.{lowered, raised}
use Rattle.ignore.specs.declared.options.WalkOptions.{WalkOptions}
use Rattle.ig_options.specs.declared.options.Options.{Options}

-- no file of rules counts: by `-I`, or by a `-u`
abbrev pub is_unruled : Options → Bool
is_unruled o = o.no_ignore || nat_lt 0 o.unrestricted

-- hidden entries are listed: by `-H`, or by a second `-u`
abbrev pub lists_hidden : Options → Bool
lists_hidden o = o.hidden || nat_lt 1 o.unrestricted

-- the settings by which hidden entries, and the files of rules of each sort, count but where an
-- option takes them out: `-I` and `-u` take out all files, and `--no-ignore-vcs` those of git
abbrev pub with_filters : Options → WalkOptions → WalkOptions
with_filters o w =
    record w {
      settings = record w.settings {
        hidden = not (lists_hidden o);
        parents = not (is_unruled o) && not o.no_ignore_parent;
        ignore = not (is_unruled o) && not o.no_ignore_dot;
        git_ignore = not (is_unruled o) && not o.no_ignore_vcs;
        git_global = (not (is_unruled o) && not o.no_ignore_vcs) && not o.no_ignore_global;
        git_exclude = (not (is_unruled o) && not o.no_ignore_vcs) && not o.no_ignore_exclude;
      };
    }

-- the settings by which files of rules are read as is asked
abbrev pub with_files : Options → WalkOptions → WalkOptions
with_files o w =
    record w {
      settings = record w.settings {
        require_git = not o.no_require_git;
        case_insensitive = o.ignore_file_case_insensitive;
        git_trailing_spaces = o.git_trailing_spaces;
      };
    }

-- the settings with the limits and the order that are asked for; of the limits a least depth above
-- the greatest one is lowered to that
abbrev pub with_limits : Options → WalkOptions → WalkOptions
with_limits o w =
    record w {
      settings = record w.settings {
        follow_links = o.follow;
        max_depth = raised w.settings.min_depth o.max_depth;
        min_depth = lowered (raised w.settings.min_depth o.max_depth) o.min_depth;
        max_filesize = o.max_filesize;
      };
      same_file_system = o.one_file_system;
      order = o.order;
    }

-- the settings with more names of files of rules, after the others
abbrev pub with_names : List Bytes → WalkOptions → WalkOptions
with_names names w = record w { settings = record w.settings { custom = w.settings.custom ++ names } }

-- the settings of each option: those at first, but as is asked. `-I` and `-u` take out the names of
-- further files of rules as well
abbrev pub walk_options : Options → WalkOptions
walk_options o =
    with_names (if is_unruled o then [] else o.ignore_names) (with_limits o (with_files o (with_filters o unset)))
