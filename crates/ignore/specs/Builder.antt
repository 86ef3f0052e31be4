-- A builder of walks and matchers, and what each setter makes of it: all but what is named is as
-- before.
use Rattle.std.specs.Prelude.{ℕ, Bool, false, List, [], ◌∷◌, ◌++◌, Option, None, Some}
use Rattle.ignore_base.specs.Text.{Bytes, Path}
use Rattle.ignore_dir.specs.Standard.{standard}
use Rattle.ignore_rules.specs.Rules.{Ruleset, empty}
use Rattle.ignore_types.specs.TypeMatch.{Matcher}
use Rattle.ignore_walk.specs.declared.callbacks.Order.{Order}
use Rattle.ignore_walk.specs.declared.callbacks.Order.TheVariants.{Listed}
use Rattle.ignore.specs.declared.options.WalkOptions.{WalkOptions}
use Rattle.ignore.specs.Depths.{raised, lowered}

-- a builder without roots: the settings at first, no rules, and no limit but the greatest number
abbrev pub unset : WalkOptions
unset =
    record {
      roots = [];
      settings = standard;
      overrides = empty;
      types = record { definitions = []; choices = [] };
      explicit = [];
      current_dir = None;
      order = Listed;
      limit = 18446744073709551615;
      same_file_system = false;
    }

-- the builder with one root more, after the others
abbrev pub with_root : WalkOptions → Path → WalkOptions
with_root b path = record b { roots = b.roots ++ path ∷ [] }

-- the builder with more roots, after the others
abbrev pub with_roots : WalkOptions → List Path → WalkOptions
with_roots b paths = record b { roots = b.roots ++ paths }

-- the builder with one name more of custom files, after the others
abbrev pub with_custom : WalkOptions → Bytes → WalkOptions
with_custom b name = record b { settings = record b.settings { custom = b.settings.custom ++ name ∷ [] } }

-- the builder by which hidden entries are ignored, or not
abbrev pub with_hidden : WalkOptions → Bool → WalkOptions
with_hidden b on = record b { settings = record b.settings { hidden = on } }

-- the builder by which the rules of the directories above a root count, or not
abbrev pub with_parents : WalkOptions → Bool → WalkOptions
with_parents b on = record b { settings = record b.settings { parents = on } }

-- the builder by which `.ignore` files count, or not
abbrev pub with_ignore : WalkOptions → Bool → WalkOptions
with_ignore b on = record b { settings = record b.settings { ignore = on } }

-- the builder by which the global file counts, or not
abbrev pub with_git_global : WalkOptions → Bool → WalkOptions
with_git_global b on = record b { settings = record b.settings { git_global = on } }

-- the builder by which `.gitignore` files count, or not
abbrev pub with_git_ignore : WalkOptions → Bool → WalkOptions
with_git_ignore b on = record b { settings = record b.settings { git_ignore = on } }

-- the builder by which exclude files count, or not
abbrev pub with_git_exclude : WalkOptions → Bool → WalkOptions
with_git_exclude b on = record b { settings = record b.settings { git_exclude = on } }

-- the builder with the six standard filters set; `require_git` and the mode of trailing spaces are
-- none of them
abbrev pub with_standard_filters : WalkOptions → Bool → WalkOptions
with_standard_filters b on =
    record b {
      settings = record b.settings {
        hidden = on;
        parents = on;
        ignore = on;
        git_global = on;
        git_ignore = on;
        git_exclude = on;
      };
    }

-- the builder of which git's rules apply in a repository alone, or everywhere
abbrev pub with_require_git : WalkOptions → Bool → WalkOptions
with_require_git b on = record b { settings = record b.settings { require_git = on } }

-- the builder of which the rules of files match both ASCII cases, or not
abbrev pub with_case_insensitive : WalkOptions → Bool → WalkOptions
with_case_insensitive b on = record b { settings = record b.settings { case_insensitive = on } }

-- the builder of which trailing spaces in files are read by git's own rule, or not
abbrev pub with_git_trailing_spaces : WalkOptions → Bool → WalkOptions
with_git_trailing_spaces b on = record b { settings = record b.settings { git_trailing_spaces = on } }

-- the builder of which symbolic links are followed, or not
abbrev pub with_follow_links : WalkOptions → Bool → WalkOptions
with_follow_links b on = record b { settings = record b.settings { follow_links = on } }

-- the builder of which walks stay on the device of each root, or not
abbrev pub with_same_file_system : WalkOptions → Bool → WalkOptions
with_same_file_system b on = record b { same_file_system = on }

-- the builder with this greatest depth, raised to the least one where it is below that
abbrev pub with_max_depth : WalkOptions → Option ℕ → WalkOptions
with_max_depth b depth = record b { settings = record b.settings { max_depth = raised b.settings.min_depth depth } }

-- the builder with this least depth, lowered to the greatest one where it is above that
abbrev pub with_min_depth : WalkOptions → Option ℕ → WalkOptions
with_min_depth b depth = record b { settings = record b.settings { min_depth = lowered b.settings.max_depth depth } }

-- the builder with this size above which a file is ignored
abbrev pub with_max_filesize : WalkOptions → Option ℕ → WalkOptions
with_max_filesize b size = record b { settings = record b.settings { max_filesize = size } }

-- the builder of which the entries of each directory come in this order, by which texts compare as such
abbrev pub with_order : WalkOptions → Order → WalkOptions
with_order b order = record b { order = order }

-- the builder with this number of steps that a walk may take
abbrev pub with_limit : WalkOptions → ℕ → WalkOptions
with_limit b steps = record b { limit = steps }

-- the builder with these globs of a command line in place of others
abbrev pub with_overrides : WalkOptions → Ruleset → WalkOptions
with_overrides b globs = record b { overrides = globs }

-- the builder with these chosen file types in place of others
abbrev pub with_types : WalkOptions → Matcher → WalkOptions
with_types b types = record b { types = types }

-- the builder with this directory in place of the working directory
abbrev pub with_current_dir : WalkOptions → Path → WalkOptions
with_current_dir b dir = record b { current_dir = Some dir }
