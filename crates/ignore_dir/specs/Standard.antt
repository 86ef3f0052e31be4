-- What holds where nothing was set.
use Rattle.std.specs.Prelude.{true, false, [], None}
use Rattle.ignore_rules.specs.Rules.{empty}
use Rattle.ignore_dir.specs.declared.outside.Outside.{Outside}
use Rattle.ignore_dir.specs.declared.settings.Settings.{Settings}

-- the settings at first: the six standard filters and `require_git` are on, all else is off or none
abbrev pub standard : Settings
standard =
    record {
      custom = [];
      hidden = true;
      parents = true;
      ignore = true;
      git_global = true;
      git_ignore = true;
      git_exclude = true;
      require_git = true;
      case_insensitive = false;
      git_trailing_spaces = false;
      follow_links = false;
      min_depth = None;
      max_depth = None;
      max_filesize = None;
    }

-- no rules from outside: no globs, no chosen types, no global file, none added by name
abbrev pub nothing_outside : Outside
nothing_outside =
    record {
      overrides = empty;
      types = record { definitions = []; choices = [] };
      global = empty;
      explicit = [];
    }
