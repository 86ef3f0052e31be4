-- What a handle keeps: a tree, a builder, a matcher, a walk, a guide, findings.
use Rattle.std.specs.Prelude.{Option, Some, None}
use Rattle.ignore.specs.WalkWords.{IncrementalIgnore}
use Rattle.ignore_files.specs.Memory.{Memory}
use Rattle.ignore_kept.specs.declared.findings.Findings.{Findings}
use Rattle.ignore_kept.specs.declared.guided.Guided.{Guided}
use Rattle.ignore_kept.specs.declared.kept.Kept.{Kept}
use Rattle.ignore_kept.specs.declared.kept.Kept.TheVariants as keeps
use Rattle.ignore_kept.specs.declared.setup.Setup.{Setup}
use Rattle.ignore_kept.specs.declared.walked.Walked.{Walked}

-- the tree that a handle keeps, if it keeps one
abbrev pub tree_in : Kept → Option Memory
tree_in (keeps.Lines lines) = None
tree_in (keeps.Rules rules) = None
tree_in (keeps.Tree tree) = Some tree
tree_in (keeps.Setup setup) = None
tree_in (keeps.Matcher matcher) = None
tree_in (keeps.Walk walk) = None
tree_in (keeps.Guide guided) = None
tree_in (keeps.Findings found) = None
tree_in keeps.Lent = None

-- the settings that a handle keeps, if it keeps some
abbrev pub setup_in : Kept → Option Setup
setup_in (keeps.Lines lines) = None
setup_in (keeps.Rules rules) = None
setup_in (keeps.Tree tree) = None
setup_in (keeps.Setup setup) = Some setup
setup_in (keeps.Matcher matcher) = None
setup_in (keeps.Walk walk) = None
setup_in (keeps.Guide guided) = None
setup_in (keeps.Findings found) = None
setup_in keeps.Lent = None

-- the matcher of single paths that a handle keeps, if it keeps one
abbrev pub matcher_in : Kept → Option IncrementalIgnore
matcher_in (keeps.Lines lines) = None
matcher_in (keeps.Rules rules) = None
matcher_in (keeps.Tree tree) = None
matcher_in (keeps.Setup setup) = None
matcher_in (keeps.Matcher matcher) = Some matcher
matcher_in (keeps.Walk walk) = None
matcher_in (keeps.Guide guided) = None
matcher_in (keeps.Findings found) = None
matcher_in keeps.Lent = None

-- the walk that a handle keeps, if it keeps one
abbrev pub walk_in : Kept → Option Walked
walk_in (keeps.Lines lines) = None
walk_in (keeps.Rules rules) = None
walk_in (keeps.Tree tree) = None
walk_in (keeps.Setup setup) = None
walk_in (keeps.Matcher matcher) = None
walk_in (keeps.Walk walk) = Some walk
walk_in (keeps.Guide guided) = None
walk_in (keeps.Findings found) = None
walk_in keeps.Lent = None

-- the guide that a handle keeps, if it keeps one
abbrev pub guided_in : Kept → Option Guided
guided_in (keeps.Lines lines) = None
guided_in (keeps.Rules rules) = None
guided_in (keeps.Tree tree) = None
guided_in (keeps.Setup setup) = None
guided_in (keeps.Matcher matcher) = None
guided_in (keeps.Walk walk) = None
guided_in (keeps.Guide guided) = Some guided
guided_in (keeps.Findings found) = None
guided_in keeps.Lent = None

-- the findings that a handle keeps, if it keeps some
abbrev pub findings_in : Kept → Option Findings
findings_in (keeps.Lines lines) = None
findings_in (keeps.Rules rules) = None
findings_in (keeps.Tree tree) = None
findings_in (keeps.Setup setup) = None
findings_in (keeps.Matcher matcher) = None
findings_in (keeps.Walk walk) = None
findings_in (keeps.Guide guided) = None
findings_in (keeps.Findings found) = Some found
findings_in keeps.Lent = None
