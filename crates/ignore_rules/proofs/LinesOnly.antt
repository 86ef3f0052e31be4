-- A line adds one thing, or is rejected with one problem, and never both.
use Rattle.std.proofs.Common.{◌≡◌, ℕ, List, Option, Some, None, sym, ap, ◌∙◌}
use Rattle.std.specs.Str.{chars}
use Rattle.ignore_glob.specs.Glob.{Tokens}
use Rattle.ignore_glob.specs.GlobFaults.{glob_fault_text}
use Rattle.ignore_glob.specs.declared.glob.fault.GlobFault.{GlobFault}
use Rattle.ignore_base.specs.Problem.{Problem, glob}
use Rattle.ignore_glob.proofs.RowLemmas.{Reads-same, one_fault, never_both}
use Rattle.ignore_rules.specs.Line.{ParsedLine, parsed_line}
use Rattle.ignore_rules.specs.Rules.{Rule, Building, LineOptions, Origin, read_rule, unnumbered, with_rule, GivesRule, GivesProblem}
use Rattle.ignore_rules.specs.Rules.{AddsLine, AddsLineOf, Refuses}

GivesRule-one : (options : LineOptions) (origin : Origin) (parsed : Option ParsedLine) (a b : Option Rule)
    → GivesRule options origin parsed a → GivesRule options origin parsed b → a ≡ b
GivesRule-one options origin None a b h k = h ∙ sym k
GivesRule-one options origin (Some w) a b h k =
    h.2 ∙ (ap (λ (tokens : Tokens). Some (read_rule origin w (record { tokens = tokens; case_insensitive = options.glob.case_insensitive })))
    (Reads-same options.glob (chars w.actual) h.0 k.0 h.1 k.1) ∙ sym k.2)

-- what a line adds is one thing
pub AddsLineOf-one : (old : Building) (origin : Origin) (line : List ℕ) (a b : Building) → AddsLineOf old origin line a
    → AddsLineOf old origin line b → a ≡ b
AddsLineOf-one old origin line a b h k =
    h.2 ∙ (ap (λ (given : Option Rule). with_rule old given)
    (GivesRule-one old.options origin (parsed_line old.options.git_trailing_spaces line) h.0 k.0 h.1 k.1) ∙ sym k.2)

GivesProblem-one : (options : LineOptions) (parsed : Option ParsedLine) (p q : Problem) → GivesProblem options parsed p
    → GivesProblem options parsed q → p ≡ q
GivesProblem-one options None p q h k = absurd h
GivesProblem-one options (Some w) p q h k =
    h.2 ∙ (ap (λ (f : GlobFault). glob (Some w.original) (glob_fault_text f)) (one_fault options.glob (chars w.actual) h.0 k.0 h.1 k.1)
    ∙ sym k.2)

-- a rejected line has one problem
pub Refuses-one : (options : LineOptions) (line : List ℕ) (p q : Problem) → Refuses options line p → Refuses options line q → p ≡ q
Refuses-one options line p q h k = GivesProblem-one options (parsed_line options.git_trailing_spaces line) p q h k

GivesRule-never : (options : LineOptions) (origin : Origin) (parsed : Option ParsedLine) (given : Option Rule) (p : Problem)
    → GivesRule options origin parsed given → GivesProblem options parsed p → ⊥
GivesRule-never options origin None given p h k = k
GivesRule-never options origin (Some w) given p h k = never_both options.glob (chars w.actual) h.0 k.0 h.1 k.1

-- a rejected line adds nothing
pub AddsLineOf-never : (old : Building) (origin : Origin) (line : List ℕ) (new : Building) (p : Problem) → AddsLineOf old origin line new
    → Refuses old.options line p → ⊥
AddsLineOf-never old origin line new p h k = GivesRule-never old.options origin (parsed_line old.options.git_trailing_spaces line) h.0 p h.1 k

-- The same of a line that is added by itself.

pub AddsLine-one : (old : Building) (from : Option (List ℕ)) (line : List ℕ) (a b : Building) → AddsLine old from line a
    → AddsLine old from line b → a ≡ b
AddsLine-one old from line a b h k = AddsLineOf-one old (unnumbered from) line a b h k

pub AddsLine-never : (old : Building) (from : Option (List ℕ)) (line : List ℕ) (new : Building) (p : Problem) → AddsLine old from line new
    → Refuses old.options line p → ⊥
AddsLine-never old from line new p h k = AddsLineOf-never old (unnumbered from) line new p h k
