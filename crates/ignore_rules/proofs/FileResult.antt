-- What was read of a file gives one list of rules and one problem, whatever builder it is added to.
use Rattle.std.proofs.Common.{◌≡◌, ◌⊎◌, inl, inr, ℕ, ◌+◌, List, [], ◌∷◌, ◌++◌, Option, Some, None, Result, Ok, Err, refl, sym, ap, subst}
use Rattle.std.proofs.Common.{append_assoc}
use Rattle.std.proofs.lemmas.List.{append-nil}
use Rattle.std.specs.Str.{chars}
use Rattle.ignore_base.specs.declared.fault.Fault.{Fault}
use Rattle.ignore_glob.specs.GlobFaults.{glob_fault_text}
use Rattle.ignore_base.specs.Problem.{Problem, at_path, glob, io, joined_problems}
use Rattle.ignore_glob.proofs.RowExists.{find_reading}
use Rattle.ignore_files.specs.declared.types.Contents.{Contents}
use Rattle.ignore_rules.specs.Line.{ParsedLine, parsed_line}
use Rattle.ignore_rules.specs.Rules.{Building, LineOptions, Origin, Rule, GivesProblem, GivesRule, line_of_file, read_rule, with_rule}
use Rattle.ignore_rules.specs.RuleFile.{AddsContents, AddsLines, Gives, GivesOneResult, added, at_line_of, done, lines_read, refused}
use Rattle.ignore_rules.specs.RuleFile.{line_content, stopped, with_rules}
use Rattle.ignore_rules.proofs.FilesOnly.{AddsContents-one}

-- a line gives a rule, or none, or is rejected
line_outcome : (options : LineOptions) (origin : Origin) (parsed : Option ParsedLine)
    → ((given : Option Rule) × GivesRule options origin parsed given) ⊎ ((problem : Problem) × GivesProblem options parsed problem)
line_outcome options origin None = inl (None, refl)
line_outcome options origin (Some w) = elim (find_reading options.glob (chars w.actual)) [
  | inl (tokens, h) ↦ inl
      (Some (read_rule origin w (record { tokens = tokens; case_insensitive = options.glob.case_insensitive })), (tokens, h, refl))
  | inr (fault, h) ↦ inr (glob (Some w.original) (glob_fault_text fault), (fault, h, refl))
]

-- the rules of one line
abbrev rules_of : Option Rule → List Rule
rules_of None = []
rules_of (Some rule) = rule ∷ []

no_rules : (b : Building) → b ≡ with_rules b []
no_rules b = ap (λ (rules : List Rule). record { root = b.root; rules = rules; options = b.options }) (sym (append-nil b.rules))

with_rule-rules : (b : Building) (given : Option Rule) → with_rule b given ≡ with_rules b (rules_of given)
with_rule-rules b None = no_rules b
with_rule-rules b (Some rule) = refl

with_rules-twice : (b : Building) (first more : List Rule) → with_rules (with_rules b first) more ≡ with_rules b (first ++ more)
with_rules-twice b first more =
    ap (λ (rules : List Rule). record { root = b.root; rules = rules; options = b.options }) (append_assoc b.rules first more)

-- the lines that were met give these rules and these problems, whatever builder has the options
abbrev LinesGive : List ℕ → LineOptions → ℕ → List (Result (List ℕ) Fault) → List Rule → List Problem → Type 0
LinesGive path options number decoded rules problems =
    (old : Building) → old.options ≡ options → AddsLines path number decoded old (with_rules old rules) problems

after_rule : (path : List ℕ) (options : LineOptions) (number : ℕ) (line : List ℕ) (more : List (Result (List ℕ) Fault))
    (given : Option Rule) (rules : List Rule) (problems : List Problem)
    → GivesRule options (line_of_file path number) (parsed_line options.git_trailing_spaces (line_content number line)) given
    → LinesGive path options (number + 1) more rules problems
    → LinesGive path options number (Ok line ∷ more) (rules_of given ++ rules) problems
after_rule path options number line more given rules problems h rest = λ old same.
    let parsed : GivesRule old.options (line_of_file path number) (parsed_line old.options.git_trailing_spaces (line_content number line)) given =
    subst (λ (o : LineOptions). GivesRule o (line_of_file path number) (parsed_line o.git_trailing_spaces (line_content number line)) given)
    (sym same) h in
    let further : AddsLines path (number + 1) more (with_rules old (rules_of given))
    (with_rules (with_rules old (rules_of given)) rules) problems = rest (with_rules old (rules_of given)) same in
    added number line more old (with_rules old (rules_of given)) (with_rules old (rules_of given ++ rules)) problems
    (given, parsed, sym (with_rule-rules old given))
    (subst (λ (b : Building). AddsLines path (number + 1) more (with_rules old (rules_of given)) b problems)
    (with_rules-twice old (rules_of given) rules) further)

after_refusal : (path : List ℕ) (options : LineOptions) (number : ℕ) (line : List ℕ) (more : List (Result (List ℕ) Fault))
    (problem : Problem) (rules : List Rule) (problems : List Problem)
    → GivesProblem options (parsed_line options.git_trailing_spaces (line_content number line)) problem
    → LinesGive path options (number + 1) more rules problems
    → LinesGive path options number (Ok line ∷ more) rules (at_line_of path number problem ∷ problems)
after_refusal path options number line more problem rules problems h rest = λ old same.
    refused number line more old (with_rules old rules) problem problems
    (subst (λ (o : LineOptions). GivesProblem o (parsed_line o.git_trailing_spaces (line_content number line)) problem) (sym same) h)
    (rest old same)

lines_give : (path : List ℕ) (options : LineOptions) (number : ℕ) (decoded : List (Result (List ℕ) Fault))
    → (rules : List Rule) × (problems : List Problem) × LinesGive path options number decoded rules problems
lines_give path options number [] =
    ([], [], λ old same. subst (λ (b : Building). AddsLines path number [] old b []) (no_rules old) (done number old))
lines_give path options number (Err fault ∷ more) = (
  [],
  at_line_of path number (io fault) ∷ [],
  λ old same. subst
      (λ (b : Building). AddsLines path number (Err fault ∷ more) old b (at_line_of path number (io fault) ∷ [])) (no_rules old)
      (stopped number fault more old),
)
lines_give path options number (Ok line ∷ more) =
    let rest = lines_give path options (number + 1) more in
    elim (line_outcome options (line_of_file path number) (parsed_line options.git_trailing_spaces (line_content number line))) [
      | inl (given, h) ↦ (rules_of given ++ rest.0, rest.1, after_rule path options number line more given rest.0 rest.1 h rest.2)
      | inr (problem, h) ↦
          (rest.0, at_line_of path number problem ∷ rest.1, after_refusal path options number line more problem rest.0 rest.1 h rest.2)
    ]

-- what is given of every builder is all that is given
gives_alone : (path : List ℕ) (read : Result Contents Fault) (options : LineOptions) (rules : List Rule) (problem : Option Problem)
    → ((old : Building) → old.options ≡ options → AddsContents path read old (with_rules old rules) problem)
    → Gives path read options rules problem
gives_alone path read options rules problem all old new reported same = (
  λ h. AddsContents-one path read old new (with_rules old rules) reported problem h (all old same),
  λ e. subst (λ (b : Building). AddsContents path read old b reported) (sym e.0)
      (subst (λ (p : Option Problem). AddsContents path read old (with_rules old rules) p) (sym e.1) (all old same)),
)

pub one_result : GivesOneResult
one_result path (Ok contents) options =
    let lines = lines_give path options 1 (lines_read contents.bytes contents.fault) in (
      lines.0,
      joined_problems lines.1,
      gives_alone path (Ok contents) options lines.0 (joined_problems lines.1)
          (λ old same. (lines.1, lines.2 old same, refl)),
    )
one_result path (Err fault) options = (
  [],
  Some (at_path path (io fault)),
  gives_alone path (Err fault) options [] (Some (at_path path (io fault)))
      (λ old same. (sym (no_rules old), refl)),
)
