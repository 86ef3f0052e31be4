-- Lines of a file added to a builder, a line at a time.
use Rattle.std.proofs.Common.{◌≡◌, ◌⊎◌, ℕ, ◌+◌, false, List, [], ◌∷◌, ◌++◌, Result, Ok, Err, sym, ap, subst, ◌∙◌}
use Rattle.std.proofs.Common.{append_assoc, inl, inr}
use Rattle.std.proofs.lemmas.Bool.{false≢true}
use Rattle.std.proofs.lemmas.List.{append-nil}
use Rattle.ignore_base.specs.declared.fault.Fault.{Fault}
use Rattle.ignore_base.specs.Problem.{Problem, io, memory}
use Rattle.ignore_rules.specs.Rules.{Building}
use Rattle.ignore_rules.specs.RuleFile.{AddsLines, done, stopped, added, refused, at_line_of, is_memory}
use Rattle.ignore_rules.specs.RuleSteps.{AddsOrReports, Keeps}

-- what is yet to be read, from the line with a number on, leads from a builder with the lines
-- before to the whole
abbrev pub LeadsTo : List ℕ → List (Result (List ℕ) Fault) → Building → ℕ → List (Result (List ℕ) Fault) → Building → List Problem → Type 0
LeadsTo path whole start number rest old problems =
    (new : Building) (more : List Problem) → AddsLines path number rest old new more → AddsLines path 1 whole start new (problems ++ more)

pub one_more : (path : List ℕ) (whole : List (Result (List ℕ) Fault)) (start : Building) (number : ℕ) (line : List ℕ)
    (here rest : List (Result (List ℕ) Fault)) (old between : Building) (before after : List Problem)
    → LeadsTo path whole start number here old before → here ≡ Ok line ∷ rest → AddsOrReports path number line old between before after
    → LeadsTo path whole start (number + 1) rest between after
one_more path whole start number line here rest old between before after leads e (inl (adds, same)) new more h =
    subst (λ reported. AddsLines path 1 whole start new (reported ++ more)) (sym same)
    (leads new more (subst (λ l. AddsLines path number l old new more) (sym e) (added number line rest old between new more adds h)))
one_more path whole start number line here rest old between before after leads e (inr (problem, refuses, kept, same)) new more h =
    let adds : AddsLines path number (Ok line ∷ rest) old new (at_line_of path number problem ∷ more) =
    refused number line rest old new problem more refuses (subst (λ b. AddsLines path (number + 1) rest b new more) kept h) in
    let joined : before ++ at_line_of path number problem ∷ more ≡ after ++ more =
    sym (append_assoc before (at_line_of path number problem ∷ []) more) ∙ ap (λ reported. reported ++ more) (sym same) in
    subst (λ reported. AddsLines path 1 whole start new reported) joined
    (leads new (at_line_of path number problem ∷ more)
    (subst (λ l. AddsLines path number l old new (at_line_of path number problem ∷ more)) (sym e) adds))

pub stopped_here : (path : List ℕ) (whole : List (Result (List ℕ) Fault)) (start : Building) (number : ℕ) (fault : Fault)
    (here rest : List (Result (List ℕ) Fault)) (old : Building) (before : List Problem)
    → LeadsTo path whole start number here old before → here ≡ Err fault ∷ rest
    → AddsLines path 1 whole start old (before ++ at_line_of path number (io fault) ∷ [])
stopped_here path whole start number fault here rest old before leads e =
    leads old (at_line_of path number (io fault) ∷ [])
    (subst (λ l. AddsLines path number l old old (at_line_of path number (io fault) ∷ [])) (sym e) (stopped number fault rest old))

pub done_here : (path : List ℕ) (whole : List (Result (List ℕ) Fault)) (start : Building) (number : ℕ) (here : List (Result (List ℕ) Fault))
    (old : Building) (before : List Problem)
    → LeadsTo path whole start number here old before → here ≡ [] → AddsLines path 1 whole start old before
done_here path whole start number here old before leads e =
    subst (λ reported. AddsLines path 1 whole start old reported) (append-nil before)
    (leads old [] (subst (λ l. AddsLines path number l old old []) (sym e) (done number old)))

-- A builder to which at most rules were added.

pub keeps_then : (old between new : Building) → Keeps old between → Keeps between new → Keeps old new
keeps_then old between new (first, e) (second, f) = (
  first ++ second,
  f ∙ (ap (λ (b : Building). let made : Building = record { root = b.root; rules = b.rules ++ second; options = b.options } in made) e
      ∙ ap (λ rules. let made : Building = record { root = old.root; rules = rules; options = old.options } in made)
      (append_assoc old.rules first second)),
)

-- an error other than out of memory reports the invalid glob of its line
pub not_memory : {Refused : Type 0} → (p : Problem) → is_memory p ≡ false → (p ≡ memory) ⊎ Refused → Refused
not_memory p h (inl e) = absurd (false≢true (sym h ∙ ap is_memory e))
not_memory p h (inr r) = r
