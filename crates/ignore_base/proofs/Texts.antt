-- The problem and the text of the two variants that hold several values of one kind.
use Rattle.std.proofs.Common.{◌≡◌, List, [], ◌∷◌, ◌++◌, ℕ, map, codes, string_bytes, refl, ap, sym, ◌∙◌, length, ◌≤◌, None, arith}
use Rattle.std.specs.List.{join_with_byte}
use Rattle.std.specs.declared.vec.Vec.{Vec}
use Rattle.std.specs.declared.string.String.{String}
use Rattle.std.specs.declared.alloc.Global.{Global}
use Rattle.ignore_base.specs.Errors.{problem_text, problem_texts, only_fault}
use Rattle.ignore_base.specs.Problem.{Problem, problem_of, problem_step, several, loop, problems_of}
use Rattle.ignore_base.specs.declared.error.Error.{Error, Loop}
use Rattle.ignore_base.specs.declared.error.Error.TheViews.{Partial}
use Rattle.ignore_base.specs.declared.error.Error.TheVariants.{rolls-Partial, rolls-Loop}
use Rattle.ignore_base.specs.declared.error.Error.TheOpen as open_error
use Rattle.ignore_base.specs.declared.error.Error.TheFolds.{fold-roll-Error}

-- the text of an error
abbrev pub text_of : Error → List ℕ
text_of e = problem_text (problem_of e)

pub problem_of-Partial : (errors : Vec Error Global) → problem_of (Partial errors) ≡ several (problems_of (map problem_of errors.items))
problem_of-Partial errors = ap problem_of (sym (rolls-Partial errors)) ∙ fold-roll-Error Problem problem_step (open_error.Partial errors)

pub problem_of-Loop : (ancestor child : String Global)
    → problem_of (Loop ancestor child) ≡ loop (string_bytes ancestor) (string_bytes child)
problem_of-Loop ancestor child =
    ap problem_of (sym (rolls-Loop ancestor child)) ∙ fold-roll-Error Problem problem_step (open_error.Loop ancestor child)

-- the texts of the members are those of the errors
texts : (errors : List Error) → problem_texts (problems_of (map problem_of errors)) ≡ map text_of errors
texts [] = refl
texts (e ∷ es) = ap (λ l. text_of e ∷ l) (texts es)

pub text_of-Partial : (errors : Vec Error Global) → text_of (Partial errors) ≡ join_with_byte 10 (map text_of errors.items)
text_of-Partial errors = ap problem_text (problem_of-Partial errors) ∙ ap (join_with_byte 10) (texts errors.items)

pub text_of-Loop : (ancestor child : String Global)
    → text_of (Loop ancestor child) ≡ codes "File system loop found: "
    ++ (string_bytes child ++ (codes " points to an ancestor " ++ string_bytes ancestor))
text_of-Loop ancestor child = ap problem_text (problem_of-Loop ancestor child)

-- two members or more have no one fault
pub only_fault-two : (errors : List Error) → 2 ≤ length errors → only_fault (problems_of (map problem_of errors)) ≡ None
only_fault-two [] h = absurd (omega (arith, h))
only_fault-two (e ∷ []) h = absurd (omega (arith, h))
only_fault-two (e ∷ (f ∷ es)) h = refl
