use Rattle.std.proofs.Common.{refl, List, map, subst, sym}
use Rattle.ignore_walk.proofs.SharedLemmas.{come-first}
use Rattle.ignore_base.specs.Problem.{problem_of}
use Rattle.ignore_base.specs.declared.error.Error.{Error}
use Rattle.ignore_dir.specs.Soft.{AllSoft}
use Rattle.ignore_walk.proofs.above.Way.new.Goals as goal

pub returns-clause-begins : goal.returns-clause-begins
returns-clause-begins c = λ g slots kept seen are.
    come-first g slots kept seen _ are c.in_ok-from_str.ensures.ok c.in_ok-from_str-2.ensures.ok refl c.new.ensures.items c.new-2.ensures.items

pub returns-clause-soft : goal.returns-clause-soft
returns-clause-soft c = subst (λ (l : List Error). AllSoft (map problem_of l)) (sym c.new-2.ensures.items) tt
