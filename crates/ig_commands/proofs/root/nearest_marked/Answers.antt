use Rattle.std.proofs.Common.{◌≡◌, ◌∙◌, ◌<◌, true, false, List, ℕ, None, Some, length, rules, sym, subst}
use Rattle.ig_commands.specs.Root.{Nearest}
use Rattle.ig_commands.specs.Root.Nearest.{none, here, above}
use Rattle.ig_commands.proofs.RootLemmas.{empty, not_empty, parent_shorter, some_left}
use Rattle.ig_commands.proofs.root.nearest_marked.Goals as goal

-- the folder has a mark
pub returns-then-branch-clause-nearest : goal.returns-then-branch-clause-nearest
returns-then-branch-clause-nearest g c = λ tree honest.
    let rest = c.loop-rest.rest.now in
    let left : c.is_empty.result ≡ false = search rules in
    c.loop-rest.invariant.nearest tree honest (Some rest)
    (here (not_empty rest c.is_empty.result c.is_empty.ensures left)
    (sym (c.in_ok-is_marked.ensures.value tree honest) ∙ c.if-branch.true))

-- it has none, and its folder is next
pub loop-rest-preserved : goal.loop-rest-preserved
loop-rest-preserved g c =
    let rest = c.loop-rest.rest.now in
    let left : c.is_empty.result ≡ false = search rules in
    record {
      text = search rules;
      nearest = λ tree honest found h.
          c.loop-rest.invariant.nearest tree honest found
          (above (not_empty rest c.is_empty.result c.is_empty.ensures left)
          (sym (c.in_ok-is_marked.ensures.value tree honest) ∙ c.if-branch.false)
          (subst (λ (d : List ℕ). Nearest tree d found) c.parent_of-rest.ensures h));
    }

pub loop-rest-smaller : goal.loop-rest-smaller
loop-rest-smaller g c =
    let rest = c.loop-rest.rest.now in
    let left : c.is_empty.result ≡ false = search rules in
    subst (λ (d : List ℕ). length d < length rest) (sym c.parent_of-rest.ensures)
    (parent_shorter rest (some_left rest c.is_empty.result c.is_empty.ensures left))

-- none is left
pub returns-clause-nearest : goal.returns-clause-nearest
returns-clause-nearest g c = λ tree honest.
    let rest = c.loop-rest.rest.now in
    let done : c.is_empty.result ≡ true = search rules in
    c.loop-rest.invariant.nearest tree honest None
    (subst (λ (d : List ℕ). Nearest tree d None) (sym (empty rest c.is_empty.result c.is_empty.ensures done)) none)
