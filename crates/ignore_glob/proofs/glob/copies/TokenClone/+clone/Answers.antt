use Rattle.std.proofs.Common.{◌≡◌, List, [], ◌∷◌, map, Vec, Global, refl, ap, sym, ◌∙◌}
use Rattle.std.proofs.lemmas.List.{take_all}
use Rattle.ignore_glob.specs.Glob.{Tokens, Branches, no_branch, branch, alternates}
use Rattle.ignore_glob.specs.View.{tokens_view, branches_view}
use Rattle.ignore_glob.specs.declared.glob.token.Token.{Token as CodeToken}
use Rattle.ignore_glob.proofs.Views.{view-Alternates}
use Rattle.ignore_glob.proofs.glob.copies.TokenClone.+clone.Goals as goal

abbrev branch_views : List (Vec CodeToken Global) → List Tokens
branch_views bs = map (λ b. tokens_view b.items) bs

abbrev joined : List Tokens → Branches
joined [] = no_branch
joined (ts ∷ more) = branch ts (joined more)

branches_view-joined : (bs : List (Vec CodeToken Global)) → branches_view bs ≡ joined (branch_views bs)
branches_view-joined [] = refl
branches_view-joined (b ∷ bs) = ap (branch (tokens_view b.items)) (branches_view-joined bs)

-- branches with the same views are the same to a contract
same_branches : (bs cs : List (Vec CodeToken Global)) → branch_views bs ≡ branch_views cs → branches_view bs ≡ branches_view cs
same_branches bs cs e = branches_view-joined bs ∙ ap joined e ∙ sym (branches_view-joined cs)

pub returns-after-loop-branch : goal.returns-after-loop-branch
returns-after-loop-branch t c =
    let all = take_all _ _ c.loop-branch-test.false ∙ c.deref-branch-items.ensures.value in
    record {
      cases = rw c.in-Alternates.is (
          view-Alternates c.loop-branch.copies
          ∙ ap alternates (same_branches _ _ (c.loop-branch.invariant ∙ ap branch_views all))
          ∙ sym (view-Alternates c.in-Alternates.branches)
          );
    }
