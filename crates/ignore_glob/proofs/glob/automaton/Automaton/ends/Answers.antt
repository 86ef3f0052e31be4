use Rattle.std.proofs.Common.{◌≡◌, ℕ, Bool, List, length, subst, sym, ap, ◌∙◌, arith}
use Rattle.std.proofs.lemmas.List.{length-map}
use Rattle.ignore_glob.specs.NodeLists.{node_view, nodes_view, glob_nodes}
use Rattle.ignore_glob.specs.Reading.{Reading}
use Rattle.ignore_glob.specs.declared.glob.node.Node.{Node as CodeNode}
use Rattle.ignore_glob.specs.Flags.{IsFlagged}
use Rattle.ignore_glob.specs.Glob.{Tokens}
use Rattle.std.proofs.lemmas.Bool.Decides.{same_from_decides}
use Rattle.ignore_glob.proofs.DoesMatchLemmas.{matching_decided}
use Rattle.ignore_glob.proofs.SetSteps.{ends_where, set-length}
use Rattle.ignore_glob.proofs.glob.automaton.Automaton.ends.Goals as goal

end_is : (nodes : List CodeNode) (r : Reading) (ts : Tokens) (fold : Bool) → nodes_view nodes ≡ glob_nodes ts
    → record { tokens = ts; case_insensitive = fold } ≡ r → length nodes ≡ length (glob_nodes r.tokens)
end_is nodes r ts fold compiled is =
    sym (length-map nodes node_view) ∙ (ap length compiled ∙ ap (λ (s : Reading). length (glob_nodes s.tokens)) is)

pub returns-then-end-len : goal.returns-then-end-len
returns-then-end-len c = λ text after.
    let end = end_is c.self.inside.nodes.items _ _ _ c.self.inside.compiled c.self.view_is in
    let there = ends_where c.args.self.now text c.args.set.now.all.items after in
    let P : ℕ → Type 0 = λ n. IsFlagged c.args.set.now.all.items n in
    let same : c.len-end.result ≡ length (glob_nodes c.args.self.now.tokens) = omega (arith, end, c.len-end.ensures) in
    same_from_decides _ _ (
      (λ t. there.0 (subst P same (c.has.ensures.0 t))),
      (λ m. c.has.ensures.1 (subst P (sym same) (there.1 m))),
    )
    (matching_decided c.args.self.now text)

pub returns-else-end-len : goal.returns-else-end-len
returns-else-end-len c = λ text after.
    let end = end_is c.self.inside.nodes.items _ _ _ c.self.inside.compiled c.self.view_is in
    let many = set-length c.args.self.now text c.args.set.now.all.items after in
    absurd (omega (arith, end, many, c.len-end.ensures, c.len.ensures, c.if-end-len.false))
