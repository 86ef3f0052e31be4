-- The nodes of tokens as a whole list, and the nodes that the program's nodes stand for.
use Rattle.std.specs.Prelude.{◌≡◌, ◌+◌, ℕ, zero, suc, Bool, true, false, List, [], ◌∷◌, ◌++◌, map, refl, cond}
use Rattle.std.specs.Coded.{Coded, code_by, coded×, coded_ℕ, coded_bool, coded_list}
use Rattle.std.specs.Arc.{arc_slice_items}
use Rattle.ignore_glob.specs.Glob.{Token, literal, any, star, start, middle, end, class, alternates, Tokens, done, then, Branches}
use Rattle.ignore_glob.specs.Glob.{no_branch, branch}
use Rattle.ignore_glob.specs.DoesMatch.{is_lone_start}
use Rattle.ignore_glob.specs.Nodes.{Node, literal_at, any_at, star_at, start_at, middle_at, end_at, until_slash, until_end, class_at}
use Rattle.ignore_glob.specs.Nodes.{fork_at, token_width, width, entry, fork}
use Rattle.ignore_glob.specs.declared.glob.node.Node.{Node as CodeNode}
use Rattle.ignore_glob.specs.declared.glob.node.Node.TheVariants as Code

-- the nodes of a token, of tokens and of branches that stand at b, before the position e
abbrev mutual
  pub token_nodes : Token → ℕ → ℕ → List Node
  token_nodes (literal c) b e = literal_at c e ∷ []
  token_nodes any b e = any_at e ∷ []
  token_nodes star b e = star_at e ∷ []
  token_nodes start b e = start_at e ∷ until_slash e ∷ []
  token_nodes middle b e = middle_at e ∷ until_slash e ∷ []
  token_nodes end b e = end_at e ∷ until_end e ∷ []
  token_nodes (class negated ranges) b e = class_at negated ranges e ∷ []
  token_nodes (alternates bs) b e = fork_at (fork bs (b + 1) e) ∷ branches_nodes bs (b + 1) e

  pub tokens_nodes : Tokens → ℕ → ℕ → List Node
  tokens_nodes done b e = []
  tokens_nodes (then t ts) b e = token_nodes t b (entry ts (b + token_width t) e) ++ tokens_nodes ts (b + token_width t) e

  pub branches_nodes : Branches → ℕ → ℕ → List Node
  branches_nodes no_branch b e = []
  branches_nodes (branch ts bs) b e = tokens_nodes ts b e ++ branches_nodes bs (b + width ts) e

-- the nodes of a whole glob; the inside of a lone recursive start leads to the end by nothing
abbrev pub glob_nodes : Tokens → List Node
glob_nodes ts = cond (is_lone_start ts) (start_at 2 ∷ until_end 2 ∷ []) (tokens_nodes ts 0 (width ts))

-- the node that a node of the program stands for
abbrev pub node_view : CodeNode → Node
node_view (Code.Literal c next) = literal_at c next
node_view (Code.Any next) = any_at next
node_view (Code.Star next) = star_at next
node_view (Code.Start next) = start_at next
node_view (Code.Middle next) = middle_at next
node_view (Code.End next) = end_at next
node_view (Code.UntilSlash next) = until_slash next
node_view (Code.UntilEnd next) = until_end next
node_view (Code.Class k next) = class_at k.negated (arc_slice_items k.ranges) next
node_view (Code.Fork firsts) = fork_at firsts.items

-- the nodes that nodes of the program stand for
abbrev pub nodes_view : List CodeNode → List Node
nodes_view = map node_view

-- the kind and the parts of a node, by which proofs distinguish two nodes
abbrev pub Parts : Type 0
Parts = ℕ × (ℕ × (ℕ × (Bool × (List (ℕ × ℕ) × List ℕ))))

-- the kind and the parts of a node
abbrev pub parts : Node → Parts
parts (literal_at c next) = (0, (next, (c, (false, ([], [])))))
parts (any_at next) = (1, (next, (0, (false, ([], [])))))
parts (star_at next) = (2, (next, (0, (false, ([], [])))))
parts (start_at next) = (3, (next, (0, (false, ([], [])))))
parts (middle_at next) = (4, (next, (0, (false, ([], [])))))
parts (end_at next) = (5, (next, (0, (false, ([], [])))))
parts (until_slash next) = (6, (next, (0, (false, ([], [])))))
parts (until_end next) = (7, (next, (0, (false, ([], [])))))
parts (class_at negated ranges next) = (8, (next, (0, (negated, (ranges, [])))))
parts (fork_at firsts) = (9, (0, (0, (false, ([], firsts)))))

-- the node of a kind with these parts
abbrev pub of_kind : ℕ → ℕ → ℕ → Bool → List (ℕ × ℕ) → List ℕ → Node
of_kind zero next c negated ranges firsts = literal_at c next
of_kind (suc zero) next c negated ranges firsts = any_at next
of_kind (suc (suc zero)) next c negated ranges firsts = star_at next
of_kind (suc (suc (suc zero))) next c negated ranges firsts = start_at next
of_kind (suc (suc (suc (suc zero)))) next c negated ranges firsts = middle_at next
of_kind (suc (suc (suc (suc (suc zero))))) next c negated ranges firsts = end_at next
of_kind (suc (suc (suc (suc (suc (suc zero)))))) next c negated ranges firsts = until_slash next
of_kind (suc (suc (suc (suc (suc (suc (suc zero))))))) next c negated ranges firsts = until_end next
of_kind (suc (suc (suc (suc (suc (suc (suc (suc zero)))))))) next c negated ranges firsts = class_at negated ranges next
of_kind (suc (suc (suc (suc (suc (suc (suc (suc (suc n))))))))) next c negated ranges firsts = fork_at firsts

-- the node of a kind and parts
abbrev pub from_parts : Parts → Node
from_parts p = of_kind p.0 p.1.0 p.1.1.0 p.1.1.1.0 p.1.1.1.1.0 p.1.1.1.1.1

-- a node comes back from its kind and its parts
pub parts_back : (node : Node) → from_parts (parts node) ≡ node
parts_back (literal_at c next) = refl
parts_back (any_at next) = refl
parts_back (star_at next) = refl
parts_back (start_at next) = refl
parts_back (middle_at next) = refl
parts_back (end_at next) = refl
parts_back (until_slash next) = refl
parts_back (until_end next) = refl
parts_back (class_at negated ranges next) = refl
parts_back (fork_at firsts) = refl

-- the code of a node
abbrev pub node_code : Coded Node
node_code =
    code_by Parts (coded× coded_ℕ (coded× coded_ℕ (coded× coded_ℕ
    (coded× coded_bool (coded× (coded_list (coded× coded_ℕ coded_ℕ)) (coded_list coded_ℕ)))))) parts from_parts parts_back
