-- How many nodes and how many yielders a graph has.
use Rattle.std.proofs.Common.{◌≡◌, ℕ, suc, ◌+◌, ◌<◌, length, refl, ap, length-append, arith}
use Rattle.std.specs.Prelude.{Option}
use Rattle.action_terms.specs.Labels.{ActionNode, YielderNode}
use Rattle.action_terms.specs.Trees.{Tree, tree, Trees, none, more, IsAction}
use Rattle.action_terms.specs.Numbering.{action_count, action_counts, yielder_count, yielder_counts, around_parts, around_arguments, nodes_of, nodes_of_all, yielders_of, yielders_of_all}

mutual
  pub length-nodes_of : (c : Option ℕ) (a y : ℕ) (t : Tree) → length (nodes_of c a y t) ≡ action_count t
  length-nodes_of c a y (tree (ActionNode k n tk) ts) = ap suc (length-nodes_of_all (around_parts k a c) (suc a) y ts)
  length-nodes_of c a y (tree (YielderNode k tk) ts) = length-nodes_of_all (around_arguments k c) a (suc y) ts

  pub length-nodes_of_all : (c : Option ℕ) (a y : ℕ) (ts : Trees) → length (nodes_of_all c a y ts) ≡ action_counts ts
  length-nodes_of_all c a y none = refl
  length-nodes_of_all c a y (more t ts) =
      let first = length-nodes_of c a y t in
      let rest = length-nodes_of_all c (a + action_count t) (y + yielder_count t) ts in
      omega (arith, length-append (nodes_of c a y t) (nodes_of_all c (a + action_count t) (y + yielder_count t) ts))

mutual
  pub length-yielders_of : (a y : ℕ) (t : Tree) → length (yielders_of a y t) ≡ yielder_count t
  length-yielders_of a y (tree (ActionNode k n tk) ts) = length-yielders_of_all (suc a) y ts
  length-yielders_of a y (tree (YielderNode k tk) ts) = ap suc (length-yielders_of_all a (suc y) ts)

  pub length-yielders_of_all : (a y : ℕ) (ts : Trees) → length (yielders_of_all a y ts) ≡ yielder_counts ts
  length-yielders_of_all a y none = refl
  length-yielders_of_all a y (more t ts) =
      let first = length-yielders_of a y t in
      let rest = length-yielders_of_all (a + action_count t) (y + yielder_count t) ts in
      omega (arith, length-append (yielders_of a y t) (yielders_of_all (a + action_count t) (y + yielder_count t) ts))

-- an action has a node
pub action_count-some : (t : Tree) → IsAction t → 0 < action_count t
action_count-some (tree (ActionNode k n tk) ts) h = omega arith
action_count-some (tree (YielderNode k tk) ts) h = let e = h.0 in cc
