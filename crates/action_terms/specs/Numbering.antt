-- The nodes of a tree by number: action nodes from 0 in preorder, and yielders from 0 in preorder.
use Rattle.std.specs.Prelude.{All, ◌≡◌, ℕ, suc, ◌+◌, ◌≤◌, List, [], ◌∷◌, ◌++◌, take, drop, Option, Some, None, FitsSigned}
use Rattle.std.specs.Int.{w64}
use Rattle.acg_base.specs.declared.limits.TheConstants.{LIMIT_NODES}
use Rattle.action_terms.specs.Labels.{ActionNode, YielderNode, operand_lengths}
use Rattle.action_terms.specs.Trees.{Tree, tree, Trees, none, more, IsAction}
use Rattle.action_terms.specs.declared.kinds.Kind.{Kind}
use Rattle.action_terms.specs.declared.kinds.Kind.TheVariants as kind
use Rattle.action_terms.specs.declared.kinds.YKind.{YKind}
use Rattle.action_terms.specs.declared.kinds.YKind.TheVariants as ykind

-- an action node: its action parts, the numbers of the yielders of each operand, and the root of its body
pub record ListedNode : Type 0 where
  pub kind : Kind
  pub token : List ℕ
  pub children : List ℕ
  pub operands : List (List ℕ)
  pub body : ℕ

-- a number is an integer of 64 signed bits
abbrev pub KindFits : YKind → Type 0
KindFits (ykind.Number n) = FitsSigned w64 n
KindFits _ = Unit {0}

-- a yielder: its arguments, and the root of a closure's body
pub record ListedYielder : Type 0 where
  pub kind : YKind
  pub token : List ℕ
  pub children : List ℕ
  pub body : ℕ

-- a graph: the lists of its nodes and of its yielders
pub record Listed : Type 0 where
  pub nodes : List ListedNode
  pub yielders : List ListedYielder

-- how many action nodes, and how many yielders, a tree has
abbrev mutual
  pub action_count : Tree → ℕ
  action_count (tree (ActionNode k n t) ts) = suc (action_counts ts)
  action_count (tree (YielderNode k t) ts) = action_counts ts

  pub action_counts : Trees → ℕ
  action_counts none = 0
  action_counts (more t ts) = action_count t + action_counts ts

abbrev mutual
  pub yielder_count : Tree → ℕ
  yielder_count (tree (ActionNode k n t) ts) = yielder_counts ts
  yielder_count (tree (YielderNode k t) ts) = suc (yielder_counts ts)

  pub yielder_counts : Trees → ℕ
  yielder_counts none = 0
  yielder_counts (more t ts) = yielder_count t + yielder_counts ts

-- of trees that stand side by side, the first with the action number a: the numbers of the actions among their roots
abbrev pub action_roots : ℕ → Trees → List ℕ
action_roots a none = []
action_roots a (more (tree (ActionNode k n t) us) ts) = a ∷ action_roots (a + suc (action_counts us)) ts
action_roots a (more (tree (YielderNode k t) us) ts) = action_roots (a + action_counts us) ts

-- the same for the yielders
abbrev pub yielder_roots : ℕ → Trees → List ℕ
yielder_roots y none = []
yielder_roots y (more (tree (ActionNode k n t) us) ts) = yielder_roots (y + yielder_counts us) ts
yielder_roots y (more (tree (YielderNode k t) us) ts) = y ∷ yielder_roots (y + suc (yielder_counts us)) ts

-- a list cut into pieces of these lengths
abbrev pub pieces : List ℕ → List ℕ → List (List ℕ)
pieces [] xs = []
pieces (n ∷ lengths) xs = take n xs ∷ pieces lengths (drop n xs)

-- the body of an `unfolding` is no child of it
abbrev pub children_of : Kind → List ℕ → List ℕ
children_of kind.Unfolding roots = []
children_of _ roots = roots

-- the root of the body of an `unfolding`, whose node has number a, and the body that an `unfold` names: that of the innermost `unfolding` around it, 0 where there is none
abbrev pub body_of : Kind → ℕ → Option ℕ → ℕ
body_of kind.Unfolding a around = suc a
body_of kind.Unfold a (Some c) = c
body_of _ a around = 0

-- the innermost `unfolding` around the parts of a node
abbrev pub around_parts : Kind → ℕ → Option ℕ → Option ℕ
around_parts kind.Unfolding a around = Some (suc a)
around_parts _ a around = around

-- the body of a closure is its only part, and no `unfolding` is around it
abbrev pub closure_body : YKind → ℕ → ℕ
closure_body ykind.Closure a = a
closure_body _ a = 0

abbrev pub around_arguments : YKind → Option ℕ → Option ℕ
around_arguments ykind.Closure around = None
around_arguments _ around = around

-- the action nodes of a tree whose first action node has number a and whose first yielder has number y
abbrev mutual
  pub nodes_of : Option ℕ → (a y : ℕ) → Tree → List ListedNode
  nodes_of around a y (tree (ActionNode k n t) ts) =
      record { kind = k; token = t; children = children_of k (action_roots (suc a) ts); operands = pieces (operand_lengths k n) (yielder_roots y ts); body = body_of k a around }
      ∷ nodes_of_all (around_parts k a around) (suc a) y ts
  nodes_of around a y (tree (YielderNode k t) ts) = nodes_of_all (around_arguments k around) a (suc y) ts

  pub nodes_of_all : Option ℕ → (a y : ℕ) → Trees → List ListedNode
  nodes_of_all around a y none = []
  nodes_of_all around a y (more t ts) = nodes_of around a y t ++ nodes_of_all around (a + action_count t) (y + yielder_count t) ts

-- its yielders
abbrev mutual
  pub yielders_of : (a y : ℕ) → Tree → List ListedYielder
  yielders_of a y (tree (ActionNode k n t) ts) = yielders_of_all (suc a) y ts
  yielders_of a y (tree (YielderNode k t) ts) =
      record { kind = k; token = t; children = yielder_roots (suc y) ts; body = closure_body k a } ∷ yielders_of_all a (suc y) ts

  pub yielders_of_all : (a y : ℕ) → Trees → List ListedYielder
  yielders_of_all a y none = []
  yielders_of_all a y (more t ts) = yielders_of a y t ++ yielders_of_all (a + action_count t) (y + yielder_count t) ts

-- the graph of a tree
abbrev pub listed : Tree → Listed
listed t = record { nodes = nodes_of None 0 0 t; yielders = yielders_of 0 0 t }

-- an `unfold` is stray where no `unfolding` is around it within its own closure body
abbrev pub stray : Kind → ℕ → Option ℕ → List ℕ
stray kind.Unfold a None = a ∷ []
stray _ a around = []

-- the stray `unfold` nodes of a tree, in ascending order
abbrev mutual
  pub strays_of : Option ℕ → ℕ → Tree → List ℕ
  strays_of around a (tree (ActionNode k n t) ts) = stray k a around ++ strays_of_all (around_parts k a around) (suc a) ts
  strays_of around a (tree (YielderNode k t) ts) = strays_of_all (around_arguments k around) a ts

  pub strays_of_all : Option ℕ → ℕ → Trees → List ℕ
  strays_of_all around a none = []
  strays_of_all around a (more t ts) = strays_of around a t ++ strays_of_all around (a + action_count t) ts

abbrev pub strays : Tree → List ℕ
strays t = strays_of None 0 t

-- the most action nodes and yielders of a graph, together
abbrev pub node_limit : ℕ
node_limit = LIMIT_NODES

-- the graph is that of an action within the limit, with no stray `unfold`
pub record IsGraphOf (g : Listed) (t : Tree) : Type 0 where
  pub action : IsAction t
  pub few : action_count t + yielder_count t ≤ node_limit
  pub none_stray : strays t ≡ []
  pub numbered : g ≡ listed t

abbrev pub IsGraph : Listed → Type 0
IsGraph g = (t : Tree) × IsGraphOf g t

-- what a graph in memory is: that of an action, and each number among its yielders is an integer of 64 signed bits
pub record IsKept (g : Listed) : Type 0 where
  pub of_an_action : IsGraph g
  pub numbers : All (λ y. KindFits y.kind) g.yielders
