-- The graph of pushed nodes without their tree: a walk from the first node to the last gives numbers and bodies, and a walk from the last to the first gives children and operands.
use Rattle.std.specs.Prelude.{◌≡◌, ℕ, suc, List, [], ◌∷◌, ◌++◌, length, map, take, drop, sum, replicate, Option, None, All}
use Rattle.action_terms.specs.Labels.{Label, ActionNode, YielderNode, operand_lengths, under_action, under_yielder, under}
use Rattle.action_terms.specs.Numbering.{ListedNode, ListedYielder, pieces, children_of, body_of, around_parts, closure_body, around_arguments, stray, KindFits}
use Rattle.action_terms.specs.Nodes.{listed_node, listed_yielder}
use Rattle.action_terms.specs.Places.{actions_wanted, yielders_wanted}
use Rattle.action_terms.specs.Pushed.{label_of}
use Rattle.action_terms.specs.declared.bodies.Entered.{Entered}
use Rattle.action_terms.specs.declared.linking.Linker.{Linker}
use Rattle.action_terms.specs.declared.pushed.Pushed.{Pushed}
use Rattle.action_terms.specs.declared.kinds.Kind.{Kind}
use Rattle.action_terms.specs.declared.kinds.YKind.{YKind}

-- a pushed node, its number among its own sort of node, and its body
pub record Entry : Type 0 where
  pub label : Label
  pub number : ℕ
  pub body : ℕ

abbrev pub entry_of : Entered → Entry
entry_of e = record { label = label_of e.node; number = e.number; body = e.body }

-- how many actions stand under an action node, and under a yielder
abbrev pub part_count : Kind → ℕ
part_count k = actions_wanted (under_action k 0)

abbrev pub closure_count : YKind → ℕ
closure_count k = actions_wanted (under_yielder k)

-- how many yielders stand under a yielder
abbrev pub argument_count : YKind → ℕ
argument_count k = yielders_wanted (under_yielder k)

-- how many actions, and how many yielders, stand under a node
abbrev pub action_places : Label → ℕ
action_places (ActionNode k n t) = part_count k
action_places (YielderNode k t) = closure_count k

abbrev pub yielder_places : Label → ℕ
yielder_places (ActionNode k n t) = sum (operand_lengths k n)
yielder_places (YielderNode k t) = argument_count k

-- forward: a is the number of the next action node, y that of the next yielder, and the list has the innermost `unfolding` around each tree that follows
abbrev pub innermost : List (Option ℕ) → Option ℕ
innermost [] = None
innermost (c ∷ around) = c

abbrev pub number_at : Label → (a y : ℕ) → ℕ
number_at (ActionNode k n t) a y = a
number_at (YielderNode k t) a y = y

abbrev pub body_at : Label → ℕ → Option ℕ → ℕ
body_at (ActionNode k n t) a c = body_of k a c
body_at (YielderNode k t) a c = closure_body k a

abbrev pub around_under : Label → ℕ → Option ℕ → Option ℕ
around_under (ActionNode k n t) a c = around_parts k a c
around_under (YielderNode k t) a c = around_arguments k c

abbrev pub strays_at : Label → ℕ → Option ℕ → List ℕ
strays_at (ActionNode k n t) a c = stray k a c
strays_at (YielderNode k t) a c = []

abbrev pub next_action : Label → ℕ → ℕ
next_action (ActionNode k n t) a = suc a
next_action (YielderNode k t) a = a

abbrev pub next_yielder : Label → ℕ → ℕ
next_yielder (ActionNode k n t) y = y
next_yielder (YielderNode k t) y = suc y

abbrev pub around_next : Label → ℕ → List (Option ℕ) → List (Option ℕ)
around_next l a around = replicate (length (under l)) (around_under l a (innermost around)) ++ drop 1 around

-- the entry of a label that comes next
abbrev pub next_entry : Label → (a y : ℕ) → List (Option ℕ) → Entry
next_entry l a y around = record { label = l; number = number_at l a y; body = body_at l a (innermost around) }

abbrev pub entries : List (Option ℕ) → (a y : ℕ) → List Label → List Entry
entries around a y [] = []
entries around a y (l ∷ labels) =
    next_entry l a y around
    ∷ entries (around_next l a around) (next_action l a) (next_yielder l y) labels

abbrev pub strays_in : List (Option ℕ) → ℕ → List Label → List ℕ
strays_in around a [] = []
strays_in around a (l ∷ labels) = strays_at l a (innermost around) ++ strays_in (around_next l a around) (next_action l a) labels

-- backward: the roots of the trees that the entries spell, and their nodes
abbrev pub own_action : Label → ℕ → List ℕ
own_action (ActionNode k n t) number = number ∷ []
own_action (YielderNode k t) number = []

abbrev pub own_yielder : Label → ℕ → List ℕ
own_yielder (ActionNode k n t) number = []
own_yielder (YielderNode k t) number = number ∷ []

abbrev pub action_roots_in : List Entry → List ℕ
action_roots_in [] = []
action_roots_in (e ∷ es) = own_action e.label e.number ++ drop (action_places e.label) (action_roots_in es)

abbrev pub yielder_roots_in : List Entry → List ℕ
yielder_roots_in [] = []
yielder_roots_in (e ∷ es) = own_yielder e.label e.number ++ drop (yielder_places e.label) (yielder_roots_in es)

-- the node of a label, from its body and the roots behind it
abbrev pub node_from : Label → ℕ → (action_roots yielder_roots : List ℕ) → List ListedNode
node_from (ActionNode k n t) body actions ys = record { kind = k; token = t; children = children_of k (take (part_count k) actions); operands = pieces (operand_lengths k n) ys; body = body } ∷ []
node_from (YielderNode k t) body actions ys = []

abbrev pub yielder_from : Label → ℕ → (yielder_roots : List ℕ) → List ListedYielder
yielder_from (ActionNode k n t) body ys = []
yielder_from (YielderNode k t) body ys = record { kind = k; token = t; children = take (argument_count k) ys; body = body } ∷ []

abbrev pub nodes_in : List Entry → List ListedNode
nodes_in [] = []
nodes_in (e ∷ es) = node_from e.label e.body (action_roots_in es) (yielder_roots_in es) ++ nodes_in es

abbrev pub yielders_in : List Entry → List ListedYielder
yielders_in [] = []
yielders_in (e ∷ es) = yielder_from e.label e.body (yielder_roots_in es) ++ yielders_in es

-- what is linked so far is what the entries give, and each number among it is an integer of 64 signed bits
pub record Links (es : List Entry) (linker : Linker) : Type 0 where
  pub nodes : map listed_node linker.nodes.items ≡ nodes_in es
  pub yielders : map listed_yielder linker.yielders.items ≡ yielders_in es
  pub action_roots : linker.action_roots.items ≡ action_roots_in es
  pub yielder_roots : linker.yielder_roots.items ≡ yielder_roots_in es
  pub numbers : All (λ y. KindFits y.kind) (map listed_yielder linker.yielders.items)

-- a node with its number and its body is linked before others
abbrev pub LinksNode : Pushed → (number body : ℕ) → (old new : Linker) → Type 0
LinksNode node number body old new =
    (es : List Entry) → Links es old → Links (record { label = label_of node; number = number; body = body } ∷ es) new
