-- What a node in memory that runs does.
use Rattle.std.specs.Prelude.{◌≡◌, ℕ, List, Option}
use Rattle.action_terms.specs.Information.{Datum, Data, World}
use Rattle.action_terms.specs.Actions.{Yielder, Item, Primitive, Node}
use Rattle.action_terms.specs.Steps.{Step, performed, run_steps}
use Rattle.action_terms.specs.Yielding.{yields, items_yield}
use Rattle.action_terms.specs.declared.view.NodeView.{NodeView}
use Rattle.action_terms.specs.declared.view.NodeView.TheVariants as node
use Rattle.action_values.specs.declared.context.Context.{Context}
use Rattle.action_sos.specs.Moves.{given_of, bound_of, effect_of, next_tree, IsOutside, IsStepAt}
use Rattle.action_sos.specs.declared.moves.Move.{Move}
use Rattle.action_sos.specs.declared.running.Running.{Running}

-- the yielders of the node are evaluated with this
pub record IsContext (r : Running) (c : Context) : Type 0 where
  pub graph : c.graph.now ≡ r.graph.now
  pub given : c.given.now ≡ r.received.given.now
  pub bound : c.bound.now ≡ r.received.bound.now
  pub cells : c.cells.now ≡ r.outside.cells.now

-- the yielder yields this datum, or nothing
pub record IsYielded (r : Running) (y : Yielder) (x : Option Datum) : Type 0 where
  pub given : (w : World) → IsOutside r.outside w → x ≡ yields y (given_of r.received) (bound_of r.received) w.cells

-- the items yield these data, or nothing
pub record AreYielded (r : Running) (is : List Item) (d : Option Data) : Type 0 where
  pub given : (w : World) → IsOutside r.outside w → d ≡ items_yield is (given_of r.received) (bound_of r.received) w.cells

-- a move does what a step does
pub record Does (m : Move) (n : Step) : Type 0 where
  pub effect : n.effect ≡ effect_of m.change
  pub tree : n.tree ≡ next_tree m.next

-- the move is the step of the primitive
pub record IsPerformed (r : Running) (p : Primitive) (m : Move) : Type 0 where
  pub does : (w : World) → IsOutside r.outside w → Does m (performed p (given_of r.received) (bound_of r.received) w)

-- the move is the step of this index, where the node that runs is n
pub record IsMove (r : Running) (n : Node) (j : ℕ) (m : Move) : Type 0 where
  pub at : (w : World) → IsOutside r.outside w →
      IsStepAt (run_steps n r.number (given_of r.received) (bound_of r.received) w) j (effect_of m.change) (next_tree m.next)

-- how many steps of a node stand open: two of `or`, one of all others
abbrev pub step_count : NodeView → ℕ
step_count (node.Either l r) = 2
step_count _ = 1
