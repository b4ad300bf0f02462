-- What contracts see of the pushed nodes, and what their builder may answer.
use Rattle.std.specs.Prelude.{◌≡◌, ◌≤◌, ℕ, Bool, true, false, List, [], ◌∷◌, ◌++◌, length, count_by}
use Rattle.action_terms.specs.Labels.{Label, ActionNode, YielderNode, AnAction}
use Rattle.action_terms.specs.Places.{fills, expects}
use Rattle.action_terms.specs.Numbering.{node_limit}
use Rattle.action_terms.specs.declared.places.Expected.{Expected}
use Rattle.action_terms.specs.declared.pushed.Pushed.{Pushed}
use Rattle.action_terms.specs.declared.pushed.Pushed.TheVariants.{Action, Yielder}

-- the label of a pushed node
abbrev pub label_of : Pushed → Label
label_of (Action n) = ActionNode n.kind n.items n.token.now
label_of (Yielder n) = YielderNode n.kind n.token.now

-- how many of the labels are action nodes, and how many are yielders
abbrev pub is_action_node : Label → Bool
is_action_node (ActionNode k items t) = true
is_action_node (YielderNode k t) = false

abbrev pub is_yielder_node : Label → Bool
is_yielder_node (ActionNode k items t) = false
is_yielder_node (YielderNode k t) = true

-- what a builder keeps of the nodes pushed so far: their numbers, and whether what follows makes them one action
pub record Keeps (labels : List Label) (expected : Expected) (actions yielders : ℕ) : Type 0 where
  pub actions_are : actions ≡ count_by is_action_node labels
  pub yielders_are : yielders ≡ count_by is_yielder_node labels
  pub few : length labels ≤ node_limit
  pub expects_rest : (more : List Label) → fills (AnAction ∷ []) (labels ++ more) ≡ expects expected more
