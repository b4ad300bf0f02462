-- The laws of admissible tables.
use Rattle.std.proofs.Common.{List, refl, ℕ}
use Rattle.action_terms.specs.Actions.{Action, node_at}
use Rattle.sort_rules.specs.Admissible.{IsAdmissible}
use Rattle.sort_rules.specs.Soundness.{EndsInShape, NodesRunInSort, UnionsComplete}
use Rattle.sort_rules.specs.Tables.{MarkedTable}
use Rattle.sort_rules.proofs.OperandsYield.{yielders_block}
use Rattle.sort_rules.proofs.Shapes.{completes_in_shape, enters_in_shape, escapes_in_shape, united_completes}
use Rattle.sort_rules.proofs.SoundStates.{stands}
use Rattle.sort_rules.proofs.SuitedYielders.{node_suited}

pub nodes_run : (a : Action) (t : MarkedTable) → IsAdmissible a t → NodesRunInSort a t
nodes_run a t h = λ w cells k d b cf en. record {
  shape = enters_in_shape en (h.clear k);
  suited = node_suited (stands a t h) cf en (node_at a k) refl;
  yields = λ y m none. yielders_block (stands a t h) en cf y m none;
}

pub ends_in_shape : (a : Action) (t : MarkedTable) → IsAdmissible a t → (w : List ℕ) (k : ℕ) → EndsInShape a t w k
ends_in_shape a t h w k = record {
  completes = λ d b f. completes_in_shape f (h.clear k);
  escapes = λ d f. escapes_in_shape f (h.clear k);
}

pub unions_complete : (a : Action) (t : MarkedTable) → UnionsComplete a t
unions_complete a t = λ w b b2 x y f g e. united_completes f g e
