use Rattle.std.proofs.Common.{◌≤◌, ◌+◌, ◌-◌, ◌*◌, length, map, reverse}
use Rattle.action_text.specs.Tables.{numbered}
use Rattle.action_text.specs.Texts.{texts}
use Rattle.action_text.specs.Views.{noting_of}
use Rattle.action_text.proofs.ReadingMoves.{State}
use Rattle.action_text.proofs.Weights.{weigh, weights}
use Rattle.action_text.proofs.reading.read_labels.Given as goal

abbrev pub invariant-loop-top : goal.invariant-loop-top
invariant-loop-top l = record {
  within : l.at ≤ length (texts l.tokens);
  state : State l.parameters (texts l.tokens) l.at (reverse (map numbered l.stack.items)) (noting_of l.notes.items l.labels.items);
}

abbrev pub decreases-loop-top : goal.decreases-loop-top
decreases-loop-top l = (length (texts l.tokens) - l.at) * 100 + weigh weights (reverse (map numbered l.stack.items))
