use Rattle.std.proofs.Common.{All, ◌++◌, ◌≡◌}
use Rattle.action_terms.specs.Forms.{IsDatum, yielder_at}
use Rattle.sort_rules.specs.Measures.{named_in}
use Rattle.sort_rules.proofs.Listing.{left_count}
use Rattle.binding_capture.specs.Asked.{tokens_of}
use Rattle.binding_capture.proofs.Listing.{named_stack}
use Rattle.binding_capture.proofs.named.push_named_in.Given as goal

-- the tokens so far, and those of what is left
abbrev pub invariant-loop-next : goal.invariant-loop-next
invariant-loop-next l = record {
  named : tokens_of l.tokens.items ++ named_stack l.graph.yielders l.left.items ≡ tokens_of l.initial.tokens.items ++ named_in (yielder_at l.graph.yielders l.number);
  data_left : All (IsDatum l.graph.yielders) l.left.items;
}

abbrev pub decreases-loop-next : goal.decreases-loop-next
decreases-loop-next l = left_count l.graph.yielders l.left.items
