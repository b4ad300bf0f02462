use Rattle.std.proofs.Common.{drop, ◌++◌, ◌≡◌}
use Rattle.action_terms.specs.Forms.{items_at}
use Rattle.sort_rules.specs.Measures.{named_in_items}
use Rattle.binding_capture.specs.Asked.{tokens_of}
use Rattle.binding_capture.proofs.named.push_named_in_data.Given as goal

-- the tokens so far, and those of the items that are left
abbrev pub invariant-loop-i : goal.invariant-loop-i
invariant-loop-i l = tokens_of l.tokens.items ++ named_in_items (items_at l.graph.yielders (drop l.i l.numbers))
    ≡ tokens_of l.initial.tokens.items ++ named_in_items (items_at l.graph.yielders l.numbers)
