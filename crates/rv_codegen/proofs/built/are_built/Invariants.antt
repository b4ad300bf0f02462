use Rattle.std.proofs.Common.{◌≡◌, drop}
use Rattle.action_terms.specs.Forms.{items_at}
use Rattle.rv_codegen.specs.Built.{are_built}
use Rattle.rv_codegen.proofs.built.are_built.Given as goal

-- the items so far have code
abbrev pub invariant-loop-item : goal.invariant-loop-item
invariant-loop-item l = are_built (items_at l.graph.yielders (drop l.item-index l.items)) ≡ are_built (items_at l.graph.yielders l.items)
