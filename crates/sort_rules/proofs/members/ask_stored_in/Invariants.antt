use Rattle.std.proofs.Common.{take}
use Rattle.sort_rules.specs.Asked.{any_cell}
use Rattle.sort_rules.specs.DemandViews.{demands_of}
use Rattle.sort_rules.specs.Demands.{stores}
use Rattle.sort_rules.specs.Reached.{Adds}
use Rattle.sort_rules.specs.Views.{value_part}
use Rattle.sort_rules.proofs.members.ask_stored_in.Given as goal

-- the first cells hold it
abbrev pub invariant-loop-i : goal.invariant-loop-i
invariant-loop-i l = Adds (demands_of l.initial.out.items) (stores (value_part l.stored) (any_cell l.cells) (take l.i l.nodes)) (demands_of l.out.items)
