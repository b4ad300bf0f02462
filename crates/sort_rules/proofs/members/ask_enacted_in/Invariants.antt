use Rattle.std.proofs.Common.{take}
use Rattle.sort_rules.specs.Asked.{any_closure}
use Rattle.sort_rules.specs.DemandViews.{demands_of}
use Rattle.sort_rules.specs.Demands.{enacts}
use Rattle.sort_rules.specs.MarkedRows.{marked_table}
use Rattle.sort_rules.specs.Reached.{Adds}
use Rattle.sort_rules.specs.Views.{marked_tuple_of}
use Rattle.sort_rules.proofs.members.ask_enacted_in.Given as goal

-- the first bodies are asked
abbrev pub invariant-loop-i : goal.invariant-loop-i
invariant-loop-i l =
    Adds (demands_of l.initial.out.items) (enacts (marked_table l.site.rows.now) l.site.node (any_closure l.site.bodies.now) (marked_tuple_of l.given) (take l.i l.nodes)) (demands_of l.out.items)
