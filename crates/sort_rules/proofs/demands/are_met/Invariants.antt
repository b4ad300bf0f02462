use Rattle.std.proofs.Common.{◌≡◌, drop}
use Rattle.sort_rules.specs.DemandViews.{demands_of}
use Rattle.sort_rules.specs.MarkedRows.{marked_table}
use Rattle.sort_rules.specs.Tests.{are_met}
use Rattle.sort_rules.proofs.demands.are_met.Given as goal

-- what is left tells
abbrev pub invariant-loop-i : goal.invariant-loop-i
invariant-loop-i l = are_met (marked_table l.rows) (demands_of (drop l.i l.demands)) ≡ are_met (marked_table l.rows) (demands_of l.demands)
