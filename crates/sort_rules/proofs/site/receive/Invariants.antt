use Rattle.std.proofs.Common.{◌++◌, ◌≡◌, drop}
use Rattle.std.specs.Prelude.{reverse}
use Rattle.sort_rules.specs.DemandViews.{demands_of}
use Rattle.sort_rules.specs.Demands.{received_by}
use Rattle.sort_rules.specs.Views.{marked_binds_of}
use Rattle.sort_rules.proofs.site.receive.Given as goal

-- the last ones receive them already
abbrev pub invariant-loop-i : goal.invariant-loop-i
invariant-loop-i l = demands_of l.out.items ≡ demands_of l.initial.out.items ++ received_by (marked_binds_of l.h) (reverse (drop l.i l.closures))
