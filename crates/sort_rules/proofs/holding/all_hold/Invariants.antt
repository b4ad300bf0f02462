use Rattle.std.proofs.Common.{true, ◌≡◌}
use Rattle.action_terms.specs.Meaning.{action_of}
use Rattle.sort_rules.specs.MarkedRows.{marked_table}
use Rattle.sort_rules.specs.Tests.{all_hold}
use Rattle.sort_rules.proofs.holding.all_hold.Given as goal

-- the first nodes hold
abbrev pub invariant-loop-node : goal.invariant-loop-node
invariant-loop-node l = all_hold (action_of l.graph) (marked_table l.site.rows.now) l.node ≡ true
