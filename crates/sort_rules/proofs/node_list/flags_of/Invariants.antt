use Rattle.std.proofs.Common.{length, take, ◌≡◌}
use Rattle.sort_rules.specs.Numbers.{AreFlagged}
use Rattle.sort_rules.proofs.node_list.flags_of.Given as goal

-- a flag for each node, and the first numbers are flagged
abbrev pub invariant-loop-i : goal.invariant-loop-i
invariant-loop-i l = record { size : length l.flags.items ≡ l.count; flagged : AreFlagged l.flags.items (take l.i l.numbers) }
