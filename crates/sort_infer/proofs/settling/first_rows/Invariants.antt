use Rattle.std.proofs.Common.{length, ◌≡◌}
use Rattle.sort_rules.specs.MarkedRows.{marked_table}
use Rattle.sort_rules.specs.Raising.{first_table}
use Rattle.sort_rules.specs.Tables.{Entry}
use Rattle.sort_infer.proofs.settling.first_rows.Given as goal

-- so many rows, and nothing in them but the root's demand
abbrev pub invariant-loop-node : goal.invariant-loop-node
invariant-loop-node l = record {
  count : length l.rows.items ≡ l._node;
  table : (x : Entry) → marked_table l.rows.items x ≡ first_table x;
}
