use Rattle.std.proofs.Common.{◌-◌, ◌*◌, ◌<◌, ◌≤◌, ℕ, length, slice_index}
use Rattle.action_terms.specs.Meaning.{action_of}
use Rattle.sort_rules.specs.Filling.{AreSums}
use Rattle.sort_rules.specs.Rows.{unmarked}
use Rattle.sort_rules.proofs.measures.row_sums.Given as goal

-- the rows of the last nodes are counted
abbrev pub invariant-loop-k : goal.invariant-loop-k
invariant-loop-k l = record {
  sums : AreSums (action_of l.graph) (unmarked l.table) l.k l.sums.items;
  few : (c : ℕ) → c < length l.sums.items → slice_index l.sums.items c ≤ 328 * (l.count - l.k);
}
