use Rattle.std.proofs.Common.{◌≡◌, ◌≤◌, ◌*◌, drop}
use Rattle.sort_rules.specs.Rows.{unmarked}
use Rattle.frame_layout.specs.Placing.{out_end}
use Rattle.frame_layout.proofs.frames.out_words.Given as goal

-- with those of the nodes that are left, the words are those of all
abbrev pub invariant-loop-node : goal.invariant-loop-node
invariant-loop-node l = record {
  few : l.words ≤ 64 * l.node-index;
  left : out_end (unmarked l.table) l.words (drop l.node-index l.nodes) ≡ out_end (unmarked l.table) 0 l.nodes;
}
