use Rattle.std.proofs.Common.{◌≡◌, ◌+◌, ◌*◌, ◌≤◌, ◌++◌, drop, take, sum_by}
use Rattle.action_terms.specs.Meaning.{action_of}
use Rattle.action_terms.specs.Need.{node_yielder_count}
use Rattle.rv_asm.specs.Assembly.{total}
use Rattle.rv_codegen.specs.Aliases.{lists_of}
use Rattle.rv_codegen.specs.Blocks.{blocks_from, table_words}
use Rattle.rv_codegen.specs.Marks.{AreFresh}
use Rattle.rv_codegen.proofs.generation.append_nodes.Given as goal

-- with what is left to do the items are those of the whole, and no label from those of the next node on is placed
abbrev pub invariant-loop-k : goal.invariant-loop-k
invariant-loop-k l = record {
  items : l.asm.items ++ blocks_from (table_words (lists_of l.plan.given.now) (lists_of l.plan.out.now) (lists_of l.plan.escaped.now) l.plan.keeps.now l.plan.frames.now) l.k l.plan.exits.now (drop l.k (action_of l.plan.graph.now)) ≡ l.fn.asm.items ++ blocks_from (table_words (lists_of l.plan.given.now) (lists_of l.plan.out.now) (lists_of l.plan.escaped.now) l.plan.keeps.now l.plan.frames.now) 0 l.plan.exits.now (action_of l.plan.graph.now);
  labels : l.asm.labels ≡ l.fn.asm.labels;
  fresh : AreFresh l.k l.asm.items;
  short : total l.asm.items ≤ total l.fn.asm.items + 530 * l.k + 520 * sum_by node_yielder_count (take l.k (action_of l.plan.graph.now));
}
