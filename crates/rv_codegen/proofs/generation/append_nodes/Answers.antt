use Rattle.std.proofs.Common.{◌<◌, ◌∙◌, ◌+◌, ◌++◌, length, ap, arith}
use Rattle.std.specs.Prelude.{drop}
use Rattle.std.proofs.lemmas.List.{length-map}
use Rattle.action_terms.specs.Nodes.{listed_node}
use Rattle.action_terms.specs.Meaning.{action_of}
use Rattle.rv_codegen.specs.Aliases.{lists_of}
use Rattle.rv_codegen.specs.Blocks.{blocks_from, table_words}
use Rattle.rv_codegen.proofs.GraphNodes.{length-action_of}
use Rattle.rv_codegen.proofs.NodesLaws.{blocks_from-next}
use Rattle.rv_codegen.proofs.Yielders.{yielders-next}
use Rattle.rv_codegen.proofs.generation.append_nodes.Goals as goal

pub loop-k-preserved : goal.loop-k-preserved
loop-k-preserved c =
    let k = c.loop-k.k in
    let graph = c.args.plan.graph.now in
    let a = action_of graph in
    let exits = c.args.plan.exits.now in
    let ws = table_words (lists_of c.args.plan.given.now) (lists_of c.args.plan.out.now) (lists_of c.args.plan.escaped.now) c.args.plan.keeps.now c.args.plan.frames.now in
    let turn = c.loop-k-test.true in
    let within : k < length a = omega (arith, turn, length-map c.nodes-count.result.now listed_node, ap length c.nodes-count.ensures.nodes, length-action_of graph) in
    let appended = c.in_ok-append_node.ensures.items in
    record {
      items =
          ap (λ s. s.items ++ blocks_from ws (k + 1) exits (drop (k + 1) a)) appended
          ∙ blocks_from-next ws c.loop-k.asm.items exits a k c.index-plan-k.result within (omega (arith, turn, length-map c.nodes-count.result.now listed_node, ap length c.nodes-count.ensures.nodes, c.args.plan.count))
          ∙ c.loop-k.invariant.items;
      labels = ap (λ s. s.labels) appended ∙ c.loop-k.invariant.labels;
      fresh = c.in_ok-append_node.ensures.fresh;
      short = omega (arith, c.in_ok-append_node.ensures.short, c.loop-k.invariant.short, yielders-next a k within);
    }
