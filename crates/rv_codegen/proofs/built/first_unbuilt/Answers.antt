use Rattle.std.proofs.Common.{◌<◌, length, ap, sym, arith}
use Rattle.std.proofs.lemmas.List.{length-map}
use Rattle.action_terms.specs.Nodes.{listed_node}
use Rattle.action_terms.specs.Meaning.{action_of}
use Rattle.action_terms.proofs.GraphLaws.{length-nodes_few}
use Rattle.rv_codegen.proofs.GraphNodes.{length-action_of}
use Rattle.rv_codegen.proofs.Unbuilt.{unbuilt_from-built, unbuilt-first}
use Rattle.rv_codegen.proofs.built.first_unbuilt.Goals as goal

pub overflow_cast-result : goal.overflow_cast-result
overflow_cast-result c =
    let graph = c.args.graph.now in
    omega (arith, length-map c.nodes-k-end.result.now listed_node, ap length c.nodes-k-end.ensures.nodes, length-nodes_few graph c.nodes-k-end.ensures.of_an_action)

pub loop-k-preserved : goal.loop-k-preserved
loop-k-preserved c =
    let graph = c.args.graph.now in
    let within : c.loop-k.k < length (action_of graph) = omega (arith, length-map c.nodes-k-end.result.now listed_node, ap length c.nodes-k-end.ensures.nodes, length-action_of graph) in
    unbuilt_from-built (action_of graph) c.loop-k.k within (sym c.if-not-is_built.ensures) c.loop-k.invariant

pub returns-then-not-is_built : goal.returns-then-not-is_built
returns-then-not-is_built c =
    let graph = c.args.graph.now in
    let within : c.loop-k.k < length (action_of graph) = omega (arith, length-map c.nodes-k-end.result.now listed_node, ap length c.nodes-k-end.ensures.nodes, length-action_of graph) in
    unbuilt-first (action_of graph) c.loop-k.k within (sym c.if-not-is_built.ensures) c.loop-k.invariant
