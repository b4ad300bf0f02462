use Rattle.std.proofs.Common.{◌<◌, ◌∙◌, ◌+◌, length, ap, arith}
use Rattle.std.specs.Prelude.{drop}
use Rattle.std.proofs.lemmas.List.{length-map}
use Rattle.action_terms.specs.Nodes.{listed_node}
use Rattle.action_terms.specs.Meaning.{action_of}
use Rattle.rv_codegen.specs.Blocks.{exits_from}
use Rattle.rv_codegen.proofs.ExitLaws.{exits_from-next}
use Rattle.rv_codegen.proofs.GraphNodes.{length-action_of}
use Rattle.rv_codegen.proofs.exits.make_exits.Goals as goal

pub loop-k-preserved : goal.loop-k-preserved
loop-k-preserved c =
    let k = c.loop-k.k in
    let graph = c.args.graph.now in
    let a = action_of graph in
    let within : k < length a = omega (arith, c.loop-k-test.true, length-map c.nodes-count.result.now listed_node, ap length c.nodes-count.ensures.nodes, length-action_of graph) in
    record {
      len = c.set_exits.ensures.len ∙ c.loop-k.invariant.len;
      rest = ap (exits_from (k + 1) (drop (k + 1) a)) c.set_exits.ensures.exits ∙ exits_from-next a k c.loop-k.exits.items within ∙ c.loop-k.invariant.rest;
    }
