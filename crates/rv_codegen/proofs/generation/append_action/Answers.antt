use Rattle.std.proofs.Common.{◌≡◌, ◌+◌, ◌*◌, length, ap, sym, sum_by, ◌∙◌, arith}
use Rattle.std.proofs.lemmas.List.{length-map}
use Rattle.action_terms.specs.Meaning.{action_of}
use Rattle.action_terms.specs.Need.{node_yielder_count}
use Rattle.action_terms.specs.Nodes.{listed_node}
use Rattle.rv_codegen.specs.Aliases.{lists_of}
use Rattle.rv_codegen.specs.Blocks.{blocks_from, ending, table_words}
use Rattle.rv_codegen.proofs.GraphNodes.{length-action_of}
use Rattle.rv_codegen.proofs.Emitting.{OnOk-then, both-appended, total-ended}
use Rattle.rv_codegen.proofs.generation.append_action.Goals as goal

pub returns-clause-items : goal.returns-clause-items
returns-clause-items c =
    let plan = c.args.plan in
    let graph = plan.graph.now in
    let a = action_of graph in
    let count = length c.nodes.result.now in
    let same : count ≡ length a = sym (length-map c.nodes.result.now listed_node) ∙ ap length c.nodes.ensures.nodes ∙ sym (length-action_of graph) in
    let blocks = blocks_from (table_words (lists_of plan.given.now) (lists_of plan.out.now) (lists_of plan.escaped.now) plan.keeps.now plan.frames.now) 0 plan.exits.now a in
    OnOk-then c.append_ending.result
    (λ e. both-appended c.args.asm.now c.append_nodes.new.asm c.append_ending.new.asm blocks (ending count) (ending (length a)) c.in_ok-append_nodes.ensures.items e (ap ending same))
    c.append_ending.ensures

pub returns-clause-short : goal.returns-clause-short
returns-clause-short c =
    let graph = c.args.plan.graph.now in
    let count = length c.nodes.result.now in
    let same : count ≡ length graph.nodes = sym (length-map c.nodes.result.now listed_node) ∙ ap length c.nodes.ensures.nodes in
    let more = 530 * count + 520 * sum_by node_yielder_count (action_of graph) in
    let whole = total-ended c.args.asm.now c.append_nodes.new.asm c.append_ending.new.asm count more (omega (arith, c.in_ok-append_nodes.ensures.short, same)) in
    OnOk-then c.append_ending.result (λ last. omega (arith, whole last, same, length-action_of graph)) c.append_ending.ensures
