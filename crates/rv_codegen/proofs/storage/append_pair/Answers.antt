use Rattle.action_terms.specs.Forms.{yielder_at}
use Rattle.rv_codegen.proofs.OperandRegisters.{earlier-room, later-room}
use Rattle.rv_codegen.proofs.storage.append_pair.Goals as goal

pub value_code-requires-clause-room : goal.value_code-requires-clause-room
value_code-requires-clause-room c =
    let ls = c.args.plan.graph.now.yielders in
    earlier-room (yielder_at ls c.args.earlier) (yielder_at ls c.args.later) c.requires.few

pub value_code-requires-2-clause-room : goal.value_code-requires-2-clause-room
value_code-requires-2-clause-room c =
    let ls = c.args.plan.graph.now.yielders in
    later-room (yielder_at ls c.args.earlier) (yielder_at ls c.args.later) c.requires.few c.requires.more
