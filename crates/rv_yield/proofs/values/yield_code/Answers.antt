-- Where there is no memory for the needs, nothing was appended.
use Rattle.std.proofs.Common.{refl, rules}
use Rattle.action_terms.specs.Forms.{yielder_at}
use Rattle.rv_yield.specs.YielderCode.{stored_items}
use Rattle.rv_yield.specs.Sources.{places_in}
use Rattle.rv_yield.proofs.Fronts.{front-none}
use Rattle.rv_yield.proofs.values.yield_code.Goals as goal

pub returns-in_err-needs-clause-err : goal.returns-in_err-needs-clause-err
returns-in_err-needs-clause-err c =
    let slots = c.args.slots.now in
    let front = front-none (stored_items (places_in slots) slots.target slots.nothing (yielder_at c.args.graph.now.yielders c.args.yielder)) c.args.asm.now c.args.asm.now refl in
    search rules
