-- The branch stands behind the value.
use Rattle.std.proofs.Common.{[], ◌∷◌, arith, rules}
use Rattle.rv_code.specs.declared.instruction.BranchOp.TheVariants.{Beq}
use Rattle.rv_asm.specs.declared.item.Item.TheVariants.{BranchTo}
use Rattle.action_terms.specs.Forms.{yielder_at}
use Rattle.rv_yield.specs.Conditions.{turned}
use Rattle.rv_yield.specs.YielderCode.{value_items}
use Rattle.rv_yield.specs.Sources.{places_of}
use Rattle.rv_yield.proofs.Fronts.{front-first}
use Rattle.rv_yield.proofs.NeedLaws.{registers-enough}
use Rattle.rv_yield.proofs.conditions.append_test.Goals as goal

pub value_code-requires-clause-room : goal.value_code-requires-clause-room
value_code-requires-clause-room c = omega (arith, registers-enough (yielder_at c.args.source.now.graph.now.yielders c.args.wanted.yielder) c.requires.few)

pub returns-in_err-value_code-clause-err : goal.returns-in_err-value_code-clause-err
returns-in_err-value_code-clause-err c =
    let s = c.args.source.now in
    let y = yielder_at s.graph.now.yielders c.args.wanted.yielder in
    let front = front-first (value_items (places_of s) 10 10 s.nothing y) (BranchTo (turned c.args.wanted.value Beq) 10 0 c.args.otherwise ∷ []) c.args.asm.now c.value_code.new.asm c.in_err-value_code.ensures.err in
    search rules
