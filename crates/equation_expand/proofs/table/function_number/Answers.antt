use Rattle.std.proofs.Common.{◌∙◌, sym, arith}
use Rattle.equation_expand.proofs.FunctionNumbers.{at-name, past-name}
use Rattle.equation_expand.proofs.table.function_number.Goals as goal

pub returns-then-eq : goal.returns-then-eq
returns-then-eq c =
    let none = at-name c.args.function.now c.args.functions.now c.loop-number.number _ c.loop-number-test.true (sym c.eq.ensures ∙ c.if-eq.true) in
    omega (arith, none, c.loop-number.invariant)

pub loop-number-preserved : goal.loop-number-preserved
loop-number-preserved c =
    let more = past-name c.args.function.now c.args.functions.now c.loop-number.number _ c.loop-number-test.true (sym c.eq.ensures ∙ c.if-eq.false) in
    omega (arith, more, c.loop-number.invariant)
