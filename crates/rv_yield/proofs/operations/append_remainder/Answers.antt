-- Where the branch isn't emitted, the assembler is as before.
use Rattle.std.proofs.Common.{rules}
use Rattle.rv_yield.specs.Fronts.{AppendsFrontOf}
use Rattle.rv_yield.specs.YielderCode.{remainder_items}
use Rattle.rv_yield.proofs.Fronts.{front-none}
use Rattle.rv_yield.proofs.operations.append_remainder.Goals as goal

pub returns-in_err-append_divisor_test-clause-err : goal.returns-in_err-append_divisor_test-clause-err
returns-in_err-append_divisor_test-clause-err c =
    let front : AppendsFrontOf (remainder_items c.args.to c.args.a c.args.b c.args.nothing) c.args.asm.now c.append_divisor_test.new.asm = front-none _ _ _ c.in_err-append_divisor_test.ensures.err in
    search rules
