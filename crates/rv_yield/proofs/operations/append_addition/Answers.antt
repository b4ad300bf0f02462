-- Where the addition isn't emitted, the assembler is as before.
use Rattle.std.proofs.Common.{rules}
use Rattle.rv_yield.specs.Fronts.{AppendsFrontOf}
use Rattle.rv_yield.specs.YielderCode.{addition_items}
use Rattle.rv_yield.proofs.Fronts.{front-none}
use Rattle.rv_yield.proofs.operations.append_addition.Goals as goal

pub returns-in_err-emit-clause-err : goal.returns-in_err-emit-clause-err
returns-in_err-emit-clause-err c =
    let front : AppendsFrontOf (addition_items c.args.to c.args.a c.args.constant c.args.nothing) c.args.asm.now c.emit.new.self = front-none _ _ _ c.in_err-emit.ensures.err in
    search rules
