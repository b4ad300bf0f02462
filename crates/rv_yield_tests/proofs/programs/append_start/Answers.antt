-- Two constants.
use Rattle.std.proofs.Common.{arith}
use Rattle.std.proofs.lemmas.Result.{on_ok_weaker}
use Rattle.rv_yield_tests.proofs.Totals.{total-constant}
use Rattle.rv_yield_tests.proofs.programs.append_start.Goals as goal

pub returns-clause-short : goal.returns-clause-short
returns-clause-short c =
    on_ok_weaker c.load_constant-2.result
    (λ e.
    let first = total-constant c.args.asm.now c.load_constant.new.asm 2 33554432 c.in_ok-load_constant.ensures.ok in
    let second = total-constant c.load_constant.new.asm c.load_constant-2.new.asm 3 33554432 e in
    omega (arith, first, second))
    c.load_constant-2.ensures.ok
