-- One instruction.
use Rattle.std.proofs.Common.{arith, refl}
use Rattle.rv_prelude.proofs.Fresh.{placed-ok, short-ok}
use Rattle.rv_prelude_tests.proofs.programs.append_load.Goals as goal

pub returns-clause-short : goal.returns-clause-short
returns-clause-short c = short-ok c.emit.result c.args.asm.now c.emit.new.self _ 1 (omega arith) c.emit.ensures.ok

pub returns-clause-placed : goal.returns-clause-placed
returns-clause-placed c = placed-ok c.emit.result c.args.asm.now c.emit.new.self _ (λ l. refl) c.emit.ensures.ok
