use Rattle.std.proofs.Common.{arith}
use Rattle.rv_codegen.proofs.Emitting.{mark-short}
use Rattle.rv_codegen.proofs.checks.append_checks.Goals as goal

pub returns-clause-short : goal.returns-clause-short
returns-clause-short c = omega (arith, c.in_ok-condition_code.ensures.short, mark-short c.condition_code.new.asm c.place.new.self _ c.place.ensures)
