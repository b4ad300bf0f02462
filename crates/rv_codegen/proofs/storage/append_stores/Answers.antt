use Rattle.std.proofs.Common.{arith}
use Rattle.rv_codegen.proofs.Emitting.{mark-short}
use Rattle.rv_codegen.proofs.storage.append_stores.Goals as goal

pub returns-clause-short : goal.returns-clause-short
returns-clause-short c = omega (arith, c.in_ok-append_puts.ensures.short, mark-short c.append_puts.new.asm c.place.new.self _ c.place.ensures)
