use Rattle.std.proofs.Common.{◌≡◌, length}
use Rattle.rv_machine.specs.Memory.{IsTable}
use Rattle.rv_machine.proofs.table.decoded.Given as goal

abbrev pub invariant-loop-k : goal.invariant-loop-k
invariant-loop-k l = record {
  right : IsTable l.blocks l.address l.code.items;
  count : length l.code.items ≡ l.k;
}
