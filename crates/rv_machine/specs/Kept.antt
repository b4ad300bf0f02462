-- What holds of every machine beside what its callers see.
use Rattle.std.specs.Prelude.{◌≡◌, ℕ, List, slice_index, Option}
use Rattle.rv_code.specs.Machine.{Segment}
use Rattle.rv_code.specs.declared.instruction.Inst.{Inst}
use Rattle.rv_machine.specs.Memory.{IsTable}

-- 0 is kept for x0, and the table has the instructions of its words
pub record IsKept (registers : List ℕ) (segments : List Segment) (address : ℕ) (table : List (Option Inst)) : Type 0 where
  pub zero : slice_index registers 0 ≡ 0
  pub coded : IsTable segments address table
