-- What stands behind a borrow that only reads.
use Rattle.std.specs.Prelude.{◌≡◌, ⊤}
use Rattle.std.specs.Borrow.{follows_so, MutBor, Fml}
use mathlib.Core.Option.{none}
use Rattle.rv_code.specs.Machine.{Segment}
use Rattle.rv_machine.specs.Machines.{MachineValue}
use Rattle.rv_machine.specs.contracts.block.Block.{the_row as block_row}
use Rattle.rv_machine.specs.contracts.machine.Machine.{the_row as machine_row}

-- a block is the segment that it was
abbrev pub BlockStays : MutBor Segment → Fml
BlockStays block = follows_so block_row block_row block.ghost_name none (λ _ _. ⊤) (λ last. last ≡ block.now)

-- a machine is as it was
abbrev pub MachineStays : MutBor MachineValue → Fml
MachineStays machine = follows_so machine_row machine_row machine.ghost_name none (λ _ _. ⊤) (λ last. last ≡ machine.now)
