-- Calls of what runs the machine, among the items of the assembler.
use Rattle.std.specs.Prelude.{ℕ, Bool, true, false, List, count_by}
use Rattle.rv_code.specs.declared.instruction.Inst.TheVariants.{Ecall}
use Rattle.rv_asm.specs.declared.item.Item.{Item}
use Rattle.rv_asm.specs.declared.item.Item.TheVariants.{Plain}

-- the item is a call
abbrev pub is_call : Item → Bool
is_call (Plain Ecall) = true
is_call _ = false

-- how many there are
abbrev pub calls : List Item → ℕ
calls items = count_by is_call items
