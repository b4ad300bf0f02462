-- The instructions of the entries, and of the pieces that stand in the code of nodes.
use Rattle.std.specs.Prelude.{ℕ, ◌+◌, ◌*◌, nat_lt, if◌then◌else◌, List, [], ◌∷◌, ◌++◌, map, pos}
use Rattle.rv_code.specs.declared.instruction.Inst.{Inst}
use Rattle.rv_code.specs.declared.instruction.Inst.TheVariants.{Op, OpImm, Shift, Load, Store, Branch, Upper, Jalr, Ecall}
use Rattle.rv_code.specs.declared.instruction.OpOp.TheVariants.{Add}
use Rattle.rv_code.specs.declared.instruction.OpImmOp.TheVariants.{Addi}
use Rattle.rv_code.specs.declared.instruction.ShiftOp.TheVariants.{Slli, Srli}
use Rattle.rv_code.specs.declared.instruction.LoadOp.TheVariants.{Ld}
use Rattle.rv_code.specs.declared.instruction.StoreOp.TheVariants.{Sd}
use Rattle.rv_code.specs.declared.instruction.BranchOp.TheVariants.{Bne, Bltu}
use Rattle.rv_code.specs.declared.instruction.UpperOp.TheVariants.{Lui}
use Rattle.rv_asm.specs.Pieces.{load_constant}
use Rattle.rv_asm.specs.declared.item.Item.{Item}
use Rattle.rv_asm.specs.declared.item.Item.TheVariants.{Plain, Address, BranchTo}

-- ---- the first instructions

-- rounds the address in register 3 up to a multiple of 4096, and puts the address 4096 bytes behind that into register 2
abbrev pub round_up : List Inst
round_up =
    OpImm Addi 3 3 (pos 2047)
    ∷ OpImm Addi 3 3 (pos 2047)
    ∷ OpImm Addi 3 3 (pos 1)
    ∷ Shift Srli 3 3 12
    ∷ Shift Slli 3 3 12
    ∷ Upper Lui 2 (pos 4096)
    ∷ Op Add 2 2 3
    ∷ []

-- register 5 has the address of the stack's end, which is that of the first unit; both are stored
abbrev pub store_stack_end : List Inst
store_stack_end = Op Add 5 5 3 ∷ Store Sd 3 5 (pos 40) ∷ Store Sd 3 5 (pos 48) ∷ []

-- register 6 has the size of the units; the address of their end is stored
abbrev pub store_units_end : List Inst
store_units_end = Op Add 6 6 5 ∷ Store Sd 3 6 (pos 56) ∷ []

-- the ends of a stack of so many words and of so many units are stored at the front of the region
abbrev pub store_ends : (stack units : ℕ) → List Inst
store_ends stack units =
    load_constant 5 (4096 + 8 * stack) ++ (store_stack_end ++ (load_constant 6 (16 * units) ++ store_units_end))

-- ---- commitments

-- no alternative is open any more, and the mark is set
abbrev pub commit : List Inst
commit = Store Sd 3 0 (pos 8) ∷ OpImm Addi 5 0 (pos 1) ∷ Store Sd 3 5 (pos 24) ∷ []

-- to the address in register 1
abbrev pub go_back : List Inst
go_back = Jalr 0 1 (pos 0) ∷ []

-- ---- records are taken back

-- the frame of the record whose address is in register 5, and then the address at which it goes on
abbrev pub resume : List Inst
resume = Load Ld 2 5 (pos 32) ∷ Load Ld 5 5 (pos 8) ∷ Jalr 0 5 (pos 0) ∷ []

-- the chains from before an alternative
abbrev pub restore_alternative : List Inst
restore_alternative =
    Load Ld 6 5 (pos 0)
    ∷ Store Sd 3 6 (pos 8)
    ∷ Load Ld 6 5 (pos 16)
    ∷ Store Sd 3 6 (pos 16)
    ∷ Load Ld 6 5 (pos 24)
    ∷ Store Sd 3 6 (pos 24)
    ∷ resume

-- the chains from before a trap; where a commitment was made within it, no alternative is open and the mark stays
abbrev pub restore_trap : List Inst
restore_trap =
    Load Ld 6 3 (pos 24)
    ∷ OpImm Addi 7 0 (pos 0)
    ∷ Branch Bne 6 0 (pos 12)
    ∷ Load Ld 7 5 (pos 0)
    ∷ Load Ld 6 5 (pos 24)
    ∷ Store Sd 3 7 (pos 8)
    ∷ Load Ld 7 5 (pos 16)
    ∷ Store Sd 3 7 (pos 16)
    ∷ Store Sd 3 6 (pos 24)
    ∷ resume

-- ---- records are opened and closed

-- the address of the word at an offset of the frame, in register 7
abbrev pub record_address : (keep : ℕ) → List Inst
record_address keep =
    if nat_lt keep 256 then OpImm Addi 7 2 (pos (8 * keep)) ∷ []
    else load_constant 7 (8 * keep) ++ (Op Add 7 7 2 ∷ [])

-- the record at the address in register 7, with the address in register 6, the chains and the frame
abbrev pub keep_record : List Inst
keep_record =
    Load Ld 5 3 (pos 8)
    ∷ Store Sd 7 5 (pos 0)
    ∷ Store Sd 7 6 (pos 8)
    ∷ Load Ld 5 3 (pos 16)
    ∷ Store Sd 7 5 (pos 16)
    ∷ Load Ld 5 3 (pos 24)
    ∷ Store Sd 7 5 (pos 24)
    ∷ Store Sd 7 2 (pos 32)
    ∷ []

-- it is the innermost alternative
abbrev pub head_alternative : List Inst
head_alternative = Store Sd 3 7 (pos 8) ∷ []

-- it is the innermost trap, and no commitment was made since
abbrev pub head_trap : List Inst
head_trap = Store Sd 3 7 (pos 16) ∷ Store Sd 3 0 (pos 24) ∷ []

-- the record of an alternative at an offset of the frame is opened; where it fails, the other arm is at a label
abbrev pub open_alternative_items : (keep arm : ℕ) → List Item
open_alternative_items keep arm = map Plain (record_address keep) ++ (Address 6 arm ∷ map Plain (keep_record ++ head_alternative))

-- the record of a trap at an offset of the frame is opened; its handler is at a label
abbrev pub open_trap_items : (keep handler : ℕ) → List Item
open_trap_items keep handler = map Plain (record_address keep) ++ (Address 6 handler ∷ map Plain (keep_record ++ head_trap))

-- an alternative whose record has the address in register 7 is closed, where it is still the innermost
abbrev pub unlink_alternative : List Inst
unlink_alternative = Load Ld 6 3 (pos 8) ∷ Branch Bne 7 6 (pos 12) ∷ Load Ld 6 7 (pos 0) ∷ Store Sd 3 6 (pos 8) ∷ []

abbrev pub close_alternative : (keep : ℕ) → List Inst
close_alternative keep = record_address keep ++ unlink_alternative

-- a trap whose record has the address in register 7 is closed
abbrev pub unlink_trap : List Inst
unlink_trap =
    Load Ld 5 7 (pos 16)
    ∷ Store Sd 3 5 (pos 16)
    ∷ Load Ld 5 3 (pos 24)
    ∷ Branch Bne 5 0 (pos 8)
    ∷ Load Ld 5 7 (pos 24)
    ∷ Store Sd 3 5 (pos 24)
    ∷ []

abbrev pub close_trap : (keep : ℕ) → List Inst
close_trap keep = record_address keep ++ unlink_trap

-- ---- units

-- the address of the first of n units in register 8, that of their end in register 6, and that of the end of all in register 7
abbrev pub find_units : (n : ℕ) → List Inst
find_units n =
    Load Ld 5 3 (pos 32)
    ∷ Load Ld 8 3 (pos 48)
    ∷ Load Ld 7 3 (pos 56)
    ∷ Shift Slli 6 5 4
    ∷ Op Add 8 8 6
    ∷ OpImm Addi 6 8 (pos (16 * n))
    ∷ []

-- n more units are spent
abbrev pub count_units : (n : ℕ) → List Inst
count_units n = OpImm Addi 5 5 (pos n) ∷ Store Sd 3 5 (pos 32) ∷ []

-- n units are taken, with the address of the first in register 8; where they pass, it goes to a label
abbrev pub take_items : (n full : ℕ) → List Item
take_items n full = map Plain (find_units n) ++ (BranchTo Bltu 7 6 full ∷ map Plain (count_units n))

-- the unit at the address in register 8 is that of a cell without contents; its address goes to register 10
abbrev pub make_cell : List Inst
make_cell = Store Sd 8 0 (pos 0) ∷ OpImm Addi 10 8 (pos 0) ∷ []

-- ---- input

-- up to eight bytes are received into the first word of the region; register 10 has their number, and register 5 has 8
abbrev pub receive_bytes : List Inst
receive_bytes =
    OpImm Addi 11 3 (pos 0)
    ∷ OpImm Addi 12 0 (pos 8)
    ∷ OpImm Addi 17 0 (pos 63)
    ∷ OpImm Addi 10 0 (pos 0)
    ∷ Ecall
    ∷ OpImm Addi 5 0 (pos 8)
    ∷ []

-- the word that was received
abbrev pub load_message : List Inst
load_message = Load Ld 10 3 (pos 0) ∷ []
