-- The code of calls: a frame for the body is opened behind that of the node, and where the body has completed its data come back. The first word of the new frame keeps the address at which the node goes on, the second the address of the node's frame.
use Rattle.std.specs.Prelude.{ℕ, ◌*◌, List, [], ◌∷◌, ◌++◌, map, pos, slice_index}
use Rattle.rv_code.specs.declared.instruction.Inst.{Inst}
use Rattle.rv_code.specs.declared.instruction.Inst.TheVariants.{Op, OpImm, Load, Store, Jalr}
use Rattle.rv_code.specs.declared.instruction.OpOp.TheVariants.{Add}
use Rattle.rv_code.specs.declared.instruction.OpImmOp.TheVariants.{Addi}
use Rattle.rv_code.specs.declared.instruction.LoadOp.TheVariants.{Ld}
use Rattle.rv_code.specs.declared.instruction.StoreOp.TheVariants.{Sd}
use Rattle.rv_code.specs.declared.instruction.BranchOp.TheVariants.{Bltu}
use Rattle.rv_asm.specs.Conventions.{frame_register, region_register}
use Rattle.rv_asm.specs.Pieces.{load_constant}
use Rattle.rv_asm.specs.declared.item.Item.{Item}
use Rattle.rv_asm.specs.declared.item.Item.TheVariants.{Plain, Jump, BranchTo, Address}
use Rattle.rv_codegen.specs.AddressItems.{address_items}
use Rattle.rv_codegen.specs.CaughtItems.{caught_items}

-- an address so many words behind that in a register
abbrev pub behind_items : (to from words : ℕ) → List Inst
behind_items to from words = load_constant to (8 * words) ++ (Op Add to to from ∷ [])

-- where the new frame begins in register 6, behind so many words of the node's; where it ends in register 7, with so many words of its own; and where the stack ends, from the front of the region, in register 5
abbrev pub room_items : (mine theirs : ℕ) → List Inst
room_items mine theirs =
    behind_items 6 frame_register mine ++ (behind_items 7 6 theirs ++ (Load Ld 5 region_register (pos 40) ∷ []))

-- the frame is entered: its first two words are written, and what the node is given goes to where the body finds it
abbrev pub enter_items : (given wanted : List ℕ) → List Inst
enter_items given wanted =
    Store Sd 6 5 (pos 0)
    ∷ Store Sd 6 frame_register (pos 8)
    ∷ (address_items (slice_index given 0) ++ (OpImm Addi frame_register 6 (pos 0) ∷ caught_items wanted))

-- a body is called, which returns to a label; where its frame would pass the end of the stack, the code goes to the label `full`
abbrev pub call_items : (mine theirs : ℕ) → (given wanted : List ℕ) → (full back body : ℕ) → List Item
call_items mine theirs given wanted full back body =
    map Plain (room_items mine theirs)
    ++ (BranchTo Bltu 5 7 full ∷ Address 5 back ∷ (map Plain (enter_items given wanted) ++ (Jump body ∷ [])))

-- behind a call: the frame is the node's again, and what the body has left goes to where the node leaves it
abbrev pub fetch_items : (left wanted : List ℕ) → List Inst
fetch_items left wanted =
    address_items (slice_index left 0) ++ (Load Ld frame_register frame_register (pos 8) ∷ caught_items wanted)

-- where a body has completed, it returns to what has called it
abbrev pub return_items : List Inst
return_items = Load Ld 5 frame_register (pos 0) ∷ Jalr 0 5 (pos 0) ∷ []
