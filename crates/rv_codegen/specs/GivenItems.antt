-- The code that moves words of a frame to other offsets of it, and that leaves the data of items at offsets, one behind the other.
use Rattle.std.specs.Prelude.{ℕ, ◌*◌, List, [], ◌∷◌, ◌++◌, length, take, drop, map, pos}
use Rattle.rv_code.specs.declared.instruction.Inst.{Inst}
use Rattle.rv_code.specs.declared.instruction.Inst.TheVariants.{Op, OpImm}
use Rattle.rv_code.specs.declared.instruction.OpOp.TheVariants.{Add}
use Rattle.rv_code.specs.declared.instruction.OpImmOp.TheVariants.{Addi}
use Rattle.rv_asm.specs.Conventions.{frame_register}
use Rattle.rv_asm.specs.Pieces.{load_constant}
use Rattle.rv_asm.specs.declared.item.Item.{Item}
use Rattle.rv_asm.specs.declared.item.Item.TheVariants.{Plain}
use Rattle.action_terms.specs.Actions.{Item as DataItem, Single, Them, Yielder}
use Rattle.rv_yield.specs.Holding.{Places}
use Rattle.rv_yield.specs.Registers.{first_register}
use Rattle.rv_yield.specs.YielderCode.{load_items, store_items, stored_items, value_items}

-- where a yielder finds what is given, where no token has a slot
abbrev pub alone : (given : List ℕ) → Places
alone given = record { given = given; bound = [] }

-- the word at an offset of the frame goes to another offset, through register 10
abbrev pub move_items : (from to : ℕ) → List Inst
move_items from to = load_items first_register from ++ store_items to

-- words go to other offsets, the first one first. Where there are fewer places than words, the words behind stay where they are
abbrev pub moves_items : (from to : List ℕ) → List Inst
moves_items [] to = []
moves_items (x ∷ from) [] = []
moves_items (x ∷ from) (o ∷ to) = move_items x o ++ moves_items from to

-- the datum of a yielder is left at the first of these offsets. Where there are none, it is not kept
abbrev pub single_items : (given out : List ℕ) → (nothing : ℕ) → Yielder → List Item
single_items given [] nothing y = value_items (alone given) first_register first_register nothing y
single_items given (o ∷ out) nothing y = stored_items (alone given) o nothing y

-- the data of items are left at these offsets, one behind the other; where one yields nothing, the code goes to the label `nothing`
abbrev pub give_items : (given out : List ℕ) → (nothing : ℕ) → List DataItem → List Item
give_items given out nothing [] = []
give_items given out nothing (Single y ∷ is) =
    single_items given out nothing y ++ give_items given (drop 1 out) nothing is
give_items given out nothing (Them ∷ is) =
    map Plain (moves_items given (take (length given) out))
    ++ give_items given (drop (length given) out) nothing is

-- the address of the first of these offsets of the frame goes to register 10, or that of the frame where there are none
abbrev pub point_items : List ℕ → List Inst
point_items [] = OpImm Addi first_register frame_register (pos 0) ∷ []
point_items (o ∷ os) = load_constant first_register (8 * o) ++ Op Add first_register first_register frame_register ∷ []

-- what is given is put in a row, and the row's address goes to register 10
abbrev pub escape_items : (given escaped : List ℕ) → List Inst
escape_items given escaped = moves_items given escaped ++ point_items escaped

-- the data of items are put in a row, and the row's address goes to register 10; where one yields nothing, the code goes to the label `nothing`
abbrev pub escape_with_items : (given escaped : List ℕ) → (nothing : ℕ) → List DataItem → List Item
escape_with_items given escaped nothing is =
    give_items given escaped nothing is ++ map Plain (point_items escaped)
