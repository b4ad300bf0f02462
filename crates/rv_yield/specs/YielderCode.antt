-- The code of yielders, as items of the assembler. A value goes to a register `to`, by way of the registers from `free` on;
-- where there is none the code goes to the label `nothing`. Data are found at places of the frame.
use Rattle.std.specs.Prelude.{ℕ, ◌+◌, ◌*◌, Bool, true, false, nat_eq, nat_lt, int_lt, if◌then◌else◌, List, [], ◌∷◌, ◌++◌, map, ℤ, pos, neg_ℤ, Option, Some, None}
use Rattle.rv_code.specs.Encode.{has_bits}
use Rattle.rv_code.specs.declared.instruction.Inst.{Inst}
use Rattle.rv_code.specs.declared.instruction.Inst.TheVariants.{Op, OpImm, Shift, Load, Store}
use Rattle.rv_code.specs.declared.instruction.LoadOp.TheVariants.{Ld}
use Rattle.rv_code.specs.declared.instruction.StoreOp.TheVariants.{Sd}
use Rattle.rv_code.specs.declared.instruction.OpOp.TheVariants.{Add, Sub, Slt, And, Or, Mul, Mulh, Div, Rem}
use Rattle.rv_code.specs.declared.instruction.OpImmOp.TheVariants.{Addi, Slti, Sltiu, Xori}
use Rattle.rv_code.specs.declared.instruction.ShiftOp.TheVariants.{Srai}
use Rattle.rv_code.specs.declared.instruction.BranchOp.TheVariants.{Beq, Bne, Blt, Bge}
use Rattle.rv_asm.specs.Conventions.{integer_word, truth_word, frame_register}
use Rattle.rv_asm.specs.Pieces.{load_constant}
use Rattle.rv_asm.specs.declared.item.Item.{Item}
use Rattle.rv_asm.specs.declared.item.Item.TheVariants.{Plain, Jump, BranchTo}
use Rattle.action_terms.specs.Actions.{Two, Sum, Difference, Product, Quotient, Remainder, Is, Less, BothOf, EitherOf, One, Negation, Not, Yielder, NumberLiteral, TruthLiteral, Given, GivenAt, BoundTo, StoredIn, OnTwo, OnOne}
use Rattle.rv_yield.specs.Holding.{Places, only_offset, nth_offset, slot_offset}
use Rattle.rv_yield.specs.Registers.{registers_needed, first_register, addend, other_addend, check, other_check}

-- ---- operations on the values of registers

-- a sum fits exactly where it is less than one of its parts if the other is negative, and only then; `b` isn't `to`
abbrev pub sum_items : (to a b nothing : ℕ) → List Item
sum_items to a b nothing =
    Plain (OpImm Slti other_check a (pos 0))
    ∷ Plain (Op Add to a b)
    ∷ Plain (Op Slt check to b)
    ∷ BranchTo Bne other_check check nothing
    ∷ []

-- a difference fits exactly where it is negative if the first is less than the second, and only then
abbrev pub difference_items : (to a b nothing : ℕ) → List Item
difference_items to a b nothing =
    Plain (Op Slt other_check a b)
    ∷ Plain (Op Sub to a b)
    ∷ Plain (OpImm Slti check to (pos 0))
    ∷ BranchTo Bne other_check check nothing
    ∷ []

-- a product fits exactly where its high word has the low word's sign in each bit
abbrev pub product_items : (to a b nothing : ℕ) → List Item
product_items to a b nothing =
    Plain (Op Mulh check a b)
    ∷ Plain (Op Mul to a b)
    ∷ Plain (Shift Srai other_check to 63)
    ∷ BranchTo Bne other_check check nothing
    ∷ []

-- there is no quotient by 0, and the one other that doesn't fit is negative though both parts are
abbrev pub quotient_items : (to a b nothing : ℕ) → List Item
quotient_items to a b nothing =
    BranchTo Beq b 0 nothing
    ∷ Plain (OpImm Slti check a (pos 0))
    ∷ Plain (OpImm Slti other_check b (pos 0))
    ∷ Plain (Op And check check other_check)
    ∷ Plain (Op Div to a b)
    ∷ Plain (OpImm Slti other_check to (pos 0))
    ∷ Plain (Op And check check other_check)
    ∷ BranchTo Bne check 0 nothing
    ∷ []

-- there is no remainder by 0
abbrev pub remainder_items : (to a b nothing : ℕ) → List Item
remainder_items to a b nothing = BranchTo Beq b 0 nothing ∷ Plain (Op Rem to a b) ∷ []

-- a sum with a constant of 12 bits; `a` isn't `to`
abbrev pub addition_items : (to a : ℕ) → ℤ → (nothing : ℕ) → List Item
addition_items to a z nothing =
    Plain (OpImm Addi to a z) ∷ (if int_lt z (pos 0) then BranchTo Bge to a nothing else BranchTo Blt to a nothing) ∷ []

-- an operation on two values; of a sum's parts the one in the register behind `free` isn't where the sum goes
abbrev pub operation_items : Two → (to a b nothing : ℕ) → List Item
operation_items Sum to a b nothing = if nat_lt a b then sum_items to a b nothing else sum_items to b a nothing
operation_items Difference to a b nothing = difference_items to a b nothing
operation_items Product to a b nothing = product_items to a b nothing
operation_items Quotient to a b nothing = quotient_items to a b nothing
operation_items Remainder to a b nothing = remainder_items to a b nothing
operation_items Is to a b nothing = Plain (Op Sub to a b) ∷ Plain (OpImm Sltiu to to (pos 1)) ∷ []
operation_items Less to a b nothing = Plain (Op Slt to a b) ∷ []
operation_items BothOf to a b nothing = Plain (Op And to a b) ∷ []
operation_items EitherOf to a b nothing = Plain (Op Or to a b) ∷ []

-- an operation on one value: a negation is a difference from 0
abbrev pub one_items : One → (to a nothing : ℕ) → List Item
one_items Negation to a nothing = difference_items to 0 a nothing
one_items Not to a nothing = Plain (OpImm Xori to a (pos 1)) ∷ []

-- ---- constants of 12 bits

-- the constant, where it is one of 12 bits
abbrev pub small : ℤ → Option ℤ
small z = if has_bits 12 z then Some z else None

-- what an operation adds to its first operand, where the second is such a constant
abbrev pub second_constant : Two → ℤ → Option ℤ
second_constant Sum z = small z
second_constant Difference z = small (neg_ℤ z)
second_constant _ z = None

-- and to its second operand, where the first is
abbrev pub first_constant : Two → ℤ → Option ℤ
first_constant Sum z = small z
first_constant _ z = None

-- where the yielder is a number, what comes of it
abbrev pub of_literal : (ℤ → Option ℤ) → Yielder → Option ℤ
of_literal f (NumberLiteral z) = f z
of_literal f _ = None

-- the register of a value to which a constant is added
abbrev pub addend_for : (to : ℕ) → ℕ
addend_for to = if nat_eq to addend then other_addend else addend

-- ---- words of the frame

-- the word at an offset, in words, of the frame goes to a register
abbrev pub load_items : (to offset : ℕ) → List Inst
load_items to offset =
    if nat_lt offset 256 then Load Ld to frame_register (pos (8 * offset)) ∷ []
    else load_constant to (8 * offset) ++ (Op Add to to frame_register ∷ Load Ld to to (pos 0) ∷ [])

-- the word at an offset, where there is one
abbrev pub placed_items : Option ℕ → (to nothing : ℕ) → List Item
placed_items (Some offset) to nothing = map Plain (load_items to offset)
placed_items None to nothing = Jump nothing ∷ []

-- the word of what a cell holds, whose address is in `a`; where the cell is unset the code goes to a label
abbrev pub content_items : (to a nothing : ℕ) → List Item
content_items to a nothing =
    Plain (Load Ld check a (pos 0)) ∷ BranchTo Beq check 0 nothing ∷ Plain (Load Ld to a (pos 8)) ∷ []

-- the word in register 10 is stored at an offset, in words, of the frame
abbrev pub store_items : (offset : ℕ) → List Inst
store_items offset =
    if nat_lt offset 256 then Store Sd frame_register first_register (pos (8 * offset)) ∷ []
    else load_constant 11 (8 * offset) ++ (Op Add 11 11 frame_register ∷ Store Sd 11 first_register (pos 0) ∷ [])

-- ---- yielders

-- one operand is computed, and a constant is added
abbrev pub adding : (to : ℕ) → ℤ → (nothing : ℕ) → (operand : List Item) → List Item
adding to z nothing operand = operand ++ addition_items to (addend_for to) z nothing

-- the operation on two operands: a constant is added to one, or both are computed, first the one that comes first
abbrev pub either_adding : Option ℤ → Option ℤ → (to nothing : ℕ) → (first second both : List Item) → List Item
either_adding (Some z) _ to nothing first second both = adding to z nothing first
either_adding None (Some z) to nothing first second both = adding to z nothing second
either_adding None None to nothing first second both = both

-- two operands' values, each in a register from `free` on, and what follows, by the registers of the first and of the second
abbrev pub in_order :
    (second_first : Bool) → (free : ℕ) → (first first_behind second second_behind : List Item) → (last : ℕ → ℕ → List Item) → List Item
in_order true free first first_behind second second_behind last = second ++ (first_behind ++ last (free + 1) free)
in_order false free first first_behind second second_behind last = first ++ (second_behind ++ last free (free + 1))

-- the code that leaves a yielder's value in the register `to`
abbrev pub value_items : Places → (to free nothing : ℕ) → Yielder → List Item
value_items places to free nothing (NumberLiteral z) = map Plain (load_constant to (integer_word z))
value_items places to free nothing (TruthLiteral t) = map Plain (load_constant to (truth_word t))
value_items places to free nothing (Given s) = placed_items (only_offset places.given) to nothing
value_items places to free nothing (GivenAt s place) = placed_items (nth_offset places.given place) to nothing
value_items places to free nothing (BoundTo s t) = placed_items (slot_offset places.bound t) to nothing
value_items places to free nothing (StoredIn s y) = value_items places free free nothing y ++ content_items to free nothing
value_items places to free nothing (OnTwo f y1 y2) =
    either_adding (of_literal (second_constant f) y2) (of_literal (first_constant f) y1) to nothing
    (value_items places (addend_for to) free nothing y1)
    (value_items places (addend_for to) free nothing y2)
    (in_order (nat_lt (registers_needed y1) (registers_needed y2)) free
    (value_items places free free nothing y1) (value_items places (free + 1) (free + 1) nothing y1)
    (value_items places free free nothing y2) (value_items places (free + 1) (free + 1) nothing y2)
    (λ a b. operation_items f to a b nothing))
value_items places to free nothing (OnOne f y) = value_items places free free nothing y ++ one_items f to free nothing
value_items places to free nothing _ = []

-- the code that leaves the yielder's value at an offset of the frame
abbrev pub stored_items : Places → (offset nothing : ℕ) → Yielder → List Item
stored_items places offset nothing y = value_items places first_register first_register nothing y ++ map Plain (store_items offset)
