-- The items of the code of nodes that allocate cells, store data in them, and receive integers.
use Rattle.std.specs.Prelude.{ℕ, nat_lt, List, [], ◌∷◌, ◌++◌, map, pos}
use Rattle.rv_code.specs.declared.instruction.Inst.{Inst}
use Rattle.rv_code.specs.declared.instruction.Inst.TheVariants.{OpImm, Store}
use Rattle.rv_code.specs.declared.instruction.OpImmOp.TheVariants.{Addi}
use Rattle.rv_code.specs.declared.instruction.StoreOp.TheVariants.{Sd}
use Rattle.rv_asm.specs.declared.item.Item.{Item}
use Rattle.rv_asm.specs.declared.item.Item.TheVariants.{Plain, Mark, Jump, Address}
use Rattle.action_terms.specs.Actions.{Yielder}
use Rattle.rv_prelude.specs.Pieces.{commit}
use Rattle.rv_yield.specs.Registers.{registers_needed, first_register}
use Rattle.rv_yield.specs.YielderCode.{in_order, store_items, value_items}
use Rattle.rv_codegen.specs.GivenItems.{alone}
use Rattle.rv_codegen.specs.NodeLabels.{fail_label, stop_of, joint_of}

-- ---- a word from an entry

-- the word in register 10 is left at the first of these offsets of the frame; where there are none, it isn't kept
abbrev pub kept_items : (out : List ℕ) → List Inst
kept_items [] = []
kept_items (o ∷ out) = store_items o

-- calls an entry that returns with a word in register 10, and leaves this word where node k leaves its datum
abbrev pub fetches : (entry : ℕ) → (out : List ℕ) → (k : ℕ) → List Item
fetches entry out k =
    (Address 1 (stop_of k) ∷ Jump entry ∷ Mark (stop_of k) ∷ map Plain (kept_items out)) ++ Mark (joint_of k) ∷ []

-- ---- a datum stored in a cell

-- the unit of the cell whose address is in one register is set: its first word is 1, and the next is the word in the other register
abbrev pub put_word : (value cell : ℕ) → List Inst
put_word value cell = OpImm Addi 5 0 (pos 1) ∷ Store Sd cell 5 (pos 0) ∷ Store Sd cell value (pos 8) ∷ []

-- the datum and the cell are evaluated, the one that needs more registers first, then the unit is set, and every open alternative is closed
abbrev pub puts : (given : List ℕ) → (datum cell : Yielder) → List Item
puts given datum cell =
    in_order (nat_lt (registers_needed datum) (registers_needed cell)) first_register
    (value_items (alone given) 10 10 fail_label datum) (value_items (alone given) 11 11 fail_label datum)
    (value_items (alone given) 10 10 fail_label cell) (value_items (alone given) 11 11 fail_label cell)
    (λ a b. map Plain (put_word a b ++ commit))

-- the code of node k, which stores the datum of a yielder in the cell of another; where one of them yields nothing, this goes to the entry for failures
abbrev pub stores : (given : List ℕ) → (k : ℕ) → (datum cell : Yielder) → List Item
stores given k datum cell = puts given datum cell ++ Mark (stop_of k) ∷ []
