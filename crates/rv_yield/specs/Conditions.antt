-- The code of conditions, as items of the assembler: it goes on where a truth-value is the one that is wanted, to the label
-- `otherwise` where it is the other one, and to the label `nothing` where nothing is yielded.
use Rattle.std.specs.Prelude.{ℕ, ◌+◌, Bool, true, false, not, nat_lt, List, [], ◌∷◌, ◌++◌}
use Rattle.rv_code.specs.declared.instruction.BranchOp.{BranchOp}
use Rattle.rv_code.specs.declared.instruction.BranchOp.TheVariants.{Beq, Bne, Bge}
use Rattle.rv_asm.specs.Assembly.{opposite}
use Rattle.rv_asm.specs.declared.item.Item.{Item}
use Rattle.rv_asm.specs.declared.item.Item.TheVariants.{Jump, BranchTo}
use Rattle.action_terms.specs.Actions.{Is, Less, Not, Yielder, TruthLiteral, OnTwo, OnOne}
use Rattle.rv_yield.specs.Holding.{Places}
use Rattle.rv_yield.specs.Registers.{registers_needed, first_register}
use Rattle.rv_yield.specs.YielderCode.{value_items, in_order}

-- the comparison, where it is wanted, and its opposite where it isn't
abbrev pub turned : (wanted : Bool) → BranchOp → BranchOp
turned true op = op
turned false op = opposite op

-- a jump where a literal isn't the truth-value that is wanted
abbrev pub literal_condition : (wanted literal : Bool) → (otherwise : ℕ) → List Item
literal_condition true true otherwise = []
literal_condition false false otherwise = []
literal_condition _ _ otherwise = Jump otherwise ∷ []

-- the values of two operands, and a branch by their comparison
abbrev pub compared : Places → BranchOp → (otherwise nothing : ℕ) → (y1 y2 : Yielder) → List Item
compared places op otherwise nothing y1 y2 =
    in_order (nat_lt (registers_needed y1) (registers_needed y2)) first_register
    (value_items places first_register first_register nothing y1) (value_items places (first_register + 1) (first_register + 1) nothing y1)
    (value_items places first_register first_register nothing y2) (value_items places (first_register + 1) (first_register + 1) nothing y2)
    (λ a b. BranchTo op a b otherwise ∷ [])

-- the value of a yielder, and a branch where it isn't wanted
abbrev pub tested : Places → (wanted : Bool) → (otherwise nothing : ℕ) → Yielder → List Item
tested places wanted otherwise nothing y =
    value_items places first_register first_register nothing y ++ BranchTo (turned wanted Beq) first_register 0 otherwise ∷ []

-- the code that goes on where the yielder yields the truth-value that is wanted
abbrev pub condition_items : Places → (wanted : Bool) → (otherwise nothing : ℕ) → Yielder → List Item
condition_items places wanted otherwise nothing (TruthLiteral t) = literal_condition wanted t otherwise
condition_items places wanted otherwise nothing (OnOne Not y) = condition_items places (not wanted) otherwise nothing y
condition_items places wanted otherwise nothing (OnTwo Is y1 y2) = compared places (turned wanted Bne) otherwise nothing y1 y2
condition_items places wanted otherwise nothing (OnTwo Less y1 y2) = compared places (turned wanted Bge) otherwise nothing y1 y2
condition_items places wanted otherwise nothing y = tested places wanted otherwise nothing y
