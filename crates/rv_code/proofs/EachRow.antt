-- What holds of the rows of each kind of instruction holds of every row of the table.
use Rattle.std.proofs.Common.{List, ◌++◌, map, get_or}
use Rattle.std.specs.List.{All}
use Rattle.std.proofs.lemmas.List.Elements.{All-append, All-map, All-from_recursion}
use Rattle.rv_code.specs.declared.instruction.Inst.TheVariants.{Ecall, Ebreak}
use Rattle.rv_code.specs.declared.instruction.OpOp.{OpOp}
use Rattle.rv_code.specs.declared.instruction.OpImmOp.{OpImmOp}
use Rattle.rv_code.specs.declared.instruction.ShiftOp.{ShiftOp}
use Rattle.rv_code.specs.declared.instruction.LoadOp.{LoadOp}
use Rattle.rv_code.specs.declared.instruction.StoreOp.{StoreOp}
use Rattle.rv_code.specs.declared.instruction.BranchOp.{BranchOp}
use Rattle.rv_code.specs.declared.instruction.UpperOp.{UpperOp}
use Rattle.rv_code.specs.Table.{Row, op_row, op_imm_row, shift_row, load_row, store_row, branch_row, upper_row, jal_row, jalr_row, fence_row, word_row, ecall_word, ebreak_word, every_upper, every_branch, every_load, every_store, every_op_imm, every_shift, every_op, single_rows, table}

-- a property of the rows of each kind
pub record OfEachKind (P : Row → Type 0) : Type 0 where
  pub upper : (op : UpperOp) → P (upper_row op)
  pub branch : (op : BranchOp) → P (branch_row op)
  pub load : (op : LoadOp) → P (load_row op)
  pub store : (op : StoreOp) → P (store_row op)
  pub op_imm : (op : OpImmOp) → P (op_imm_row op)
  pub shift : (op : ShiftOp) → P (shift_row op)
  pub op : (op : OpOp) → P (op_row op)
  pub jal : P jal_row
  pub jalr : P jalr_row
  pub fence : P fence_row
  pub ecall : P (word_row ecall_word Ecall)
  pub ebreak : P (word_row ebreak_word Ebreak)

-- the same of a list of rows; a record, so that the list is known from it
record OfEach (P : Row → Type 0) (rows : List Row) : Type 0 where
  each : All P rows

mapped : {P : Row → Type 0} {X : Type 0} (f : X → Row) (xs : List X) → ((x : X) → P (f x)) → OfEach P (map f xs)
mapped {P} f xs h = record { each = All-map P f xs (λ k d l. h (get_or xs k d)) }

together : {P : Row → Type 0} {xs ys : List Row} → OfEach P xs → OfEach P ys → OfEach P (xs ++ ys)
together {P} {xs} {ys} h k = record { each = All-append P xs ys h.each k.each }

pub every-row : (P : Row → Type 0) → OfEachKind P → All P table
unfolding table
every-row P k =
    let upper : OfEach P (map upper_row every_upper) = mapped upper_row every_upper k.upper in
    let branch : OfEach P (map branch_row every_branch) = mapped branch_row every_branch k.branch in
    let load : OfEach P (map load_row every_load) = mapped load_row every_load k.load in
    let store : OfEach P (map store_row every_store) = mapped store_row every_store k.store in
    let op_imm : OfEach P (map op_imm_row every_op_imm) = mapped op_imm_row every_op_imm k.op_imm in
    let shift : OfEach P (map shift_row every_shift) = mapped shift_row every_shift k.shift in
    let op : OfEach P (map op_row every_op) = mapped op_row every_op k.op in
    let single : OfEach P single_rows = record { each = All-from_recursion P single_rows (k.jal, (k.jalr, (k.fence, (k.ecall, (k.ebreak, tt))))) } in
    (together (together (together (together (together (together (together upper branch) load) store) op_imm) shift) op) single).each
