-- Where assembled code leads: what the machine does at each jump, branch and address.
use Rattle.std.specs.Prelude.{◌≡◌, ◌≢◌, ℕ, ◌+◌, Bool, IsTrue, IsFalse, List, ◌∷◌, ◌++◌}
use Rattle.rv_code.specs.Arithmetic.{is_taken}
use Rattle.rv_code.specs.Machine.{run, Ran}
use Rattle.rv_code.specs.declared.instruction.BranchOp.{BranchOp}
use Rattle.rv_code.specs.declared.instruction.Inst.{Inst}
use Rattle.rv_asm.specs.declared.item.Item.{Item}
use Rattle.rv_asm.specs.declared.item.Item.TheVariants.{Mark, Jump, BranchTo, Address}
use Rattle.rv_asm.specs.Conventions.{IsLayout}
use Rattle.rv_asm.specs.WordMachine.{WordState, Goes, IsBounded, get, put, run_words, machine_state}
use Rattle.rv_asm.specs.Assembly.{total, spot, address_of, code_of}

-- so many instructions of the code lead from one state to another: on the machine of words, and on the machine of the
-- table where the code stands in a layout with a region of `count` words
pub record Leads (code : List Inst) (instructions : ℕ) (from to : WordState) : Type 0 where
  pub words : (base : ℕ) → run_words base code instructions from ≡ Goes to
  pub table :
      (base count : ℕ) → IsLayout base code count → IsBounded count from →
      run instructions (machine_state base code from) ≡ Ran (machine_state base code to)

-- an item was emitted, and it is the turn of its first instruction
pub record IsAt (items before : List Item) (item : Item) (behind : List Item) (c : WordState) : Type 0 where
  pub emitted : items ≡ before ++ (item ∷ behind)
  pub pc : c.pc ≡ address_of (total before)

-- the state at another instruction
abbrev pub moved : WordState → ℕ → WordState
moved c n = record c { pc = address_of n }

-- and with a register written
abbrev pub moved_with : WordState → (n register value : ℕ) → WordState
moved_with c n register value = record c { pc = address_of n; registers = put c.registers register value }

-- at the place of a label, with register 31 changed and nothing else
abbrev pub ArrivesAt : List Item → (instructions label : ℕ) → WordState → Type 0
ArrivesAt items instructions l c = (value : ℕ) × Leads (code_of items) instructions c (moved_with c (spot items l) 31 value)

-- whether a comparison of two registers holds
abbrev pub holds : BranchOp → (rs1 rs2 : ℕ) → WordState → Bool
holds op rs1 rs2 c = is_taken op (get c.registers rs1) (get c.registers rs2)

-- a label stands where it was placed
abbrev pub LabelsStand : List Item → Type 0
LabelsStand items =
    (before behind : List Item) (l : ℕ) → items ≡ before ++ (Mark l ∷ behind) → spot items l ≡ total before

-- a jump arrives at its label, by two instructions
abbrev pub JumpsArrive : List Item → Type 0
JumpsArrive items =
    (before behind : List Item) (l : ℕ) (c : WordState) → IsAt items before (Jump l) behind c → ArrivesAt items 2 l c

-- a branch whose comparison holds arrives at its label, by three instructions
abbrev pub TakenBranchesArrive : List Item → Type 0
TakenBranchesArrive items =
    (before behind : List Item) (op : BranchOp) (rs1 rs2 l : ℕ) (c : WordState) →
    IsAt items before (BranchTo op rs1 rs2 l) behind c → IsTrue (holds op rs1 rs2 c) → ArrivesAt items 3 l c

-- a branch whose comparison doesn't hold goes on behind itself, by one instruction, and changes nothing
abbrev pub OtherBranchesPass : List Item → Type 0
OtherBranchesPass items =
    (before behind : List Item) (op : BranchOp) (rs1 rs2 l : ℕ) (c : WordState) →
    IsAt items before (BranchTo op rs1 rs2 l) behind c → IsFalse (holds op rs1 rs2 c) →
    Leads (code_of items) 1 c (moved c (total before + 3))

-- the address of a label is in its register after two instructions, and nothing else has changed
abbrev pub AddressesLoad : List Item → Type 0
AddressesLoad items =
    (before behind : List Item) (rd l : ℕ) (c : WordState) →
    IsAt items before (Address rd l) behind c → rd ≢ 0 →
    Leads (code_of items) 2 c (moved_with c (total before + 2) rd (address_of (spot items l)))
