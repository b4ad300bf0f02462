-- The machine as compiled code sees it: instructions that stand at fixed places, and one region of words.
-- What compiled code never does is `Stuck` here, also where the machine of the instruction table goes on.
use Rattle.std.specs.Prelude.{◌≡◌, ℕ, zero, suc, ◌+◌, ◌-◌, ◌*◌, ◌/◌, ◌%◌, ◌^◌, ◌<◌, All, min, ◌&&◌, nat_eq, nat_lt, nat_le, if◌then◌else◌, List, [], ◌∷◌, ◌++◌, length, take, drop, replicate, Option, Some, None, slice_get, slice_index, slice_set}
use Rattle.rv_code.specs.Arithmetic.{wrap, unsigned, operation, immediate_operation, shift_operation, upper_value, is_taken}
use Rattle.rv_code.specs.Bytes.{number_of, bytes_of, put_at}
use Rattle.rv_code.specs.Machine.{State}
use Rattle.rv_code.specs.declared.instruction.Inst.{Inst}
use Rattle.rv_code.specs.declared.instruction.Inst.TheVariants.{Op, OpImm, Shift, Load, Store, Branch, Upper, Jal, Jalr, Ecall}
use Rattle.rv_code.specs.declared.instruction.LoadOp.TheVariants.{Ld}
use Rattle.rv_code.specs.declared.instruction.StoreOp.TheVariants.{Sd}
use Rattle.rv_asm.specs.Conventions.{code_address, code_segment, region_segment}

-- a state: the address of the next instruction, the registers, the words of the region, input left and output in bytes
pub record WordState : Type 0 where
  pub pc : ℕ
  pub registers : ℕ → ℕ
  pub words : List ℕ
  pub input : List ℕ
  pub output : List ℕ

-- each value fits its width, and the region has `count` words
pub record IsBounded (count : ℕ) (c : WordState) : Type 0 where
  pub size : length c.words ≡ count
  pub registers : (k : ℕ) → c.registers k < 2 ^ 64
  pub words : All (λ w. w < 2 ^ 64) c.words
  pub input : All (λ b. b < 256) c.input

-- what a register reads as: register 0 reads as 0
abbrev pub get : (ℕ → ℕ) → ℕ → ℕ
get registers zero = 0
get registers (suc k) = registers (suc k)

-- the registers with one of them written: register 0 is not written
abbrev pub put : (ℕ → ℕ) → ℕ → ℕ → ℕ → ℕ
put registers zero value = registers
put registers (suc k) value = λ j. if nat_eq j (suc k) then value else registers j

-- what comes of instructions: a state, an exit with its code and the output, or nothing that is claimed
pub data WordStep : Type 0 where
  Goes : WordState → WordStep
  Exits : (code : ℕ) (output : List ℕ) → WordStep
  Stuck : WordStep

-- the instruction at an address
abbrev pub instruction_at : List Inst → ℕ → Option Inst
instruction_at code pc =
    if nat_eq (pc % 4) 0 && nat_le code_address pc then slice_get code ((pc - code_address) / 4) else None

-- which word of a region of `count` words at `base` stands at an address
unfoldable pub word_index : ℕ → ℕ → ℕ → Option ℕ
word_index base count address =
    if nat_eq (address % 8) 0 && nat_le base address && nat_lt address (base + 8 * count) then Some ((address - base) / 8) else None

-- a register is set, and the next instruction follows
abbrev pub sets : WordState → ℕ → ℕ → WordStep
sets c rd value = Goes (record c { pc = c.pc + 4; registers = put c.registers rd value })

-- a jump that leaves the address behind it in a register
abbrev pub jumps : WordState → ℕ → ℕ → WordStep
jumps c rd target =
    if nat_eq (target % 4) 0 then Goes (record c { pc = target; registers = put c.registers rd (c.pc + 4) }) else Stuck

-- a word is loaded into a register
abbrev pub loads : WordState → ℕ → Option ℕ → WordStep
loads c rd None = Stuck
loads c rd (Some i) = sets c rd (slice_index c.words i)

-- a word is stored
abbrev pub stores : WordState → ℕ → Option ℕ → WordStep
stores c value None = Stuck
stores c value (Some i) = Goes (record c { pc = c.pc + 4; words = slice_set c.words i value })

-- the bytes of one word are appended to the output
abbrev pub sends : WordState → Option ℕ → WordStep
sends c None = Stuck
sends c (Some i) =
    Goes (record c { pc = c.pc + 4; registers = put c.registers 10 8; output = c.output ++ bytes_of 8 (slice_index c.words i) })

-- the word with up to eight bytes of the input in place of its lowest
abbrev pub received_word : ℕ → List ℕ → ℕ
received_word old input = number_of (put_at (bytes_of 8 old) 0 (take (min 8 (length input)) input))

-- up to eight bytes of the input are received into one word
abbrev pub receives : WordState → Option ℕ → WordStep
receives c None = Stuck
receives c (Some i) =
    let count = min 8 (length c.input) in
    Goes (record c { pc = c.pc + 4; registers = put c.registers 10 count; words = slice_set c.words i (received_word (slice_index c.words i) c.input); input = drop count c.input })

-- a call by its number: 93 exits, 64 sends one word, 63 receives one
abbrev pub calls : ℕ → WordState → ℕ → WordStep
calls base c number =
    if nat_eq number 93 then Exits (c.registers 10 % 256) c.output
    else if nat_eq number 64 && nat_eq (c.registers 10) 1 && nat_eq (c.registers 12) 8 then sends c (word_index base (length c.words) (c.registers 11))
    else if nat_eq number 63 && nat_eq (c.registers 10) 0 && nat_eq (c.registers 12) 8 then receives c (word_index base (length c.words) (c.registers 11))
    else Stuck

-- what one instruction does
abbrev pub act : ℕ → Inst → WordState → WordStep
act base (Op o rd a b) c = sets c rd (operation o (get c.registers a) (get c.registers b))
act base (OpImm o rd a z) c = sets c rd (immediate_operation o (get c.registers a) z)
act base (Shift o rd a k) c = sets c rd (shift_operation o (get c.registers a) k)
act base (Load Ld rd a z) c = loads c rd (word_index base (length c.words) (wrap (get c.registers a + unsigned z)))
act base (Store Sd a b z) c = stores c (get c.registers b) (word_index base (length c.words) (wrap (get c.registers a + unsigned z)))
act base (Branch o a b z) c = if is_taken o (get c.registers a) (get c.registers b) then jumps c 0 (wrap (c.pc + unsigned z)) else Goes (record c { pc = c.pc + 4 })
act base (Upper o rd z) c = sets c rd (upper_value o c.pc z)
act base (Jal rd z) c = jumps c rd (wrap (c.pc + unsigned z))
act base (Jalr rd a z) c = let target = wrap (get c.registers a + unsigned z) in jumps c rd (target - target % 2)
act base Ecall c = calls base c (c.registers 17)
act base _ c = Stuck

-- one instruction, if there is one
abbrev pub act_at : ℕ → Option Inst → WordState → WordStep
act_at base None c = Stuck
act_at base (Some i) c = act base i c

-- goes on from a state, if there is one
abbrev pub go_on : WordStep → (WordState → WordStep) → WordStep
go_on (Goes c) next = next c
go_on (Exits code output) next = Exits code output
go_on Stuck next = Stuck

-- so many instructions; after an exit it stays so
abbrev pub run_words : ℕ → List Inst → ℕ → WordState → WordStep
run_words base code zero c = Goes c
run_words base code (suc n) c = go_on (act_at base (instruction_at code c.pc) c) (run_words base code n)

-- the instructions stand in the code from this address on
abbrev pub Has : List Inst → ℕ → List Inst → Type 0
Has code pc [] = Unit {0}
Has code pc (i ∷ is) = (instruction_at code pc ≡ Some i) × Has code (pc + 4) is

-- the bytes of words, one after another
unfoldable pub word_bytes : List ℕ → List ℕ
word_bytes [] = []
word_bytes (w ∷ ws) = bytes_of 8 w ++ word_bytes ws

-- so many registers from a number on, as a list
abbrev pub registers_from : ℕ → ℕ → (ℕ → ℕ) → List ℕ
registers_from zero first registers = []
registers_from (suc n) first registers = registers first ∷ registers_from n (suc first) registers

-- the 32 registers as a list
unfoldable pub register_list : (ℕ → ℕ) → List ℕ
register_list registers = registers_from 32 0 registers

-- the state of the machine of the table that this state of words stands for
abbrev pub machine_state : ℕ → List Inst → WordState → State
machine_state base code c = record {
  pc = c.pc;
  registers = register_list c.registers;
  segments = code_segment code ∷ region_segment base (word_bytes c.words) ∷ [];
  input = c.input;
  output = c.output;
}

-- the state at the start of a run with a region of `count` words: all zero
abbrev pub start_state : ℕ → List ℕ → WordState
start_state count input = record { pc = code_address; registers = λ k. 0; words = replicate count 0; input = input; output = [] }
