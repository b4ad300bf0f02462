-- The conventions of compiled code: its registers, the words of data, and where code and region stand.
use Rattle.std.specs.Prelude.{◌≡◌, ℕ, ◌+◌, ◌*◌, ◌/◌, ◌%◌, ◌^◌, ◌≤◌, Bool, true, All, List, [], ◌∷◌, ◌++◌, ℤ, length, replicate}
use Rattle.rv_code.specs.Arithmetic.{unsigned, truth}
use Rattle.rv_code.specs.Bytes.{bytes_of}
use Rattle.rv_code.specs.Encode.{is_encodable, word_of}
use Rattle.rv_code.specs.Machine.{Segment}
use Rattle.rv_code.specs.declared.instruction.Inst.{Inst}

-- the register that holds the address of the frame
abbrev pub frame_register : ℕ
frame_register = 2

-- the register that holds the address of the region
abbrev pub region_register : ℕ
region_register = 3

-- the word of an integer: 64 bits of two's complement
abbrev pub integer_word : ℤ → ℕ
integer_word z = unsigned z

-- the word of a truth value: 1 for true, 0 for false
abbrev pub truth_word : Bool → ℕ
truth_word b = truth b

-- the address at which the code stands and a run begins
abbrev pub code_address : ℕ
code_address = 65536

-- the bytes at the front of the region that the entries of the prelude use
abbrev pub prelude_size : ℕ
prelude_size = 4096

-- the bytes of a word
abbrev pub word_size : ℕ
word_size = 8

-- the bytes of a unit, which is two words
abbrev pub unit_size : ℕ
unit_size = 16

-- the bytes of the region for a stack of so many words and so many units
abbrev pub region_size : ℕ → ℕ → ℕ
region_size stack units = prelude_size + word_size * stack + unit_size * units

-- the words of the region
abbrev pub region_words : ℕ → ℕ → ℕ
region_words stack units = 512 + stack + 2 * units

-- the address of the region behind so many bytes of code: the least multiple of 4096 not below their end
abbrev pub region_address : ℕ → ℕ
region_address code_size = (code_address + code_size + 4095) / 4096 * 4096

-- the address of the first word of the stack, in the region at `base`
abbrev pub stack_address : ℕ → ℕ
stack_address base = base + prelude_size

-- the address of the unit with this number, from 0; it is the word of the cell or the closure whose first unit that is
abbrev pub unit_address : ℕ → ℕ → ℕ → ℕ
unit_address base stack unit = base + prelude_size + word_size * stack + unit_size * unit

-- the bytes of code: the encodings, each as 4 bytes
unfoldable pub code_bytes : List Inst → List ℕ
code_bytes [] = []
code_bytes (i ∷ is) = bytes_of 4 (word_of i) ++ code_bytes is

-- the bytes of instructions by their words, each as 4 bytes
unfoldable pub instruction_bytes : List ℕ → List ℕ
instruction_bytes [] = []
instruction_bytes (w ∷ ws) = bytes_of 4 w ++ instruction_bytes ws

-- a layout of code and a region of `count` words at `base`, which can stand in one image: each instruction encodes, and the
-- region is aligned, behind the code, and below 2^32
pub record IsLayout (base : ℕ) (code : List Inst) (count : ℕ) : Type 0 where
  pub encodable : All (λ i. is_encodable i ≡ true) code
  pub aligned : base % 8 ≡ 0
  pub behind : code_address + 4 * length code ≤ base
  pub below : base + 8 * count ≤ 2 ^ 32

-- the segment of the code, which can be fetched and not read
abbrev pub code_segment : List Inst → Segment
code_segment code = record { address = code_address; flags = 1; bytes = code_bytes code }

-- the segment of the region, which can be read and written and not fetched
abbrev pub region_segment : ℕ → List ℕ → Segment
region_segment base bytes = record { address = base; flags = 6; bytes = bytes }

-- the segments of a compiled program at the start of a run
abbrev pub compiled_segments : List Inst → ℕ → ℕ → List Segment
compiled_segments code stack units =
    code_segment code ∷ region_segment (region_address (4 * length code)) (replicate (region_size stack units) 0) ∷ []

-- the same by the words of the code's instructions
abbrev pub program_segments : List ℕ → ℕ → ℕ → List Segment
program_segments words stack units =
    record { address = code_address; flags = 1; bytes = instruction_bytes words }
    ∷ region_segment (region_address (4 * length words)) (replicate (region_size stack units) 0)
    ∷ []
