-- Where the region of a compiled program stands, and its words: those of the stack, and those of the units.
use Rattle.std.proofs.Common.{◌≡◌, ℕ, ◌+◌, ◌*◌, ◌%◌, ◌^◌, ◌<◌, ◌≤◌, true, List, length, Some, arith, All}
use Rattle.rv_code.specs.Encode.{is_encodable}
use Rattle.rv_code.specs.declared.instruction.Inst.{Inst}
use Rattle.rv_asm.specs.Conventions.{IsLayout, region_address, region_size, region_words, stack_address, unit_address}
use Rattle.rv_asm.specs.WordMachine.{word_index}
use Rattle.rv_asm.proofs.Places.{word_index-inside}

pub region_address-multiple : (code_size : ℕ) → region_address code_size % 4096 ≡ 0
region_address-multiple code_size = omega arith

pub region_address-behind : (code_size : ℕ) → 65536 + code_size ≤ region_address code_size
region_address-behind code_size = omega arith

-- it is the least of those
pub region_address-least : (code_size k : ℕ) → k % 4096 ≡ 0 → 65536 + code_size ≤ k → region_address code_size ≤ k
region_address-least code_size k e h = omega arith

pub region_words-size : (stack units : ℕ) → 8 * region_words stack units ≡ region_size stack units
region_words-size stack units = omega arith

-- encodable code and a region that ends below 2^32 are a layout
pub IsLayout-compiled :
    (code : List Inst) (stack units : ℕ) →
    All (λ i. is_encodable i ≡ true) code →
    region_address (4 * length code) + region_size stack units ≤ 2 ^ 32 →
    IsLayout (region_address (4 * length code)) code (region_words stack units)
IsLayout-compiled code stack units h below = record { encodable = h; aligned = omega arith; behind = omega arith; below = omega arith }

-- code below 2^30 bytes and a capacity in its ranges end below 2000000000
pub compiled-below :
    (code_size stack units : ℕ) →
    code_size < 1073741824 →
    stack ≤ 16777216 →
    units ≤ 4194304 →
    region_address code_size + region_size stack units < 2000000000
compiled-below code_size stack units c s u = omega arith

-- word i of the stack
pub word_index-stack :
    (base stack units i : ℕ) →
    base % 8 ≡ 0 →
    i < stack →
    word_index base (region_words stack units) (stack_address base + 8 * i) ≡ Some (512 + i)
word_index-stack base stack units i b h =
    word_index-inside base (region_words stack units) (stack_address base + 8 * i) (512 + i) b (omega arith) (omega arith)

-- the two words of a unit, number 0 and 1
pub word_index-unit :
    (base stack units unit half : ℕ) →
    base % 8 ≡ 0 →
    unit < units →
    half < 2 →
    word_index base (region_words stack units) (unit_address base stack unit + 8 * half) ≡ Some (512 + stack + 2 * unit + half)
word_index-unit base stack units unit half b h two =
    word_index-inside base (region_words stack units) (unit_address base stack unit + 8 * half) (512 + stack + 2 * unit + half) b (omega arith) (omega arith)
