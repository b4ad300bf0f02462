-- Short pieces of code that generated code is made of.
use Rattle.std.specs.Prelude.{◌≡◌, ℕ, zero, suc, ◌+◌, ◌-◌, ◌*◌, ◌/◌, ◌%◌, ◌^◌, nat_lt, nat_le, if◌then◌else◌, List, [], ◌∷◌, ◌++◌, ℤ, pos, negsuc, IsTrue, map, take}
use Rattle.rv_code.specs.Table.{integer_of_bits}
use Rattle.rv_code.specs.Encode.{has_bits}
use Rattle.rv_code.specs.declared.instruction.Inst.{Inst}
use Rattle.rv_code.specs.declared.instruction.Inst.TheVariants.{OpImm, Shift, Load, Store, Upper, Ecall}
use Rattle.rv_code.specs.declared.instruction.LoadOp.TheVariants.{Ld}
use Rattle.rv_code.specs.declared.instruction.OpImmOp.TheVariants.{Addi}
use Rattle.rv_code.specs.declared.instruction.ShiftOp.TheVariants.{Slli}
use Rattle.rv_code.specs.declared.instruction.StoreOp.TheVariants.{Sd}
use Rattle.rv_code.specs.declared.instruction.UpperOp.TheVariants.{Lui}
use Rattle.rv_asm.specs.Assembly.{Listing}
use Rattle.rv_asm.specs.Conventions.{region_register}
use Rattle.rv_asm.specs.declared.item.Item.TheVariants.{Plain}

-- ---- a constant of 64 bits in a register

-- the low 12 bits as a signed immediate
abbrev pub low_part : ℕ → ℤ
low_part value = integer_of_bits 12 (value % 4096)

-- what stands above them, one more where the low part is negative
abbrev pub high_part : ℕ → ℕ
high_part value = (value + 2048) / 4096

-- a value by a first part of up to 28 bits, and so many parts of 12 bits behind it
abbrev pub load_parts : ℕ → ℕ → ℕ → List Inst
load_parts zero rd value = Upper Lui rd (pos (high_part value * 4096)) ∷ OpImm Addi rd rd (low_part value) ∷ []
load_parts (suc parts) rd value = load_parts parts rd (high_part value) ++ (Shift Slli rd rd 12 ∷ OpImm Addi rd rd (low_part value) ∷ [])

-- how many parts of 12 bits a value needs behind its first
abbrev pub parts_of : ℕ → ℕ
parts_of value = if nat_le value (2 ^ 28) then 0 else if nat_le value (2 ^ 40) then 1 else if nat_le value (2 ^ 52) then 2 else 3

-- a number below 2^64 in a register, in at most 8 instructions
abbrev pub load_constant : ℕ → ℕ → List Inst
load_constant rd value =
    if nat_lt value 2048 then OpImm Addi rd 0 (pos value) ∷ []
    else if nat_le (2 ^ 64 - 2048) value then OpImm Addi rd 0 (negsuc (2 ^ 64 - 1 - value)) ∷ []
    else load_parts (parts_of value) rd value

-- ---- words of the region

-- n words, from `from` words behind the address in one register to `to` words behind the address in another
abbrev pub copy_words : (n scratch source from target to : ℕ) → List Inst
copy_words zero scratch source from target to = []
copy_words (suc n) scratch source from target to =
    Load Ld scratch source (pos (8 * from)) ∷ Store Sd target scratch (pos (8 * to)) ∷ copy_words n scratch source (from + 1) target (to + 1)

-- ---- calls

-- the word in a register is sent as a message, by way of word `place` of the region
abbrev pub send_word : (register place : ℕ) → List Inst
send_word register place =
    Store Sd region_register register (pos (8 * place))
    ∷ OpImm Addi 11 region_register (pos (8 * place))
    ∷ OpImm Addi 12 0 (pos 8)
    ∷ OpImm Addi 17 0 (pos 64)
    ∷ OpImm Addi 10 0 (pos 1)
    ∷ Ecall
    ∷ []

-- an exit with a code below 256
abbrev pub exit_with : ℕ → List Inst
exit_with code = OpImm Addi 10 0 (pos code) ∷ OpImm Addi 17 0 (pos 93) ∷ Ecall ∷ []

-- ---- pieces that are emitted

-- an assembler's listing with a piece behind it
abbrev pub appended : Listing → List Inst → Listing
appended listing piece = record listing { items = listing.items ++ map Plain piece }

-- the new listing is the old one with a front of the piece behind it
abbrev pub AppendsFrontOf : List Inst → (old new : Listing) → Type 0
AppendsFrontOf piece old new = (count : ℕ) × (new ≡ appended old (take count piece))

-- an immediate of 12 bits
abbrev pub fits_immediate : ℤ → Type 0
fits_immediate z = IsTrue (has_bits 12 z)
