-- Memory as the machine keeps it: sizes of numbers, and instructions that are decoded once.
use Rattle.std.specs.Prelude.{◌≡◌, ◌⊎◌, ℕ, ◌+◌, ◌*◌, ◌%◌, ◌^◌, ◌<◌, ◌≤◌, false, List, length, slice_index_or, Option, Some, None, IfSome, option_map}
use Rattle.rv_code.specs.Bytes.{number_of}
use Rattle.rv_code.specs.Machine.{Segment, has_flag, holder, empty_segment, read_bytes}
use Rattle.rv_code.specs.Table.{decode}
use Rattle.rv_code.specs.declared.instruction.Inst.{Inst}
use Rattle.rv_machine.specs.Effects.{AmountFits}

-- how many bytes a load reads or a store writes
abbrev pub IsSize : ℕ → Type 0
IsSize size = (size ≡ 8) ⊎ ((size ≡ 4) ⊎ ((size ≡ 2) ⊎ (size ≡ 1)))

-- so many bytes from an address on lie in one segment that can be read
pub record AreRead (segments : List Segment) (address size : ℕ) : Type 0 where
  pub bytes : List ℕ
  pub read : Some bytes ≡ read_bytes segments 4 address size
  pub whole : length bytes ≡ size

-- the instruction of the word at an address is this one, or the word has none; the segment of the word can't be written
pub record IsFixed (segments : List Segment) (address : ℕ) (entry : Option Inst) : Type 0 where
  pub place : ℕ
  pub at : holder segments 1 address 4 ≡ Some place
  pub kept : has_flag (slice_index_or segments place empty_segment).flags 2 ≡ false
  pub decodes : option_map (λ bytes. decode (number_of bytes)) (read_bytes segments 1 address 4) ≡ Some entry
  pub amount : IfSome entry AmountFits

-- the table has the instructions of the words from an address on, in segments that can't be written
pub record IsTable (segments : List Segment) (address : ℕ) (table : List (Option Inst)) : Type 0 where
  pub aligned : address % 4 ≡ 0
  pub low : address + 4 * length table ≤ 2 ^ 64
  pub rows : (k : ℕ) → k < length table → IsFixed segments (address + 4 * k) (slice_index_or table k None)
