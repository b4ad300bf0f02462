-- What stands at the front of the region and in the records of alternatives and traps, and how commitments, failures and escapes change it.
use Rattle.std.specs.Prelude.{◌≡◌, ℕ, zero, suc, ◌+◌, ◌*◌, ◌^◌, ◌<◌, ◌≤◌, List, length, slice_index, slice_set}
use Rattle.rv_asm.specs.Assembly.{address_of}

-- ---- the front of the region, by the numbers of its words

-- a message that is sent, or bytes that are received
abbrev pub message_word : ℕ
message_word = 0

-- the address of the record of the innermost open alternative, 0 where none is open
abbrev pub alternative_word : ℕ
alternative_word = 1

-- the address of the record of the innermost trap, 0 where there is none
abbrev pub trap_word : ℕ
trap_word = 2

-- 0 where no commitment was made since the innermost trap was opened
abbrev pub mark_word : ℕ
mark_word = 3

-- how many units are spent
abbrev pub spent_word : ℕ
spent_word = 4

-- the address of the end of the stack
abbrev pub stack_end_word : ℕ
stack_end_word = 5

-- the address of the first unit
abbrev pub first_unit_word : ℕ
first_unit_word = 6

-- the address of the end of the units
abbrev pub units_end_word : ℕ
units_end_word = 7

-- the heads of the chains of open alternatives and of traps, and the mark of a commitment
pub record Chains : Type 0 where
  pub alternative : ℕ
  pub trap : ℕ
  pub mark : ℕ

-- nothing is open
abbrev pub no_chains : Chains
no_chains = record { alternative = 0; trap = 0; mark = 0 }

-- the chains stand at the front
pub record HasChains (words : List ℕ) (chains : Chains) : Type 0 where
  pub alternative : slice_index words alternative_word ≡ chains.alternative
  pub trap : slice_index words trap_word ≡ chains.trap
  pub mark : slice_index words mark_word ≡ chains.mark

-- `spent` of `room` units are spent; the units stand from word `low` of the region on, behind the stack
pub record HasUnits (base low room spent : ℕ) (words : List ℕ) : Type 0 where
  pub counted : slice_index words spent_word ≡ spent
  pub first_at : slice_index words first_unit_word ≡ base + 8 * low
  pub end_at : slice_index words units_end_word ≡ base + 8 * (low + 2 * room)
  pub behind : 512 ≤ low
  pub inside : low + 2 * room ≤ length words
  pub within : spent ≤ room

-- the words of the region with the ends of the stack and of the units at its front
abbrev pub with_ends : (base stack units : ℕ) → List ℕ → List ℕ
with_ends base stack units words =
    slice_set (slice_set (slice_set words 5 (base + 8 * (512 + stack))) 6 (base + 8 * (512 + stack))) 7 (base + 8 * (512 + stack + 2 * units))

-- ---- records

-- the words of a record
abbrev pub record_words : ℕ
record_words = 8

-- The record at word k of the region is of an alternative or of a trap that was opened in the frame at word f: its first five
-- words are the alternative that was the innermost before, the address at which a failure or an escape goes on (behind `arm`
-- instructions), the trap and the mark from before, and the address of the frame.
pub record HasRecord (base k f : ℕ) (before : Chains) (arm : ℕ) (words : List ℕ) : Type 0 where
  pub alternative : slice_index words k ≡ before.alternative
  pub arm_at : slice_index words (k + 1) ≡ address_of arm
  pub trap : slice_index words (k + 2) ≡ before.trap
  pub mark : slice_index words (k + 3) ≡ before.mark
  pub frame : slice_index words (k + 4) ≡ base + 8 * f
  pub behind_front : 512 ≤ k
  pub inside : k + record_words ≤ length words
  pub near : arm < 2 ^ 28

-- the words with such a record
abbrev pub with_record : (base k f : ℕ) → Chains → (arm : ℕ) → List ℕ → List ℕ
with_record base k f before arm words =
    slice_set (slice_set (slice_set (slice_set (slice_set words k before.alternative) (k + 1) (address_of arm)) (k + 2) before.trap) (k + 3) before.mark) (k + 4) (base + 8 * f)

-- ---- what changes the chains

-- the words with other chains
abbrev pub with_chains : Chains → List ℕ → List ℕ
with_chains c words = slice_set (slice_set (slice_set words alternative_word c.alternative) trap_word c.trap) mark_word c.mark

-- a commitment: every open alternative is closed, and the mark is set
abbrev pub committed_words : List ℕ → List ℕ
committed_words words = slice_set (slice_set words alternative_word 0) mark_word 1

-- the record at word k is the innermost alternative
abbrev pub with_alternative : (base k : ℕ) → List ℕ → List ℕ
with_alternative base k words = slice_set words alternative_word (base + 8 * k)

-- the record at word k is the innermost trap, and no commitment was made since it was opened
abbrev pub with_trap : (base k : ℕ) → List ℕ → List ℕ
with_trap base k words = slice_set (slice_set words trap_word (base + 8 * k)) mark_word 0

-- the alternative that a trap's record keeps: it is open still where no commitment was made since
abbrev pub left_open : (mark alternative : ℕ) → ℕ
left_open zero alternative = alternative
left_open (suc m) alternative = 0

-- the mark outside a trap: a commitment within it is one outside
abbrev pub either_mark : (mark before : ℕ) → ℕ
either_mark zero before = before
either_mark (suc m) before = suc m

-- the chains outside a trap that found `before`, where within it a mark stands
abbrev pub escaped_chains : (mark : ℕ) → Chains → Chains
escaped_chains mark before = record { alternative = left_open mark before.alternative; trap = before.trap; mark = either_mark mark before.mark }

-- the alternative at word k is closed
abbrev pub without_alternative : (k : ℕ) → List ℕ → List ℕ
without_alternative k words = slice_set words alternative_word (slice_index words k)

-- the trap at word k is closed
abbrev pub without_trap : (k : ℕ) → List ℕ → List ℕ
without_trap k words =
    slice_set (slice_set words trap_word (slice_index words (k + 2))) mark_word (either_mark (slice_index words mark_word) (slice_index words (k + 3)))
