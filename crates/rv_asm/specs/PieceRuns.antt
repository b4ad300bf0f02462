-- What the machine does at a piece of code that was appended, whatever is emitted behind it.
use Rattle.std.specs.Prelude.{◌≡◌, ◌≢◌, ℕ, ◌+◌, ◌*◌, ◌%◌, ◌^◌, ◌<◌, ◌≤◌, ◌⊎◌, List, ◌++◌, length, slice_index, slice_set}
use Rattle.rv_code.specs.Bytes.{bytes_of}
use Rattle.rv_code.specs.Machine.{run, Ran, Exited}
use Rattle.rv_code.specs.declared.instruction.Inst.{Inst}
use Rattle.rv_asm.specs.declared.item.Item.{Item}
use Rattle.rv_asm.specs.Assembly.{Listing, total, address_of, code_of}
use Rattle.rv_asm.specs.Conventions.{IsLayout, region_register}
use Rattle.rv_asm.specs.WordMachine.{WordState, Goes, Exits, IsBounded, get, put, run_words, machine_state}

-- so many instructions of the code lead from one state to another, where the region begins at `base`: on the machine of
-- words, and on the machine of the table where the code stands in a layout with a region of `count` words
pub record LeadsAt (base : ℕ) (code : List Inst) (instructions : ℕ) (from to : WordState) : Type 0 where
  pub words : run_words base code instructions from ≡ Goes to
  pub table :
      (count : ℕ) → IsLayout base code count → IsBounded count from →
      run instructions (machine_state base code from) ≡ Ran (machine_state base code to)

-- so many instructions of the code lead from a state to an exit, in the same way
pub record ExitsAt (base : ℕ) (code : List Inst) (instructions : ℕ) (from : WordState) (exit : ℕ) : Type 0 where
  pub words : run_words base code instructions from ≡ Exits exit from.output
  pub table :
      (count : ℕ) → IsLayout base code count → IsBounded count from →
      run instructions (machine_state base code from) ≡ Exited exit from.output

-- the code of a listing, with what is emitted behind it
abbrev pub code_with : Listing → (behind : List Item) → List Inst
code_with listing behind = code_of (listing.items ++ behind)

-- the address behind what a listing has
abbrev pub end_of : Listing → ℕ
end_of listing = address_of (total listing.items)

-- the state before the first instruction of what is appended to a listing
abbrev pub IsBefore : Listing → WordState → Type 0
IsBefore old c = c.pc ≡ end_of old

-- ---- a constant

-- at most 8 instructions were appended: they put the value into the register, if it isn't register 0, and change nothing else
pub record LoadsConstant (rd value : ℕ) (old new : Listing) : Type 0 where
  pub instructions : ℕ
  pub few : instructions ≤ 8
  pub leads :
      (behind : List Item) (c : WordState) (base : ℕ) → IsBefore old c → rd ≢ 0 →
      LeadsAt base (code_with new behind) instructions c (record c { pc = end_of new; registers = put c.registers rd value })

-- ---- words of the region

-- n words from place a on stand from place b on, and all other words are as before
pub record IsCopied (n a b : ℕ) (old new : List ℕ) : Type 0 where
  pub size : length new ≡ length old
  pub moved : (k : ℕ) → k < n → slice_index new (b + k) ≡ slice_index old (a + k)
  pub kept : (j : ℕ) → (j < b) ⊎ (b + n ≤ j) → slice_index new j ≡ slice_index old j

-- two ranges of n words have none in common
abbrev pub AreDisjoint : ℕ → ℕ → ℕ → Type 0
AreDisjoint n a b = (a + n ≤ b) ⊎ (b + n ≤ a)

-- a piece that copies is ready to run: one register has the address of word i, the other that of word j, neither is the one
-- by which the words go, and both ranges are inside the region and apart
pub record CanCopy (base : ℕ) (n scratch source from target to i j : ℕ) (c : WordState) : Type 0 where
  pub aligned : base % 8 ≡ 0
  pub below : base + 8 * length c.words < 2 ^ 64
  pub some_register : 0 < scratch
  pub other_source : source ≢ scratch
  pub other_target : target ≢ scratch
  pub source_is : get c.registers source ≡ base + 8 * i
  pub target_is : get c.registers target ≡ base + 8 * j
  pub source_inside : i + from + n ≤ length c.words
  pub target_inside : j + to + n ≤ length c.words
  pub apart : AreDisjoint n (i + from) (j + to)

-- what is behind a copy: the words are copied, and the scratch register has changed at most
pub record HasCopied (n scratch a b : ℕ) (c d : WordState) : Type 0 where
  pub copied : IsCopied n a b c.words d.words
  pub others : (k : ℕ) → k ≢ scratch → d.registers k ≡ c.registers k
  pub input : d.input ≡ c.input
  pub output : d.output ≡ c.output

-- two instructions a word were appended, which copy n words
abbrev pub CopiesWords : (n scratch source from target to : ℕ) (old new : Listing) → Type 0
CopiesWords n scratch source from target to old new =
    (behind : List Item) (c : WordState) (base i j : ℕ) → IsBefore old c → CanCopy base n scratch source from target to i j c →
    (d : WordState) × (d.pc ≡ end_of new) × LeadsAt base (code_with new behind) (2 * n) c d × HasCopied n scratch (i + from) (j + to) c d

-- ---- messages

-- a piece that sends is ready to run: register 3 has the region's address, and the word that it uses is inside
pub record CanSend (base place : ℕ) (c : WordState) : Type 0 where
  pub aligned : base % 8 ≡ 0
  pub below : base + 8 * place < 2 ^ 64
  pub region : c.registers region_register ≡ base
  pub inside : place < length c.words

-- what is behind a send: the 8 bytes of the register's word were sent and nothing else, the word `place` of the region is
-- that word, and registers 10, 11, 12 and 17 have changed at most
pub record HasSent (register place : ℕ) (c d : WordState) : Type 0 where
  pub output : d.output ≡ c.output ++ bytes_of 8 (get c.registers register)
  pub words : d.words ≡ slice_set c.words place (get c.registers register)
  pub others : (k : ℕ) → k ≢ 10 → k ≢ 11 → k ≢ 12 → k ≢ 17 → d.registers k ≡ c.registers k
  pub input : d.input ≡ c.input

-- 6 instructions were appended, which send the word of the register
abbrev pub SendsWord : (register place : ℕ) (old new : Listing) → Type 0
SendsWord register place old new =
    (behind : List Item) (c : WordState) (base : ℕ) → IsBefore old c → CanSend base place c →
    (d : WordState) × (d.pc ≡ end_of new) × LeadsAt base (code_with new behind) 6 c d × HasSent register place c d

-- ---- exits

-- 3 instructions were appended, which exit with the code
abbrev pub ExitsWith : (exit : ℕ) (old new : Listing) → Type 0
ExitsWith exit old new =
    (behind : List Item) (c : WordState) (base : ℕ) → IsBefore old c → ExitsAt base (code_with new behind) 3 c exit
