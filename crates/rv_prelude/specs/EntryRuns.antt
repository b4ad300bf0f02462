-- What the machine does at the entries, in any code that begins with the prelude.
use Rattle.std.specs.Prelude.{◌≡◌, ℕ, ◌+◌, ◌*◌, ◌%◌, ◌^◌, ◌<◌, ◌≤◌, List, [], ◌++◌, length, take, drop, replicate, slice_index, slice_set}
use Rattle.rv_code.specs.Bytes.{number_of, bytes_of}
use Rattle.rv_code.specs.declared.instruction.Inst.{Inst}
use Rattle.rv_asm.specs.Arrivals.{LabelsStand}
use Rattle.rv_asm.specs.Assembly.{Listing, total, spot, address_of, code_of}
use Rattle.rv_asm.specs.Conventions.{code_address, region_address, region_words, stack_address, region_register, frame_register}
use Rattle.rv_asm.specs.PieceRuns.{ExitsAt}
use Rattle.rv_asm.specs.WordMachine.{WordState, received_word}
use Rattle.rv_asm.specs.declared.item.Item.{Item}
use Rattle.rv_prelude.specs.PieceRuns.{Arrival, Arrives, Comes, HasRegion, quietly}
use Rattle.rv_prelude.specs.Region.{Chains, HasRecord, HasUnits, committed_words, with_chains, with_ends, escaped_chains}

-- this holds of all items, whatever was emitted behind the prelude
abbrev pub Whatever : Listing → (List Item → Type 0) → Type 0
Whatever prelude Holds = (behind : List Item) → LabelsStand (prelude.items ++ behind) → total (prelude.items ++ behind) < 2 ^ 28 → Holds (prelude.items ++ behind)

-- the address of a label
abbrev pub label_address : List Item → (label : ℕ) → ℕ
label_address items label = address_of (spot items label)

-- the machine stands at an entry
pub record IsAt (items : List Item) (label base : ℕ) (c : WordState) : Type 0 where
  pub here : c.pc ≡ label_address items label
  pub region : HasRegion base c

-- register 1 has the address of an instruction to which an entry returns
pub record Returns (back : ℕ) (c : WordState) : Type 0 where
  pub is : c.registers 1 ≡ back
  pub aligned : back % 4 ≡ 0
  pub below : back < 2 ^ 64

-- ---- the start

-- the first instruction of the code, in a region for the capacity that stands behind the code and is all zero
pub record IsStarted (items : List Item) (code_end stack units base : ℕ) (c : WordState) : Type 0 where
  pub here : c.pc ≡ code_address
  pub base_is : base ≡ region_address (4 * spot items code_end)
  pub below : base + 8 * length c.words ≤ 2 ^ 32
  pub words : c.words ≡ replicate (region_words stack units) 0

-- Within 64 instructions the machine arrives at `start`. Register 3 has the address of the region, and register 2 that of the
-- stack's first word. The ends of stack and units stand at the front, all other words are 0, so nothing is open and no unit is
-- spent, and nothing was received or sent.
abbrev pub Starts : (start code_end stack units : ℕ) → List Item → Type 0
Starts start code_end stack units items =
    (base : ℕ) (c : WordState) → IsStarted items code_end stack units base c →
    (a : Arrives base (code_of items) 64 c (quietly c (label_address items start) (with_ends base stack units c.words)))
    × (a.end.registers region_register ≡ base) × (a.end.registers frame_register ≡ stack_address base)

-- ---- ends of the run

-- three instructions exit with a code
abbrev pub Ends : (label exit : ℕ) → List Item → Type 0
Ends label exit items = (base : ℕ) (c : WordState) → c.pc ≡ label_address items label → ExitsAt base (code_of items) 3 c exit

-- ---- failures and escapes

-- at most so many instructions lead to what a record keeps: register 2 has the address of the frame in which it was opened,
-- register 3 is as before, and so is register 10
abbrev pub Resumes : (base : ℕ) → List Inst → (limit f : ℕ) → WordState → Arrival → Type 0
Resumes base code limit f c to =
    (a : Arrives base code limit c to) × (a.end.registers frame_register ≡ base + 8 * f) × (a.end.registers region_register ≡ c.registers region_register) × (a.end.registers 10 ≡ c.registers 10)

-- a failure goes to the innermost alternative, in whichever frame that was opened, with the chains from before it
abbrev pub FailsToRecord : (fail : ℕ) → List Item → Type 0
FailsToRecord fail items =
    (base k f arm : ℕ) (before : Chains) (c : WordState) → IsAt items fail base c → HasRecord base k f before arm c.words → slice_index c.words 1 ≡ base + 8 * k →
    Resumes base (code_of items) 11 f c (quietly c (address_of arm) (with_chains before c.words))

-- where none is open, it goes to the end for failures
abbrev pub FailsOut : (fail failed : ℕ) → List Item → Type 0
FailsOut fail failed items =
    (base : ℕ) (c : WordState) → IsAt items fail base c → slice_index c.words 1 ≡ 0 →
    Comes base (code_of items) 4 c (quietly c (label_address items failed) c.words)

-- An escape goes to the innermost trap, in whichever frame that was opened. The alternatives that were open before it are open
-- still where no commitment was made within it. Register 10 has the address of the data, which the handler finds there.
abbrev pub EscapesToRecord : (escape : ℕ) → List Item → Type 0
EscapesToRecord escape items =
    (base k f arm mark : ℕ) (before : Chains) (c : WordState) → IsAt items escape base c → HasRecord base k f before arm c.words → slice_index c.words 2 ≡ base + 8 * k → slice_index c.words 3 ≡ mark →
    Resumes base (code_of items) 14 f c (quietly c (address_of arm) (with_chains (escaped_chains mark before) c.words))

-- where there is none, it goes to the end for escapes
abbrev pub EscapesOut : (escape escaped : ℕ) → List Item → Type 0
EscapesOut escape escaped items =
    (base : ℕ) (c : WordState) → IsAt items escape base c → slice_index c.words 2 ≡ 0 →
    Comes base (code_of items) 4 c (quietly c (label_address items escaped) c.words)

-- ---- entries that return

-- every open alternative is closed
abbrev pub CommitsBack : (commit : ℕ) → List Item → Type 0
CommitsBack commit items =
    (base back : ℕ) (c : WordState) → IsAt items commit base c → Returns back c →
    Comes base (code_of items) 4 c (quietly c back (committed_words c.words))

-- the 8 bytes of register 10 are sent, and every open alternative is closed
abbrev pub SendsBack : (send : ℕ) → List Item → Type 0
SendsBack send items =
    (base back : ℕ) (c : WordState) → IsAt items send base c → Returns back c →
    Comes base (code_of items) 10 c
    (record { address = back; words = committed_words (slice_set c.words 0 (c.registers 10)); input = c.input; output = c.output ++ bytes_of 8 (c.registers 10) })

-- the next 8 bytes of the input are taken, their word is in register 10, and every open alternative is closed
abbrev pub ReceivesBack : (receive : ℕ) → List Item → Type 0
ReceivesBack receive items =
    (base back : ℕ) (c : WordState) → IsAt items receive base c → Returns back c → 8 ≤ length c.input →
    (a : Comes base (code_of items) 12 c
    (record { address = back; words = committed_words (slice_set c.words 0 (number_of (take 8 c.input))); input = drop 8 c.input; output = c.output }))
    × (a.0.end.registers 10 ≡ number_of (take 8 c.input))

-- where fewer are left, no integer is, and it goes to `fail`: the rest is taken, and stands in the first word of the region
abbrev pub ReceivesNone : (receive fail : ℕ) → List Item → Type 0
ReceivesNone receive fail items =
    (base : ℕ) (c : WordState) → IsAt items receive base c → length c.input < 8 →
    Comes base (code_of items) 9 c
    (record { address = label_address items fail; words = slice_set c.words 0 (received_word (slice_index c.words 0) c.input); input = []; output = c.output })

-- a unit is taken, and its first word is 0: a cell without contents, whose address is in register 10. Every open alternative is closed
abbrev pub AllocatesBack : (allocate : ℕ) → List Item → Type 0
AllocatesBack allocate items =
    (base back low room spent : ℕ) (c : WordState) → IsAt items allocate base c → Returns back c → HasUnits base low room spent c.words → spent < room →
    (a : Comes base (code_of items) 15 c
    (quietly c back (committed_words (slice_set (slice_set c.words 4 (spent + 1)) (low + 2 * spent) 0))))
    × (a.0.end.registers 10 ≡ base + 8 * (low + 2 * spent))

-- where all units are spent, it goes to `full` and nothing is changed
abbrev pub AllocatesNone : (allocate full : ℕ) → List Item → Type 0
AllocatesNone allocate full items =
    (base low room spent : ℕ) (c : WordState) → IsAt items allocate base c → HasUnits base low room spent c.words → room ≤ spent →
    Comes base (code_of items) 9 c (quietly c (label_address items full) c.words)
