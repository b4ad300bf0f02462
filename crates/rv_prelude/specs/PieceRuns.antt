-- What the machine does at the pieces that stand in the code of nodes, whatever is emitted behind them.
use Rattle.std.specs.Prelude.{◌≡◌, ◌≢◌, ℕ, ◌+◌, ◌*◌, ◌%◌, ◌^◌, ◌<◌, ◌≤◌, List, ◌++◌, length, slice_index, slice_set}
use Rattle.rv_code.specs.declared.instruction.Inst.{Inst}
use Rattle.rv_asm.specs.Assembly.{Listing, total, spot, address_of}
use Rattle.rv_asm.specs.Conventions.{region_register, frame_register}
use Rattle.rv_asm.specs.PieceRuns.{LeadsAt, code_with, end_of, IsBefore}
use Rattle.rv_asm.specs.WordMachine.{WordState}
use Rattle.rv_asm.specs.declared.item.Item.{Item}
use Rattle.rv_prelude.specs.Region.{Chains, HasChains, HasUnits, committed_words, with_record, with_alternative, with_trap, without_alternative, without_trap}

-- ---- what instructions lead to

-- the address at which the machine goes on, the words of the region, the input that is left, and the output
pub record Arrival : Type 0 where
  pub address : ℕ
  pub words : List ℕ
  pub input : List ℕ
  pub output : List ℕ

-- where nothing was received or sent
abbrev pub quietly : WordState → (address : ℕ) → (words : List ℕ) → Arrival
quietly c address words = record { address = address; words = words; input = c.input; output = c.output }

-- at least one instruction and at most so many lead there from a state
pub record Arrives (base : ℕ) (code : List Inst) (limit : ℕ) (c : WordState) (to : Arrival) : Type 0 where
  pub instructions : ℕ
  pub some : 0 < instructions
  pub few : instructions ≤ limit
  pub end : WordState
  pub leads : LeadsAt base code instructions c end
  pub at : end.pc ≡ to.address
  pub words : end.words ≡ to.words
  pub input : end.input ≡ to.input
  pub output : end.output ≡ to.output

-- registers 0 to 4 are as before, and so are the return address, the frame and the region
abbrev pub Keeps : (c d : WordState) → Type 0
Keeps c d = (k : ℕ) → k < 5 → d.registers k ≡ c.registers k

-- the same, with these registers as before
abbrev pub Comes : (base : ℕ) → List Inst → (limit : ℕ) → WordState → Arrival → Type 0
Comes base code limit c to = (a : Arrives base code limit c to) × Keeps c a.end

-- ---- what pieces find

-- the region begins at `base`, with its front, and register 3 has its address
pub record HasRegion (base : ℕ) (c : WordState) : Type 0 where
  pub aligned : base % 8 ≡ 0
  pub below : base + 8 * length c.words ≤ 2 ^ 32
  pub front : 512 ≤ length c.words
  pub region : c.registers region_register ≡ base

-- a frame begins at word f of it, and has a record at an offset
pub record HasPlace (base f keep : ℕ) (c : WordState) : Type 0 where
  pub region : HasRegion base c
  pub frame : c.registers frame_register ≡ base + 8 * f
  pub behind_front : 512 ≤ f + keep
  pub inside : f + keep + 8 ≤ length c.words

-- a piece was appended, and is ready to run
pub record IsNext (old new : Listing) (behind : List Item) (c : WordState) : Type 0 where
  pub before : IsBefore old c
  pub near : total (new.items ++ behind) < 2 ^ 28

-- a label among all that was emitted: how many instructions stand before it
abbrev pub place_in : Listing → (behind : List Item) → (label : ℕ) → ℕ
place_in listing behind label = spot (listing.items ++ behind) label

-- ---- what pieces do

-- three instructions were appended, which close every open alternative and set the mark
abbrev pub Commits : (old new : Listing) → Type 0
Commits old new =
    (behind : List Item) (base : ℕ) (c : WordState) → IsNext old new behind c → HasRegion base c →
    Comes base (code_with new behind) 3 c (quietly c (end_of new) (committed_words c.words))

-- the record of an alternative is opened at an offset of the frame, and keeps the chains
abbrev pub OpensAlternative : (keep arm : ℕ) → (old new : Listing) → Type 0
OpensAlternative keep arm old new =
    (behind : List Item) (base f : ℕ) (chains : Chains) (c : WordState) → IsNext old new behind c → HasPlace base f keep c → HasChains c.words chains →
    Comes base (code_with new behind) 20 c (quietly c (end_of new) (with_alternative base (f + keep) (with_record base (f + keep) f chains (place_in new behind arm) c.words)))

-- the record of a trap is opened at an offset of the frame, and keeps the chains
abbrev pub OpensTrap : (keep handler : ℕ) → (old new : Listing) → Type 0
OpensTrap keep handler old new =
    (behind : List Item) (base f : ℕ) (chains : Chains) (c : WordState) → IsNext old new behind c → HasPlace base f keep c → HasChains c.words chains →
    Comes base (code_with new behind) 21 c (quietly c (end_of new) (with_trap base (f + keep) (with_record base (f + keep) f chains (place_in new behind handler) c.words)))

-- the alternative at an offset of the frame is closed, where it is still the innermost
abbrev pub ClosesAlternative : (keep : ℕ) → (old new : Listing) → Type 0
ClosesAlternative keep old new =
    (behind : List Item) (base f : ℕ) (c : WordState) → IsNext old new behind c → HasPlace base f keep c → slice_index c.words 1 ≡ base + 8 * (f + keep) →
    Comes base (code_with new behind) 13 c (quietly c (end_of new) (without_alternative (f + keep) c.words))

-- where it isn't, since a commitment has closed it, nothing is changed
abbrev pub LeavesAlternative : (keep : ℕ) → (old new : Listing) → Type 0
LeavesAlternative keep old new =
    (behind : List Item) (base f : ℕ) (c : WordState) → IsNext old new behind c → HasPlace base f keep c → slice_index c.words 1 ≢ base + 8 * (f + keep) →
    Comes base (code_with new behind) 13 c (quietly c (end_of new) c.words)

-- the trap at an offset of the frame is closed
abbrev pub ClosesTrap : (keep : ℕ) → (old new : Listing) → Type 0
ClosesTrap keep old new =
    (behind : List Item) (base f : ℕ) (c : WordState) → IsNext old new behind c → HasPlace base f keep c →
    Comes base (code_with new behind) 15 c (quietly c (end_of new) (without_trap (f + keep) c.words))

-- n units are taken: they are counted, and register 8 has the address of the first
abbrev pub TakesUnits : (n : ℕ) → (old new : Listing) → Type 0
TakesUnits n old new =
    (behind : List Item) (base low room spent : ℕ) (c : WordState) → IsNext old new behind c → HasRegion base c → HasUnits base low room spent c.words → spent + n ≤ room →
    (a : Comes base (code_with new behind) 9 c (quietly c (end_of new) (slice_set c.words 4 (spent + n)))) × (a.0.end.registers 8 ≡ base + 8 * (low + 2 * spent))

-- where they would pass, the code goes to a label and nothing is changed
abbrev pub PassesUnits : (n full : ℕ) → (old new : Listing) → Type 0
PassesUnits n full old new =
    (behind : List Item) (base low room spent : ℕ) (c : WordState) → IsNext old new behind c → HasRegion base c → HasUnits base low room spent c.words → room < spent + n →
    Comes base (code_with new behind) 9 c (quietly c (address_of (place_in new behind full)) c.words)
