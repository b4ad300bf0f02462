-- What the machine does at the code of a yielder, whatever is emitted behind it: the one interface of this code to that of nodes.
use Rattle.std.specs.Prelude.{◌≡◌, ℕ, ◌+◌, ◌*◌, ◌%◌, ◌^◌, ◌<◌, ◌≤◌, true, false, All, List, ◌++◌, length, slice_get, slice_set, Option, Some, None}
use Rattle.rv_code.specs.declared.instruction.Inst.{Inst}
use Rattle.rv_asm.specs.Assembly.{Listing, total, spot, address_of}
use Rattle.rv_asm.specs.Conventions.{frame_register}
use Rattle.rv_asm.specs.DataWords.{Heap, StandsFor}
use Rattle.rv_asm.specs.PieceRuns.{LeadsAt, code_with, end_of, IsBefore}
use Rattle.rv_asm.specs.WordMachine.{WordState}
use Rattle.rv_asm.specs.declared.item.Item.{Item}
use Rattle.action_terms.specs.Information.{Datum, Truth, Binds, Data, Storage}
use Rattle.action_terms.specs.Bindings.{lookup}
use Rattle.action_terms.specs.Actions.{Yielder, BoundTo, StoredIn, OnTwo, OnOne}
use Rattle.action_terms.specs.Need.{yielder_count}
use Rattle.action_terms.specs.Suited.{IsSuited, IsOfSort}
use Rattle.action_terms.specs.Yielding.{yields}
use Rattle.action_terms.specs.declared.kinds.Sort.TheVariants as sort
use Rattle.rv_yield.specs.Holding.{Slot, Places, Holds, HoldsBinds, HoldsContent, slot_offset}
use Rattle.rv_yield.specs.Registers.{first_register}

-- the address of a label in all that was emitted
abbrev pub label_address : Listing → (behind : List Item) → (label : ℕ) → ℕ
label_address listing behind label = address_of (spot (listing.items ++ behind) label)

-- ---- what the code finds

-- a frame begins at word f of the region
pub record HasFrame (base f : ℕ) (c : WordState) : Type 0 where
  pub aligned : base % 8 ≡ 0
  pub below : base + 8 * length c.words ≤ 2 ^ 32
  pub frame : c.registers frame_register ≡ base + 8 * f

-- each cell has a unit of its own, whose two words are among those of the region
pub record HasCells (heap : Heap) (count : ℕ) : Type 0 where
  pub inside : (number place : ℕ) → slice_get heap.cells number ≡ Some place → place + 1 < count
  pub apart : (j k place : ℕ) → slice_get heap.cells j ≡ Some place → slice_get heap.cells k ≡ Some place → j ≡ k

-- the units are those of the cells of the storage, and their words stand for what the cells hold
pub record HoldsCells (base : ℕ) (heap : Heap) (words : List ℕ) (storage : Storage) : Type 0 where
  pub many : length heap.cells ≡ length storage
  pub content :
      (number place : ℕ) (o : Option Datum) → slice_get heap.cells number ≡ Some place → slice_get storage number ≡ Some o →
      HoldsContent base heap words place o

-- the words at these places of the frame stand for the data that are given and for what tokens are bound to, and the units for the cells
pub record Finds
    (base : ℕ) (heap : Heap) (places : Places) (f : ℕ) (c : WordState) (d : Data) (b : Binds) (storage : Storage) : Type 0
  where
    pub frame : HasFrame base f c
    pub inside : All (λ o. f + o < length c.words) places.given
    pub slots_inside : All (λ s. f + s.offset < length c.words) places.bound
    pub holds : Holds base heap c.words f places.given d
    pub binds : HoldsBinds base heap c.words f places.bound b
    pub cells : HasCells heap (length c.words)
    pub contents : HoldsCells base heap c.words storage

-- each token that the yielder names has a slot, where it is bound
abbrev pub HasSlots : List Slot → Yielder → Binds → Type 0
HasSlots slots (BoundTo s t) b = slot_offset slots t ≡ None → lookup t b ≡ None
HasSlots slots (StoredIn s y) b = HasSlots slots y b
HasSlots slots (OnTwo f y1 y2) b = HasSlots slots y1 b × HasSlots slots y2 b
HasSlots slots (OnOne f y) b = HasSlots slots y b
HasSlots slots _ b = Unit {0}

-- the code of a yielder, with what is emitted behind it, is ready to run: what it finds is of the sorts that it wants
pub record CanEvaluate
    (places : Places) (y : Yielder) (old new : Listing) (behind : List Item) (base f : ℕ) (heap : Heap) (d : Data) (b : Binds)
    (storage : Storage) (c : WordState) : Type 0
  where
    pub near : total (new.items ++ behind) < 2 ^ 28
    pub before : IsBefore old c
    pub finds : Finds base heap places f c d b storage
    pub slots : HasSlots places.bound y b
    pub suited : IsSuited y d b storage

-- ---- a value in a register

-- at most so many instructions lead from a state to an address. The registers below `first` are as before, and so are all
-- words of the region; nothing was read or sent
pub record Comes (base : ℕ) (code : List Inst) (limit first : ℕ) (c : WordState) (address : ℕ) : Type 0 where
  pub instructions : ℕ
  pub few : instructions ≤ limit
  pub end : WordState
  pub leads : LeadsAt base code instructions c end
  pub at : end.pc ≡ address
  pub others : (k : ℕ) → k < first → end.registers k ≡ c.registers k
  pub words : end.words ≡ c.words
  pub input : end.input ≡ c.input
  pub output : end.output ≡ c.output

-- behind the code the datum's word is in the register; where nothing is yielded, the code has gone to the other address
abbrev pub Evaluated : (base : ℕ) → Heap → (code : List Inst) → (limit register : ℕ) → WordState → (next nothing : ℕ) → Option Datum → Type 0
Evaluated base heap code limit register c next nothing (Some x) = (g : Comes base code limit register c next) × StandsFor base heap (g.end.registers register) x
Evaluated base heap code limit register c next nothing None = Comes base code limit register c nothing

-- the code that was appended evaluates the yielder with what it finds at places of the frame, by at most 12
-- instructions for each yielder in it
abbrev pub Evaluates : Places → (register nothing : ℕ) → Yielder → (old new : Listing) → Type 0
Evaluates places register nothing y old new =
    (behind : List Item) (c : WordState) (base f : ℕ) (heap : Heap) (d : Data) (b : Binds) (cells : Storage) →
    CanEvaluate places y old new behind base f heap d b cells c →
    Evaluated base heap (code_with new behind) (12 * yielder_count y) register c (end_of new) (label_address new behind nothing) (yields y d b cells)

-- ---- a word of the frame in place of a register

-- at most so many instructions leave a word at the offset and lead to an address. Registers 0 to 4 and all other words are as
-- before, and nothing was read or sent
pub record Leaves (base : ℕ) (code : List Inst) (limit f offset word : ℕ) (c : WordState) (address : ℕ) : Type 0 where
  pub instructions : ℕ
  pub few : instructions ≤ limit
  pub end : WordState
  pub leads : LeadsAt base code instructions c end
  pub at : end.pc ≡ address
  pub others : (k : ℕ) → k < 5 → end.registers k ≡ c.registers k
  pub words : end.words ≡ slice_set c.words (f + offset) word
  pub input : end.input ≡ c.input
  pub output : end.output ≡ c.output

-- the datum's word stands at the offset behind the code; where nothing is yielded, the code has gone to the other address and
-- no word has changed
abbrev pub Left : (base : ℕ) → Heap → (code : List Inst) → (limit f offset : ℕ) → WordState → (next nothing : ℕ) → Option Datum → Type 0
Left base heap code limit f offset c next nothing (Some x) = (word : ℕ) × StandsFor base heap word x × Leaves base code limit f offset word c next
Left base heap code limit f offset c next nothing None = Comes base code limit 5 c nothing

-- the code that was appended evaluates the yielder and stores its datum at an offset of the frame, by at most 24 instructions
-- for each yielder in it
abbrev pub Stores : Places → (offset nothing : ℕ) → Yielder → (old new : Listing) → Type 0
Stores places offset nothing y old new =
    (behind : List Item) (c : WordState) (base f : ℕ) (heap : Heap) (d : Data) (b : Binds) (cells : Storage) →
    CanEvaluate places y old new behind base f heap d b cells c → f + offset < length c.words →
    Left base heap (code_with new behind) (24 * yielder_count y) f offset c (end_of new) (label_address new behind nothing) (yields y d b cells)

-- ---- a truth-value that decides where the code goes on

-- the code has gone on where the truth-value is true, and to another address where it is false; where nothing is yielded, to a third one
abbrev pub Decided : (base : ℕ) → (code : List Inst) → (limit : ℕ) → WordState → (next otherwise nothing : ℕ) → Option Datum → Type 0
Decided base code limit c next otherwise nothing (Some (Truth true)) = Comes base code limit first_register c next
Decided base code limit c next otherwise nothing (Some (Truth false)) = Comes base code limit first_register c otherwise
Decided base code limit c next otherwise nothing (Some _) = ⊥
Decided base code limit c next otherwise nothing None = Comes base code limit first_register c nothing

-- the code that was appended goes on where the yielder yields `true`, by at most 24 instructions for each yielder in it
abbrev pub Decides : Places → (otherwise nothing : ℕ) → Yielder → (old new : Listing) → Type 0
Decides places otherwise nothing y old new =
    (behind : List Item) (c : WordState) (base f : ℕ) (heap : Heap) (d : Data) (b : Binds) (cells : Storage) →
    CanEvaluate places y old new behind base f heap d b cells c → IsOfSort sort.Truth (yields y d b cells) →
    Decided base (code_with new behind) (24 * yielder_count y) c (end_of new) (label_address new behind otherwise) (label_address new behind nothing) (yields y d b cells)
