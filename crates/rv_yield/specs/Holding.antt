-- What words of a frame and of the units stand for, and where a yielder finds what is given and what tokens are bound to.
use Rattle.std.specs.Prelude.{◌≡◌, ℕ, zero, suc, ◌+◌, List, [], ◌∷◌, map, Option, Some, None, slice_get, slice_index, if◌then◌else◌}
use Rattle.std.specs.Borrow.{Bor}
use Rattle.std.specs.Str.{bytes_eq}
use Rattle.action_terms.specs.Information.{Token, Datum, Binds, Data}
use Rattle.action_terms.specs.Bindings.{lookup}
use Rattle.rv_asm.specs.DataWords.{Heap, StandsFor}

-- a place in a frame for what a token is bound to: its offset, in words
pub record Slot : Type 0 where
  pub token : Token
  pub offset : ℕ

-- where a yielder finds data in a frame: the offsets of those that are given, and the slots of tokens
pub record Places : Type 0 where
  pub given : List ℕ
  pub bound : List Slot

-- slots, by the tokens' bytes
abbrev pub slots_of : List (Bor (List ℕ) × ℕ) → List Slot
slots_of pairs = map (λ pair. record { token = pair.0.now; offset = pair.1 }) pairs

-- ---- what words stand for

-- the word at an offset, in words, of the frame that begins at word f of the region
abbrev pub word_at : List ℕ → (f offset : ℕ) → ℕ
word_at words f offset = slice_index words (f + offset)

-- the words at the offsets stand for the data, one for each
abbrev pub Holds : ℕ → Heap → List ℕ → ℕ → List ℕ → Data → Type 0
Holds base heap words f [] [] = Unit {0}
Holds base heap words f (o ∷ os) (x ∷ d) = StandsFor base heap (word_at words f o) x × Holds base heap words f os d
Holds base heap words f _ _ = ⊥

-- the slot's token is bound, and the slot's word stands for what it is bound to
pub record HoldsSlot (base : ℕ) (heap : Heap) (words : List ℕ) (f : ℕ) (s : Slot) (b : Binds) : Type 0 where
  pub datum : Datum
  pub is : lookup s.token b ≡ Some datum
  pub stands : StandsFor base heap (word_at words f s.offset) datum

-- the words at the slots stand for what their tokens are bound to
abbrev pub HoldsBinds : ℕ → Heap → List ℕ → ℕ → List Slot → Binds → Type 0
HoldsBinds base heap words f [] b = Unit {0}
HoldsBinds base heap words f (s ∷ ss) b = HoldsSlot base heap words f s b × HoldsBinds base heap words f ss b

-- a cell's unit, at a place of the region: its first word is 0 where the cell is unset; where it is set this is 1, and the second is the datum's word
abbrev pub HoldsContent : ℕ → Heap → List ℕ → (place : ℕ) → Option Datum → Type 0
HoldsContent base heap words place None = slice_index words place ≡ 0
HoldsContent base heap words place (Some x) = (slice_index words place ≡ 1) × StandsFor base heap (slice_index words (place + 1)) x

-- ---- where a yielder finds data

-- the offset of the only datum
abbrev pub only_offset : List ℕ → Option ℕ
only_offset (o ∷ []) = Some o
only_offset _ = None

-- the offset of the datum of a place, from 1
abbrev pub nth_offset : List ℕ → ℕ → Option ℕ
nth_offset given zero = None
nth_offset given (suc n) = slice_get given n

-- the offset of what a token is bound to, where the token has a slot
abbrev pub slot_offset : List Slot → Token → Option ℕ
slot_offset [] t = None
slot_offset (s ∷ ss) t = if bytes_eq s.token t then Some s.offset else slot_offset ss t
