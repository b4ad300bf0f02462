-- What words of a frame stand for: data at offsets, and bindings at slots.
use Rattle.std.proofs.Common.{◌≡◌, ℕ, zero, suc, ◌+◌, List, [], ◌∷◌, ◌++◌, Some, refl, sym, subst}
use Rattle.std.specs.Prelude.{slice_get}
use Rattle.action_terms.specs.Information.{Token, Datum, Number, Truth, CellOf, Closure, Binds, Data}
use Rattle.action_terms.specs.Bindings.{lookup}
use Rattle.rv_asm.specs.DataWords.{Heap, PlacedClosure, StandsFor}
pub use Rattle.rv_yield.specs.Holding.{word_at, Holds}

-- so many offsets in a row, from one on
abbrev pub in_row : (first n : ℕ) → List ℕ
in_row first zero = []
in_row first (suc n) = first ∷ in_row (first + 1) n

-- at no offsets stand no data
pub none-held : (base : ℕ) (heap : Heap) (words : List ℕ) (f : ℕ) (d : Data) → Holds base heap words f [] d → d ≡ []
none-held base heap words f [] h = refl
none-held base heap words f (x ∷ d) h = absurd h

-- a place for what a token is bound to
pub record Slot : Type 0 where
  pub token : Token
  pub offset : ℕ

pub record HoldsSlot (base : ℕ) (heap : Heap) (words : List ℕ) (f : ℕ) (s : Slot) (b : Binds) : Type 0 where
  pub datum : Datum
  pub is : lookup s.token b ≡ Some datum
  pub stands : StandsFor base heap (word_at words f s.offset) datum

-- the words at the slots stand for what their tokens are bound to
abbrev pub HoldsBinds : ℕ → Heap → List ℕ → ℕ → List Slot → Binds → Type 0
HoldsBinds base heap words f [] b = Unit {0}
HoldsBinds base heap words f (s ∷ ss) b = HoldsSlot base heap words f s b × HoldsBinds base heap words f ss b

-- none of the offsets is one that is written
abbrev pub Apart : (ℕ → Type 0) → List ℕ → Type 0
Apart Writes [] = Unit {0}
Apart Writes (o ∷ os) = (Writes o → ⊥) × Apart Writes os

abbrev pub ApartSlots : (ℕ → Type 0) → List Slot → Type 0
ApartSlots Writes [] = Unit {0}
ApartSlots Writes (s ∷ ss) = (Writes s.offset → ⊥) × ApartSlots Writes ss

pub apart-fewer : (V W : ℕ → Type 0) (os : List ℕ) → ((x : ℕ) → V x → W x) → Apart W os → Apart V os
apart-fewer V W [] h p = tt
apart-fewer V W (o ∷ os) h p = (λ v. p.0 (h o v), apart-fewer V W os h p.1)

pub apart-fewer_slots : (V W : ℕ → Type 0) (ss : List Slot) → ((x : ℕ) → V x → W x) → ApartSlots W ss → ApartSlots V ss
apart-fewer_slots V W [] h p = tt
apart-fewer_slots V W (s ∷ ss) h p = (λ v. p.0 (h s.offset v), apart-fewer_slots V W ss h p.1)

-- ---- more blocks

pub record Grows (heap heap' : Heap) : Type 0 where
  pub cells : (c i : ℕ) → slice_get heap.cells c ≡ Some i → slice_get heap'.cells c ≡ Some i
  pub closures : (n : ℕ) (m : PlacedClosure) → slice_get heap.closures n ≡ Some m → slice_get heap'.closures n ≡ Some m

pub grows-same : (heap : Heap) → Grows heap heap
grows-same heap = record { cells = λ c i e. e; closures = λ n m e. e }

module _ (base : ℕ) (heap heap' : Heap) (grows : Grows heap heap') where
  pub stands-grown : (w : ℕ) (x : Datum) → StandsFor base heap w x → StandsFor base heap' w x
  stands-grown w (Number n) h = h
  stands-grown w (Truth b) h = h
  stands-grown w (CellOf c) h = record { place = h.place; listed = grows.cells c h.place h.listed; is = h.is }
  stands-grown w (Closure k b own) h = record { place = h.place; index = h.index; listed = grows.closures h.index _ h.listed; is = h.is }

  -- words that aren't written
  module _ (words words' : List ℕ) (f : ℕ) (Writes : ℕ → Type 0) (agree : (x : ℕ) → (Writes x → ⊥) → word_at words' f x ≡ word_at words f x) where
    pub holds-kept : (os : List ℕ) (d : Data) → Apart Writes os → Holds base heap words f os d → Holds base heap' words' f os d
    holds-kept [] [] p h = tt
    holds-kept [] (x ∷ d) p h = absurd h
    holds-kept (o ∷ os) [] p h = absurd h
    holds-kept (o ∷ os) (x ∷ d) p h =
        (subst (λ w. StandsFor base heap' w x) (sym (agree o p.0)) (stands-grown (word_at words f o) x h.0), holds-kept os d p.1 h.1)

    pub holds-kept_binds : (ss : List Slot) (b : Binds) → ApartSlots Writes ss → HoldsBinds base heap words f ss b → HoldsBinds base heap' words' f ss b
    holds-kept_binds [] b p h = tt
    holds-kept_binds (s ∷ ss) b p h = (
      record { datum = h.0.datum; is = h.0.is; stands = subst (λ w. StandsFor base heap' w h.0.datum) (sym (agree s.offset p.0)) (stands-grown (word_at words f s.offset) h.0.datum h.0.stands) },
      holds-kept_binds ss b p.1 h.1,
    )

pub holds-append : (base : ℕ) (heap : Heap) (words : List ℕ) (f : ℕ) (os ps : List ℕ) (d e : Data) → Holds base heap words f os d → Holds base heap words f ps e → Holds base heap words f (os ++ ps) (d ++ e)
holds-append base heap words f [] ps [] e h k = k
holds-append base heap words f [] ps (x ∷ d) e h k = absurd h
holds-append base heap words f (o ∷ os) ps [] e h k = absurd h
holds-append base heap words f (o ∷ os) ps (x ∷ d) e h k = (h.0, holds-append base heap words f os ps d e h.1 k)
