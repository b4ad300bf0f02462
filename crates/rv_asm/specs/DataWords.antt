-- What a word of compiled code stands for: a datum is one word.
use Rattle.std.specs.Prelude.{◌≡◌, ℕ, ◌+◌, ◌*◌, List, [], ◌∷◌, Option, Some, slice_get, slice_index, FitsSigned}
use Rattle.std.specs.Int.{w64}
use Rattle.action_terms.specs.Information.{Token, Datum, Number, Truth, CellOf, Closure, Binds, Data}
use Rattle.rv_asm.specs.Conventions.{integer_word, truth_word, word_size}

-- a closure that was made; the place is that of the word of the region at which its first unit begins
pub record PlacedClosure : Type 0 where
  pub place : ℕ
  pub body : ℕ
  pub binds : Binds
  pub own : Option Token

-- the blocks that were taken: the place of each cell's unit, by the cells' numbers, and the closures
pub record Heap : Type 0 where
  pub cells : List ℕ
  pub closures : List PlacedClosure

-- the word is the address of the unit of the cell
pub record IsCellWord (base : ℕ) (heap : Heap) (number word : ℕ) : Type 0 where
  pub place : ℕ
  pub listed : slice_get heap.cells number ≡ Some place
  pub is : word ≡ base + word_size * place

-- the word is the address of the first unit of such a closure
pub record IsClosureWord (base : ℕ) (heap : Heap) (body : ℕ) (binds : Binds) (own : Option Token) (word : ℕ) : Type 0 where
  pub place : ℕ
  pub index : ℕ
  pub listed : slice_get heap.closures index ≡ Some (record { place = place; body = body; binds = binds; own = own })
  pub is : word ≡ base + word_size * place

-- the word stands for the datum, in the region at `base` with these blocks
abbrev pub StandsFor : ℕ → Heap → ℕ → Datum → Type 0
StandsFor base heap word (Number n) = (word ≡ integer_word n) × FitsSigned w64 n
StandsFor base heap word (Truth b) = word ≡ truth_word b
StandsFor base heap word (CellOf number) = IsCellWord base heap number word
StandsFor base heap word (Closure body binds own) = IsClosureWord base heap body binds own word

-- the words of the region from a place on stand for the data
abbrev pub StandFor : ℕ → Heap → List ℕ → ℕ → Data → Type 0
StandFor base heap words place [] = Unit {0}
StandFor base heap words place (x ∷ rest) = StandsFor base heap (slice_index words place) x × StandFor base heap words (place + 1) rest
