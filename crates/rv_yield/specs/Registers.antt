-- How many registers a yielder needs, and those that its code uses.
use Rattle.std.specs.Prelude.{◌≡◌, ℕ, ◌+◌, ◌<◌, min, max, Bool, true, false, ◌&&◌, ◌||◌, nat_eq, List, length, slice_index, slice_index_or, FitsSigned, if◌then◌else◌}
use Rattle.std.specs.Int.{w64}
use Rattle.action_terms.specs.Actions.{Two, Sum, Difference, Product, Quotient, Remainder, Negation, Yielder, NumberLiteral, TruthLiteral, Given, GivenAt, StoredIn, OnTwo, OnOne}
use Rattle.action_terms.specs.Forms.{yielder_at, IsDatum}
use Rattle.action_terms.specs.Numbering.{ListedYielder}

-- ---- the yielders whose code can be made

-- the operations on two integers
abbrev pub is_arithmetic : Two → Bool
is_arithmetic Sum = true
is_arithmetic Difference = true
is_arithmetic Product = true
is_arithmetic Quotient = true
is_arithmetic Remainder = true
is_arithmetic _ = false

-- literals, what is given, what cells hold, and operations. What a token is bound to has code too, but it counts as built only once the code of nodes gives tokens their slots
abbrev pub is_built : Yielder → Bool
is_built (NumberLiteral z) = true
is_built (TruthLiteral t) = true
is_built (Given s) = true
is_built (GivenAt s place) = true
is_built (StoredIn s y) = is_built y
is_built (OnTwo f y1 y2) = is_built y1 && is_built y2
is_built (OnOne f y) = is_built y
is_built _ = false

-- of these, numbers, and operations on integers: they yield integers alone
abbrev pub is_integral : Yielder → Bool
is_integral (NumberLiteral z) = true
is_integral (OnTwo f y1 y2) = is_arithmetic f && (is_integral y1 && is_integral y2)
is_integral (OnOne Negation y) = is_integral y
is_integral _ = false

-- this is known of the yielders, by their numbers
pub record AreIntegral (yielders : List ListedYielder) (known : List Bool) : Type 0 where
  pub size : length known ≡ length yielders
  pub each : (k : ℕ) → k < length yielders → slice_index_or known k false ≡ is_integral (yielder_at yielders k)

-- ---- how many values stand at once

-- the operand that needs more registers comes first, so that the other one has all but one of them
abbrev pub registers_needed : Yielder → ℕ
registers_needed (OnTwo f y1 y2) = max (max (registers_needed y1) (registers_needed y2)) (min (registers_needed y1) (registers_needed y2) + 1)
registers_needed (StoredIn s y) = registers_needed y
registers_needed (OnOne f y) = registers_needed y
registers_needed _ = 1

-- the registers that a yielder needs, or 0 where its code can't be made
abbrev pub need_of : Yielder → ℕ
need_of y = if is_built y then registers_needed y else 0

-- what an operation needs whose operands need so many, each of them 0 where its code can't be made
abbrev pub both_needed : ℕ → ℕ → ℕ
both_needed a b = if nat_eq a 0 || nat_eq b 0 then 0 else max (max a b) (min a b + 1)

-- this is what the yielders need, by their numbers; of `them` nothing is said
pub record AreNeeds (yielders : List ListedYielder) (needs : List ℕ) : Type 0 where
  pub size : length needs ≡ length yielders
  pub each : (k : ℕ) → IsDatum yielders k → slice_index needs k ≡ need_of (yielder_at yielders k)

-- ---- the registers

-- the first of the 16 registers that hold values
abbrev pub first_register : ℕ
first_register = 10

-- the register behind them
abbrev pub registers_end : ℕ
registers_end = 26

-- a value to which a constant is added stands in one of two registers, since the sum goes to another: in this one
abbrev pub addend : ℕ
addend = 26

-- the other one
abbrev pub other_addend : ℕ
other_addend = 27

-- checks have two registers: this one
abbrev pub check : ℕ
check = 29

-- the other one
abbrev pub other_check : ℕ
other_check = 28

-- ---- literals

-- the numbers in a yielder are those of 64 bits
abbrev pub HasWords : Yielder → Type 0
HasWords (NumberLiteral z) = FitsSigned w64 z
HasWords (StoredIn s y) = HasWords y
HasWords (OnTwo f y1 y2) = HasWords y1 × HasWords y2
HasWords (OnOne f y) = HasWords y
HasWords _ = Unit {0}
