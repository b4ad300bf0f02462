-- What lies outside a request: contents by name, what was written, and counts of faults.
use Rattle.std.specs.Prelude.{◌≡◌, ◌≢◌, ℕ, ◌+◌, ◌-◌, ◌^◌, ◌<◌, ◌≤◌, ◌==◌, ◌⊎◌, Bool, List, ◌++◌, length, min, take, drop, Option}
use Rattle.std.specs.List.{list_any}

-- what a store has at each name: its bytes, or nothing where the name isn't there
abbrev pub Contents : Type 0
Contents = List ℕ → Option (List ℕ)

-- both maps have the same at every name
abbrev pub SameContents : Contents → Contents → Type 0
SameContents old new = (name : List ℕ) → new name ≡ old name

-- both maps have the same at every other name
abbrev pub SameElsewhere : Contents → Contents → List ℕ → Type 0
SameElsewhere old new name = (other : List ℕ) → other ≢ name → new other ≡ old other

-- the first min(length, limit + 1) bytes: all of them, or one more than the limit allows
unfoldable pub front : ℕ → List ℕ → List ℕ
front limit bytes = take (limit + 1) bytes

-- the new bytes are the old ones with at most `most` more behind them
pub record GainsAtMost (most : ℕ) (old new : List ℕ) : Type 0 where
  pub begins : take (length old) new ≡ old
  pub bound : length new ≤ length old + most

-- the new bytes are the old ones with a front of the piece behind them
abbrev pub GainsFrontOf : List ℕ → List ℕ → List ℕ → Type 0
GainsFrontOf piece old new = (count : ℕ) × (new ≡ old ++ take count piece)

-- a read that was carried out: the name, the limit, and the bytes that were given
pub record Reading : Type 0 where
  pub name : List ℕ
  pub limit : ℕ
  pub given : List ℕ

-- the read of a name with a limit that made the old bytes the new ones: what stands behind the old bytes was given
abbrev pub reading_of : (name : List ℕ) (limit : ℕ) (old new : List ℕ) → Reading
reading_of name limit old new = record { name = name; limit = limit; given = drop (length old) new }

-- a count is greater after the call
abbrev pub Grew : ℕ → ℕ → Type 0
Grew old new = old < new

-- a count grew in the call, or stands at the greatest value of 64 bits, where it stays
abbrev pub Rose : ℕ → ℕ → Type 0
Rose old new = Grew old new ⊎ (new ≡ 2 ^ 64 - 1)

-- one more, where a count stays at the greatest value of 64 bits
abbrev pub counted : ℕ → ℕ
counted count = min (count + 1) (2 ^ 64 - 1)

-- the number of the call stands in the list
abbrev pub is_listed : List ℕ → ℕ → Bool
is_listed numbers call = list_any (λ number. number == call) numbers
