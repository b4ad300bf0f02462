-- Rows of bits, and lists of them by nonterminal.
use Rattle.std.specs.Prelude.{◌≡◌, ◌⊎◌, ◌↔◌, ℕ, ◌+◌, ◌-◌, ◌*◌, ◌<◌, ◌≤◌, ◌/◌, ◌%◌, List, [], ◌∷◌, slice_index, length}
use Rattle.std.specs.Int.{bit_at}
use Rattle.chart_parse.specs.declared.rows.Entry.{Entry}

-- the row has the number
unfoldable pub Has : List ℕ → ℕ → Type 0
Has row e = bit_at (slice_index row (e / 64)) (e % 64) ≡ 1

-- the new row has the number exactly where the old one or the added one has
abbrev pub HasMore : List ℕ → List ℕ → List ℕ → ℕ → Type 0
HasMore old added new e = Has new e ↔ (Has old e ⊎ Has added e)

-- an entry of the nonterminal has the number
abbrev pub Lists : List Entry → ℕ → ℕ → Type 0
Lists [] n e = ⊥
Lists (x ∷ xs) n e = ((x.nonterm ≡ n) × Has x.row.now e) ⊎ Lists xs n e

-- each row has that many words
abbrev pub AreWide : ℕ → List Entry → Type 0
AreWide width [] = Unit {0}
AreWide width (x ∷ xs) = (length x.row.now ≡ width) × AreWide width xs

-- the new list has what the old one has, and the numbers of the row for that nonterminal
abbrev pub ListsRow : ℕ → List Entry → List Entry → Entry → Type 0
ListsRow width old new x = (n e : ℕ) → e < 64 * width → Lists new n e ↔ (Lists old n e ⊎ ((x.nonterm ≡ n) × Has x.row.now e))

-- the new list has what the two have
abbrev pub ListsBoth : ℕ → List Entry → List Entry → List Entry → Type 0
ListsBoth width old added new = (n e : ℕ) → e < 64 * width → Lists new n e ↔ (Lists old n e ⊎ Lists added n e)

-- the word, whose first bit has the number `first`, has the bit of the number
abbrev pub IsBitOf : (word first : ℕ) → ℕ → Type 0
IsBitOf word first e = (first ≤ e) × (e < first + 64) × (bit_at word (e - first) ≡ 1)

-- the number is below the bound, and the row has it, and the other row doesn't
abbrev pub IsExtra : (below : ℕ) → List ℕ → List ℕ → ℕ → Type 0
IsExtra below row other e = (e < below) × Has row e × (Has other e → ⊥)
