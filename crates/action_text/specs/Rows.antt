-- The rows of the code as lines of the table.
use Rattle.std.specs.Prelude.{◌≡◌, ◌⊎◌, ℕ, ◌<◌, ◌≤◌, List, length, map, slice_index, Option, Some, None}
use Rattle.action_text.specs.declared.table.Row.{Row}
use Rattle.action_text.specs.declared.table.OtherRow.{OtherRow}
use Rattle.action_text.specs.Tables.{Symbol, Line, Other, line_of, numbered}
use Rattle.action_text.specs.ActionTable.{row, other_row, template_lines}

abbrev pub line_at : Row → Line
line_at r = row r.name r.class r.keeps r.right.now

abbrev pub other_at : OtherRow → Other
other_at r = other_row r.name r.right.now

-- the line of an answer
abbrev pub found_line : Option Row → Option Line
found_line None = None
found_line (Some r) = Some (line_at r)

-- the right side of an answer
abbrev pub found_other : Option OtherRow → Option (List Symbol)
found_other None = None
found_other (Some r) = Some (map numbered r.right.now)

-- the class stands at the place
abbrev pub StandsAt : List ℕ → ℕ → ℕ → Type 0
StandsAt classes at c = (at < length classes) × (slice_index classes at ≡ c)

-- the row is the line of the name for the class at the place
abbrev pub HasLineAt : List ℕ → ℕ → ℕ → Row → Type 0
HasLineAt classes at n row = (at < length classes) × (line_of template_lines n (slice_index classes at) ≡ Some (line_at row))

-- the place has no token, or the name has no line for it
abbrev pub HasNoLineAt : List ℕ → ℕ → ℕ → Type 0
HasNoLineAt classes at n = (length classes ≤ at) ⊎ ((at < length classes) × (line_of template_lines n (slice_index classes at) ≡ None))
