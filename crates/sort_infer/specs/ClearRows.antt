-- Rows of a table that are those of a marked one.
use Rattle.std.specs.Prelude.{◌≡◌, ℕ, ◌<◌, false, List, [], ◌∷◌}
use Rattle.action_terms.specs.Actions.{Action}
use Rattle.sort_rules.specs.Admissible.{IsClear, is_clash}
use Rattle.sort_rules.specs.Demands.{Each}
use Rattle.sort_rules.specs.MarkedRows.{marked_table, row_part, table_part}
use Rattle.sort_rules.specs.Parts.{Part, Listed}
use Rattle.sort_rules.specs.Rows.{IsTableOf, SortTable, unmarked}
use Rattle.sort_rules.specs.Sets.{is_empty}
use Rattle.sort_rules.specs.Tables.{Entry, MarkedTable}
use Rattle.sort_rules.specs.Views.{row_of, set_of}
use Rattle.sort_rules.specs.declared.rows.MarkedRow.{MarkedRow}
use Rattle.sort_rules.specs.declared.set.Set.{Set}
use Rattle.sort_rules.specs.declared.table.Row.{Row}

-- none of its sets is empty
abbrev pub IsFilled : Part → Type 0
IsFilled (Listed ps) = Each (λ p. is_empty p.set ≡ false) ps
IsFilled _ = Unit {0}

-- no part of the row is a clash, and its mark isn't set
abbrev pub HasNoClash : MarkedRow → Type 0
HasNoClash m = (x : Entry) → is_clash (row_part m x) ≡ false

-- the row and the contents have the parts of the marked row
abbrev pub HasParts : MarkedRow → Row → Set → Type 0
HasParts m r s = (x : Entry) → table_part (row_of r) (set_of s) x ≡ row_part m x

-- so have those of each row
pub data HaveParts : List MarkedRow → List Row → List Set → Type 0 where
  NoRow : HaveParts [] [] []
  OneRow : {m : MarkedRow} {ms : List MarkedRow} {r : Row} {rs : List Row} {s : Set} {cs : List Set} → HasParts m r s → HaveParts ms rs cs → HaveParts (m ∷ ms) (r ∷ rs) (s ∷ cs)

-- the table is the marked one, in which there is no clash
pub record IsClearTable (a : Action) (marked : List MarkedRow) (t : SortTable) : Type 0 where
  pub same : (x : Entry) → unmarked t x ≡ marked_table marked x
  pub proper : IsTableOf a t

-- k is the least node with a clash
pub record IsFirstClash (t : MarkedTable) (k : ℕ) : Type 0 where
  pub clash : IsClear t k → ⊥
  pub first : (i : ℕ) → i < k → IsClear t i
