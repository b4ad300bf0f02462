-- The width of a table: it grows row by row, and is bounded.
use Rattle.std.proofs.Common.{List, [], add-one, ap, arith, get_or, length, map, max, refl, rules, suc, zero, ℕ, ◌+◌, ◌<◌, ◌∷◌, ◌≡◌, ◌≤◌}
use Rattle.std.specs.Ordering.{nat_cmp, ord_max}
use Rattle.std.proofs.lemmas.Grind.{common_steps}
use Rattle.std.proofs.lemmas.Bool.Decides.{nat_tests}
use Rattle.std.specs.Prelude.{slice_index_or}
use Rattle.sort_rules.specs.declared.table.Row.{Row}
use Rattle.sort_rules.specs.Views.{row_of}
use Rattle.sort_rules.specs.Measures.{width}
use Rattle.sort_rules.specs.Parts.{Part, most_components}
use Rattle.sort_rules.specs.Rows.{IsSortRow, IsTable, SortRow, SortTable, row_length, unmarked, unreached_row}
use Rattle.sort_rules.specs.Shapes.{part_length}
use Rattle.sort_rules.specs.Wellformed.{IsSort, ListedSort, UnreachedSort}
use Rattle.sort_rules.proofs.ClearTables.{row_at}

pub part-most : {x : Part} → IsSort x → part_length x ≤ most_components
part-most UnreachedSort = omega arith
part-most (ListedSort f l) = l

-- no row is wider than a part may be
row-most : {r : SortRow} → IsSortRow r → row_length r ≤ most_components
row-most h = omega (arith, part-most h.data_in.sort, part-most h.binds_in.sort, part-most h.data_out.sort, part-most h.binds_out.sort, part-most h.escaped.sort)

pub width-most : (t : SortTable) → IsTable t → (n : ℕ) → width n (unmarked t) ≤ most_components
width-most t h zero = omega arith
width-most t h (suc n) = omega (arith, row-most (row_at t.rows n h.rows), width-most t h n)

-- a row in memory, as the table has it
pub row-read : (rows : List Row) (k : ℕ) (r : Row) → k < length rows → slice_index_or (map row_of rows) k unreached_row ≡ row_of (get_or rows k r)
row-read [] k r h = absurd (omega arith)
row-read (x ∷ rows) zero r h = refl
row-read (x ∷ rows) (suc k) r h = row-read rows k r (omega arith)

-- one row more
pub width-more : (t : SortTable) (k w v : ℕ) (r : SortRow) → slice_index_or t.rows k unreached_row ≡ r → w ≡ width k (unmarked t) → v ≡ row_length r → max w v ≡ width (k + 1) (unmarked t)
width-more t k w v r e e2 e3 =
    let more : width (k + 1) (unmarked t) ≡ max (row_length (slice_index_or t.rows k unreached_row)) (width k (unmarked t)) = ap (λ (n : ℕ). width n (unmarked t)) (add-one k) in
    let here : row_length (slice_index_or t.rows k unreached_row) ≡ row_length r = ap row_length e in
    omega arith

-- the greater of two, as std has it
pub greater-max : (a b : ℕ) → ord_max nat_cmp a b ≡ max a b
greater-max a b = first_of (search rules, grind (arith, common_steps), grind (arith, nat_tests, common_steps))
