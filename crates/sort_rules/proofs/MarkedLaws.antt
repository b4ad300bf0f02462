-- The marked table of rows in memory that are those of a table.
use Rattle.std.proofs.Common.{List, [], ap, arith, get_or, inl, inr, length, refl, suc, sym, zero, ℕ, ◌++◌, ◌+◌, ◌<◌, ◌∙◌, ◌∷◌, ◌≡◌, ◌≤◌}
use Rattle.std.specs.Prelude.{Some, map, slice_get, slice_index_or}
use Rattle.std.proofs.lemmas.Bool.{cases_lt}
use Rattle.std.proofs.lemmas.Option.{slice_get_past}
use Rattle.sort_rules.specs.MarkedRows.{marked_table, part_in, row_part, table_part}
use Rattle.sort_rules.specs.Parts.{Unreached}
use Rattle.sort_rules.specs.Rows.{SortRow, SortTable, unmarked, unreached_row}
use Rattle.sort_rules.specs.Sets as meant
use Rattle.sort_rules.specs.Sets.{empty_set}
use Rattle.sort_rules.specs.Tables.{BindsIn, BindsOut, Contents, DataIn, DataOut, Entry, Escaped, Mark, node_of}
use Rattle.sort_rules.specs.Views.{row_of, set_of, sort_table}
use Rattle.sort_rules.specs.declared.rows.MarkedRow.{MarkedRow}
use Rattle.sort_rules.specs.declared.set.Set.{Set}
use Rattle.sort_rules.specs.declared.table.Row.{Row}
use Rattle.sort_rules.proofs.Widths.{row-read}

-- both are told by the row of the entry's node
pub marked-part : (ms : List MarkedRow) (x : Entry) → marked_table ms x ≡ part_in (λ r. row_part r x) (slice_get ms (node_of x))
marked-part ms (DataIn k) = refl
marked-part ms (BindsIn k) = refl
marked-part ms (DataOut k) = refl
marked-part ms (BindsOut k) = refl
marked-part ms (Escaped k) = refl
marked-part ms (Contents k) = refl
marked-part ms (Mark k) = refl

unmarked-part : (t : SortTable) (x : Entry) → unmarked t x ≡ table_part (slice_index_or t.rows (node_of x) unreached_row) (slice_index_or t.contents (node_of x) empty_set) x
unmarked-part t (DataIn k) = refl
unmarked-part t (BindsIn k) = refl
unmarked-part t (DataOut k) = refl
unmarked-part t (BindsOut k) = refl
unmarked-part t (Escaped k) = refl
unmarked-part t (Contents k) = refl
unmarked-part t (Mark k) = refl

-- past the rows nothing is reached
part-past : (x : Entry) → table_part unreached_row empty_set x ≡ Unreached
part-past (DataIn k) = refl
part-past (BindsIn k) = refl
part-past (DataOut k) = refl
part-past (BindsOut k) = refl
part-past (Escaped k) = refl
part-past (Contents k) = refl
part-past (Mark k) = refl

set-read : (cs : List Set) (k : ℕ) (s : Set) → k < length cs → slice_index_or (map set_of cs) k empty_set ≡ set_of (get_or cs k s)
set-read [] k s h = absurd (omega arith)
set-read (x ∷ cs) zero s h = refl
set-read (x ∷ cs) (suc k) s h = set-read cs k s (omega arith)

get-before : (ms : List MarkedRow) (m : MarkedRow) (k : ℕ) → k < length ms → slice_get (ms ++ m ∷ []) k ≡ slice_get ms k
get-before [] m k h = absurd (omega arith)
get-before (x ∷ ms) m zero h = refl
get-before (x ∷ ms) m (suc k) h = get-before ms m k (omega arith)

get-last : (ms : List MarkedRow) (m : MarkedRow) → slice_get (ms ++ m ∷ []) (length ms) ≡ Some m
get-last [] m = refl
get-last (x ∷ ms) m = get-last ms m

row-past : (rs : List Row) (k : ℕ) → length rs ≤ k → slice_index_or (map row_of rs) k unreached_row ≡ unreached_row
row-past [] k h = refl
row-past (r ∷ rs) zero h = absurd (omega arith)
row-past (r ∷ rs) (suc k) h = row-past rs k (omega arith)

set-past : (cs : List Set) (k : ℕ) → length cs ≤ k → slice_index_or (map set_of cs) k empty_set ≡ empty_set
set-past [] k h = refl
set-past (s ∷ cs) zero h = absurd (omega arith)
set-past (s ∷ cs) (suc k) h = set-past cs k (omega arith)

module _ (rs : List Row) (cs : List Set) where
  -- the first i rows are those of the table
  abbrev pub AreMarked : List MarkedRow → ℕ → Type 0
  AreMarked ms i = (x : Entry) → node_of x < i → marked_table ms x ≡ unmarked (sort_table rs cs) x

  -- one row more
  pub marked-more : (ms : List MarkedRow) (m : MarkedRow) (i : ℕ) (r : Row) (s : Set) → length ms ≡ i → i < length rs → i < length cs → AreMarked ms i
      → ((x : Entry) → row_part m x ≡ table_part (row_of (get_or rs i r)) (set_of (get_or cs i s)) x) → AreMarked (ms ++ m ∷ []) (i + 1)
  marked-more ms m i r s count less less2 h here x near = elim (cases_lt (node_of x) i) [ inl lt ↦ old lt | inr past ↦ new (omega (arith, past, near)) ]
    where
      old : node_of x < i → marked_table (ms ++ m ∷ []) x ≡ unmarked (sort_table rs cs) x
      old lt =
          let before : node_of x < length ms = omega (arith, lt, count) in
          marked-part (ms ++ m ∷ []) x ∙ ap (part_in (λ r. row_part r x)) (get-before ms m (node_of x) before) ∙ sym (marked-part ms x) ∙ h x lt

      new : node_of x ≡ i → marked_table (ms ++ m ∷ []) x ≡ unmarked (sort_table rs cs) x
      new same =
          marked-part (ms ++ m ∷ []) x ∙ ap (λ (k : ℕ). part_in (λ r. row_part r x) (slice_get (ms ++ m ∷ []) k)) (same ∙ sym count) ∙ ap (part_in (λ r. row_part r x)) (get-last ms m)
          ∙ here x
          ∙ sym (ap (λ (q : SortRow). table_part q (set_of (get_or cs i s)) x) (row-read rs i r less))
          ∙ sym (ap (λ (q : meant.Set). table_part (slice_index_or (map row_of rs) i unreached_row) q x) (set-read cs i s less2))
          ∙ sym (ap (λ (k : ℕ). table_part (slice_index_or (map row_of rs) k unreached_row) (slice_index_or (map set_of cs) k empty_set) x) same)
          ∙ sym (unmarked-part (sort_table rs cs) x)

  -- all of them
  pub marked-all : (ms : List MarkedRow) (i : ℕ) → length ms ≡ i → i ≡ length rs → length rs ≡ length cs → AreMarked ms i → (x : Entry) → marked_table ms x ≡ unmarked (sort_table rs cs) x
  marked-all ms i count all same h x = elim (cases_lt (node_of x) i) [ inl lt ↦ h x lt | inr past ↦ none past ]
    where
      none : i ≤ node_of x → marked_table ms x ≡ unmarked (sort_table rs cs) x
      none past =
          let k : ℕ = node_of x in
          let rows : length rs ≤ node_of x = omega (arith, past, all) in
          let sets : length cs ≤ node_of x = omega (arith, past, all, same) in
          let table : unmarked (sort_table rs cs) x ≡ Unreached =
          unmarked-part (sort_table rs cs) x
          ∙ ap (λ (q : SortRow). table_part q (slice_index_or (map set_of cs) k empty_set) x) (row-past rs k rows)
          ∙ ap (λ (q : meant.Set). table_part unreached_row q x) (set-past cs k sets) ∙ part-past x in
          marked-part ms x ∙ ap (part_in (λ r. row_part r x)) (slice_get_past ms k (omega (arith, past, count))) ∙ sym table
