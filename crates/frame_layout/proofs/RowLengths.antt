-- The lengths of the parts of a row: as a table in memory has them, and at most the width of the table.
use Rattle.std.proofs.Common.{◌≡◌, ℕ, zero, suc, ◌<◌, ◌≤◌, ◌⊎◌, List, [], ◌∷◌, get_or, length, ap, arith, inl, inr, refl, subst}
use Rattle.std.specs.Prelude.{Some, max, slice_get}
use Rattle.std.proofs.lemmas.Bool.Decides.{eqb_tells}
use Rattle.sort_rules.specs.Rows.{SortRow, SortTable, unmarked, unreached_row}
use Rattle.sort_rules.specs.Measures.{row_width, width}
use Rattle.sort_rules.specs.Shapes.{part_length}
use Rattle.sort_rules.specs.Tables.{BindsIn, BindsOut, DataIn, DataOut, Escaped, MarkedTable}
use Rattle.frame_layout.specs.Placing.{IsNarrow}

-- the row of a node, from where it stands
row-is : (rows : List SortRow) (k : ℕ) (r : SortRow) → slice_get rows k ≡ Some r → get_or rows k unreached_row ≡ r
row-is [] k r e = absurd {0} (cc)
row-is (x ∷ rows) zero r e = cc
row-is (x ∷ rows) (suc k) r e = row-is rows k r e

last_or_before : (n k : ℕ) → k < suc n → (k ≡ n) ⊎ (k < n)
last_or_before n k less = elim (eqb_tells k n) [
  | inl e ↦ inl e.1
  | inr e ↦ (let other = e.1 in inr (omega arith))
]

-- each row is at most as wide as the table
row-below : (t : MarkedTable) (n k : ℕ) → k < n → row_width t k ≤ width n t
row-below t zero k less = absurd (omega arith)
row-below t (suc n) k less = go (row-below t n k) (last_or_before n k less)
  where
    go : (k < n → row_width t k ≤ width n t) → (k ≡ n) ⊎ (k < n) → row_width t k ≤ max (row_width t n) (width n t)
    go earlier (inl e) =
        let same : row_width t k ≡ row_width t n = ap (row_width t) e in
        omega (arith, same)
    go earlier (inr less) = omega (arith, earlier less)

-- the lengths of a row are those of its node, and at most 64
pub record IsRowRead (t : MarkedTable) (k : ℕ) (r : SortRow) : Type 0 where
  pub data_in : part_length r.data_in ≡ part_length (t (DataIn k))
  pub binds_in : part_length r.binds_in ≡ part_length (t (BindsIn k))
  pub data_out : part_length r.data_out ≡ part_length (t (DataOut k))
  pub binds_out : part_length r.binds_out ≡ part_length (t (BindsOut k))
  pub escaped : part_length r.escaped ≡ part_length (t (Escaped k))
  pub few_in : part_length r.data_in ≤ 64
  pub few_binds_in : part_length r.binds_in ≤ 64
  pub few_out : part_length r.data_out ≤ 64
  pub few_binds_out : part_length r.binds_out ≤ 64
  pub few_escaped : part_length r.escaped ≤ 64

pub row-read : (t : SortTable) (k : ℕ) (r : SortRow) → slice_get t.rows k ≡ Some r → IsNarrow t → k < length t.rows → IsRowRead (unmarked t) k r
row-read t k r at narrow less = subst (IsRowRead (unmarked t) k) (row-is t.rows k r at) (
    let row : row_width (unmarked t) k ≤ width (length t.rows) (unmarked t) = row-below (unmarked t) (length t.rows) k less in
    record {
      data_in = refl;
      binds_in = refl;
      data_out = refl;
      binds_out = refl;
      escaped = refl;
      few_in = omega (arith, row);
      few_binds_in = omega (arith, row);
      few_out = omega (arith, row);
      few_binds_out = omega (arith, row);
      few_escaped = omega (arith, row);
    })
