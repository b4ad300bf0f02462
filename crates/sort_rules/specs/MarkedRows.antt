-- The marked table that rows in memory are.
use Rattle.std.specs.Prelude.{ℕ, List, Option, Some, None, slice_get}
use Rattle.sort_rules.specs.Parts.{Part, Unreached}
use Rattle.sort_rules.specs.Judgements.{misfit_unless}
use Rattle.sort_rules.specs.Rows.{SortRow}
use Rattle.sort_rules.specs.Sets.{Set}
use Rattle.sort_rules.specs.Values.{one_or_unreached}
use Rattle.sort_rules.specs.Tables.{Entry, DataIn, BindsIn, DataOut, BindsOut, Escaped, Contents, Mark, MarkedTable}
use Rattle.sort_rules.specs.Views.{marked_tuple_of, marked_binds_of, value_part}
use Rattle.sort_rules.specs.declared.rows.MarkedRow.{MarkedRow}

-- a part of a row, unreached where there is no row
abbrev pub part_in : (MarkedRow → Part) → Option MarkedRow → Part
part_in f (Some r) = f r
part_in f None = Unreached

-- past the rows everything is unreached
abbrev pub marked_table : List MarkedRow → MarkedTable
marked_table rows (DataIn k) = part_in (λ r. marked_tuple_of r.g) (slice_get rows k)
marked_table rows (BindsIn k) = part_in (λ r. marked_binds_of r.h) (slice_get rows k)
marked_table rows (DataOut k) = part_in (λ r. marked_tuple_of r.o) (slice_get rows k)
marked_table rows (BindsOut k) = part_in (λ r. marked_binds_of r.p) (slice_get rows k)
marked_table rows (Escaped k) = part_in (λ r. marked_tuple_of r.e) (slice_get rows k)
marked_table rows (Contents k) = part_in (λ r. value_part r.contents) (slice_get rows k)
marked_table rows (Mark k) = part_in (λ r. misfit_unless r.fits) (slice_get rows k)

-- the contents of every node
abbrev pub contents_in : List MarkedRow → ℕ → Part
contents_in rows s = marked_table rows (Contents s)

-- ---- by the kind of an entry

-- the part of a row
abbrev pub row_part : MarkedRow → Entry → Part
row_part r (DataIn k) = marked_tuple_of r.g
row_part r (BindsIn k) = marked_binds_of r.h
row_part r (DataOut k) = marked_tuple_of r.o
row_part r (BindsOut k) = marked_binds_of r.p
row_part r (Escaped k) = marked_tuple_of r.e
row_part r (Contents k) = value_part r.contents
row_part r (Mark k) = misfit_unless r.fits

-- the part of a row of a table, and of the contents beside it; no mark is set
abbrev pub table_part : SortRow → Set → Entry → Part
table_part r s (DataIn k) = r.data_in
table_part r s (BindsIn k) = r.binds_in
table_part r s (DataOut k) = r.data_out
table_part r s (BindsOut k) = r.binds_out
table_part r s (Escaped k) = r.escaped
table_part r s (Contents k) = one_or_unreached s
table_part r s (Mark k) = Unreached
