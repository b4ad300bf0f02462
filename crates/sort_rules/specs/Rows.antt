-- What contracts see of a table in memory: the rows and the contents of its nodes.
use Rattle.std.specs.Prelude.{◌≡◌, ℕ, ◌+◌, List, length, max, slice_index_or}
use Rattle.action_terms.specs.Actions.{Action}
use Rattle.sort_rules.specs.Sets.{Set, empty_set}
use Rattle.sort_rules.specs.Parts.{Part, Unreached}
use Rattle.sort_rules.specs.Tables.{DataIn, BindsIn, DataOut, BindsOut, Escaped, Contents, Mark, MarkedTable}
use Rattle.sort_rules.specs.Shapes.{part_length}
use Rattle.sort_rules.specs.Values.{one_or_unreached}
use Rattle.sort_rules.specs.Demands.{Each, allocate_nodes, closure_bodies}
use Rattle.sort_rules.specs.Wellformed.{IsSetOf, IsPartOf, IsAscendingSet, IsSort, IsTuple, IsBindings}

-- a node's row
pub record SortRow : Type 0 where
  pub data_in : Part
  pub binds_in : Part
  pub data_out : Part
  pub binds_out : Part
  pub escaped : Part

-- the greatest length in a row
abbrev pub row_length : SortRow → ℕ
row_length r =
    max (part_length r.data_in) (max (part_length r.binds_in) (max (part_length r.data_out) (max (part_length r.binds_out) (part_length r.escaped))))

-- the words that a row takes among the slots
abbrev pub row_words : SortRow → ℕ
row_words r = 8 + part_length r.data_in + part_length r.binds_in + part_length r.data_out + part_length r.binds_out + part_length r.escaped

-- the rows, and the contents of the cells of each node
pub record SortTable : Type 0 where
  pub rows : List SortRow
  pub contents : List Set

-- the row of a node that nothing reaches
abbrev pub unreached_row : SortRow
unreached_row = record { data_in = Unreached; binds_in = Unreached; data_out = Unreached; binds_out = Unreached; escaped = Unreached }

-- the marked table without marks; past its rows everything is unreached
abbrev pub unmarked : SortTable → MarkedTable
unmarked t (DataIn k) = (slice_index_or t.rows k unreached_row).data_in
unmarked t (BindsIn k) = (slice_index_or t.rows k unreached_row).binds_in
unmarked t (DataOut k) = (slice_index_or t.rows k unreached_row).data_out
unmarked t (BindsOut k) = (slice_index_or t.rows k unreached_row).binds_out
unmarked t (Escaped k) = (slice_index_or t.rows k unreached_row).escaped
unmarked t (Contents k) = one_or_unreached (slice_index_or t.contents k empty_set)
unmarked t (Mark k) = Unreached

-- ---- the tables that can be made

-- a tuple without a clash
pub record IsTupleSort (x : Part) : Type 0 where
  pub sort : IsSort x
  pub tuple : IsTuple x

-- bindings without a clash
pub record IsBindSort (x : Part) : Type 0 where
  pub sort : IsSort x
  pub bindings : IsBindings x

-- each part of the row is well-formed
pub record IsSortRow (r : SortRow) : Type 0 where
  pub data_in : IsTupleSort r.data_in
  pub binds_in : IsBindSort r.binds_in
  pub data_out : IsTupleSort r.data_out
  pub binds_out : IsBindSort r.binds_out
  pub escaped : IsTupleSort r.escaped

-- as many rows as contents, and all of them well-formed
pub record IsTable (t : SortTable) : Type 0 where
  pub same_length : length t.rows ≡ length t.contents
  pub rows : Each IsSortRow t.rows
  pub contents : Each IsAscendingSet t.contents

-- ---- the tables of an action

-- so is each part of the row, over these cells and bodies
pub record IsRowOver (cells bodies : List ℕ) (r : SortRow) : Type 0 where
  pub data_in : IsPartOf cells bodies r.data_in
  pub binds_in : IsPartOf cells bodies r.binds_in
  pub data_out : IsPartOf cells bodies r.data_out
  pub binds_out : IsPartOf cells bodies r.binds_out
  pub escaped : IsPartOf cells bodies r.escaped

-- one row for each node, over the action's cells and bodies
pub record IsTableOf (a : Action) (t : SortTable) : Type 0 where
  pub long : length t.rows ≡ length a
  pub table : IsTable t
  pub rows : Each (IsRowOver (allocate_nodes a) (closure_bodies a)) t.rows
  pub contents : Each (IsSetOf (allocate_nodes a) (closure_bodies a)) t.contents
