-- What contracts see of sets, rows and tables in memory.
use Rattle.std.specs.Prelude.{ℕ, List, [], map}
use Rattle.std.specs.Borrow.{Bor}
use Rattle.sort_rules.specs.Sets as meant
use Rattle.sort_rules.specs.Parts.{Component, Part, Unreached, Listed, Clash}
use Rattle.sort_rules.specs.Rows.{SortRow, SortTable}
use Rattle.sort_rules.specs.declared.set.Set.{Set}
use Rattle.sort_rules.specs.Values.{one}
use Rattle.sort_rules.specs.Judgements.{Judgement, misfit_unless}
use Rattle.sort_rules.specs.declared.values.Value.{Value}
use Rattle.sort_rules.specs.declared.values.Value.TheVariants as value
use Rattle.sort_rules.specs.declared.values.Judged.{Judged}
use Rattle.sort_rules.specs.declared.table.TupleSort.{TupleSort}
use Rattle.sort_rules.specs.declared.table.TupleSort.TheVariants as tuple
use Rattle.sort_rules.specs.declared.table.BindSort.{BindSort}
use Rattle.sort_rules.specs.declared.table.BindSort.TheVariants as binds
use Rattle.sort_rules.specs.declared.table.Row.{Row}
use Rattle.sort_rules.specs.declared.parts.MarkedTuple.{MarkedTuple}
use Rattle.sort_rules.specs.declared.parts.MarkedTuple.TheVariants as marked_tuple
use Rattle.sort_rules.specs.declared.parts.MarkedBinds.{MarkedBinds}
use Rattle.sort_rules.specs.declared.parts.MarkedBinds.TheVariants as marked_binds

-- a set without where its numbers lie
abbrev pub set_of : Set → meant.Set
set_of s = record { integer = s.integer; truth = s.truth; cells = s.cells.now; abstractions = s.abstractions.now }

-- a place of a tuple has no token
abbrev pub place_of : Set → Component
place_of s = record { token = []; set = set_of s }

-- the part of a tuple
abbrev pub tuple_of : TupleSort → Part
tuple_of tuple.Unreached = Unreached
tuple_of (tuple.List sets) = Listed (map place_of sets.now)

-- a token with its set
abbrev pub pair_of : Bor (List ℕ) × Set → Component
pair_of p = record { token = p.0.now; set = set_of p.1 }

-- the part of bindings
abbrev pub binds_of : BindSort → Part
binds_of binds.Unreached = Unreached
binds_of (binds.Map pairs) = Listed (map pair_of pairs.now)

-- the parts of a marked table
abbrev pub marked_tuple_of : MarkedTuple → Part
marked_tuple_of marked_tuple.Unreached = Unreached
marked_tuple_of (marked_tuple.List sets) = Listed (map place_of sets.now)
marked_tuple_of marked_tuple.Clash = Clash

-- and its bindings
abbrev pub marked_binds_of : MarkedBinds → Part
marked_binds_of marked_binds.Unreached = Unreached
marked_binds_of (marked_binds.Map pairs) = Listed (map pair_of pairs.now)
marked_binds_of marked_binds.Clash = Clash

-- what a yielder may yield
abbrev pub value_part : Value → Part
value_part value.Unreached = Unreached
value_part (value.One s) = one (set_of s)
value_part value.Clash = Clash

-- and whether it fits
abbrev pub judgement_of : Judged → Judgement
judgement_of j = record { value = value_part j.value; wrong = misfit_unless j.fits }

-- the row of a node
abbrev pub row_of : Row → SortRow
row_of r = record { data_in = tuple_of r.g; binds_in = binds_of r.h; data_out = tuple_of r.o; binds_out = binds_of r.p; escaped = tuple_of r.e }

-- the table with these rows and contents
abbrev pub sort_table : List Row → List Set → SortTable
sort_table rows contents = record { rows = map row_of rows; contents = map set_of contents }
