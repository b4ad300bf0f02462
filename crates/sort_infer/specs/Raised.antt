-- What a visit of a node does to the rows of a marked table in memory.
use Rattle.std.specs.Prelude.{◌≡◌, ◌⊎◌, ℕ, ◌<◌, Bool, true, false, List, length}
use Rattle.action_terms.specs.Actions.{Action}
use Rattle.sort_rules.specs.Admissible.{Holds}
use Rattle.sort_rules.specs.Demands.{Demand, ◌⊒◌, allocate_nodes, closure_bodies}
use Rattle.sort_rules.specs.Judgements.{misfit_unless}
use Rattle.sort_rules.specs.MarkedRows.{marked_table, row_part}
use Rattle.sort_rules.specs.Parts.{Part, Unreached, join}
use Rattle.sort_rules.specs.Raising.{IsJoined, IsRaised, table_room}
use Rattle.sort_rules.specs.Tables.{Entry, MarkedTable, node_of}
use Rattle.sort_rules.specs.Views.{marked_binds_of, marked_tuple_of, value_part}
use Rattle.sort_rules.specs.Wellformed.{IsTableOver}
use Rattle.sort_rules.specs.declared.rows.MarkedRow.{MarkedRow}

-- the entry of a demand
abbrev pub entry_of : Demand → Entry
entry_of (x ⊒ v) = x

-- the second table is the first with the demand's entry joined with its part
abbrev pub RaisesBy : Demand → (t u : MarkedTable) → Type 0
RaisesBy (x ⊒ v) t u = IsJoined t u x v

-- so it is in the row of the demand's node
pub record RaisesEntry (x : Entry) (v : Part) (old new : MarkedRow) : Type 0 where
  pub at : row_part new x ≡ join (row_part old x) v
  pub others : (y : Entry) → node_of y ≡ node_of x → (y ≡ x) ⊎ (row_part new y ≡ row_part old y)

-- by a demand
abbrev pub RaisesRow : Demand → (old new : MarkedRow) → Type 0
RaisesRow (x ⊒ v) old new = RaisesEntry x v old new

-- one row for each node, and every part over the cells and the bodies of the action
pub record IsProperTable (a : Action) (rows : List MarkedRow) : Type 0 where
  pub count : length rows ≡ length a
  pub over : IsTableOver (allocate_nodes a) (closure_bodies a) (marked_table rows)

-- how often the entries of the rows may still grow
abbrev pub room_of : Action → List MarkedRow → ℕ
room_of a rows = table_room (length a) (length a) (marked_table rows)

-- the table is raised towards each that meets the demands; where it didn't grow it is as before, and where it grew it has less room
pub record Grows (a : Action) (grew : Bool) (old new : List MarkedRow) : Type 0 where
  pub raised : IsRaised a (marked_table old) (marked_table new)
  pub proper : IsProperTable a new
  pub same : grew ≡ false → new ≡ old
  pub less : grew ≡ true → room_of a new < room_of a old

-- the table is raised until the demands of all nodes hold
pub record Settles (a : Action) (old new : List MarkedRow) : Type 0 where
  pub raised : IsRaised a (marked_table old) (marked_table new)
  pub proper : IsProperTable a new
  pub holds : (k : ℕ) → k < length a → Holds a (marked_table new) k

-- the row of a node that gets these, and of which nothing else is known
pub record IsGiven (m : MarkedRow) (given received : Part) : Type 0 where
  pub data_in : marked_tuple_of m.g ≡ given
  pub binds_in : marked_binds_of m.h ≡ received
  pub data_out : marked_tuple_of m.o ≡ Unreached
  pub binds_out : marked_binds_of m.p ≡ Unreached
  pub escaped : marked_tuple_of m.e ≡ Unreached
  pub contents : value_part m.contents ≡ Unreached
  pub mark : misfit_unless m.fits ≡ Unreached
