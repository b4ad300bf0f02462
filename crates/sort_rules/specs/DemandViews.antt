-- What contracts see of demands in memory.
use Rattle.std.specs.Prelude.{List, map}
use Rattle.sort_rules.specs.Judgements.{misfit_unless}
use Rattle.sort_rules.specs.Tables as entry
use Rattle.sort_rules.specs.Demands.{Demand as Meant, ◌⊒◌}
use Rattle.sort_rules.specs.Views.{marked_tuple_of, marked_binds_of, value_part}
use Rattle.sort_rules.specs.declared.demands.Demand.{Demand}
use Rattle.sort_rules.specs.declared.demands.Demand.TheVariants as demand

-- a demand without where its part lies
abbrev pub demand_of : Demand → Meant
demand_of (demand.DataIn k x) = entry.DataIn k ⊒ marked_tuple_of x
demand_of (demand.BindsIn k x) = entry.BindsIn k ⊒ marked_binds_of x
demand_of (demand.DataOut k x) = entry.DataOut k ⊒ marked_tuple_of x
demand_of (demand.BindsOut k x) = entry.BindsOut k ⊒ marked_binds_of x
demand_of (demand.Escaped k x) = entry.Escaped k ⊒ marked_tuple_of x
demand_of (demand.Contents k v) = entry.Contents k ⊒ value_part v
demand_of (demand.Mark k fits) = entry.Mark k ⊒ misfit_unless fits

-- and a list of them
abbrev pub demands_of : List Demand → List Meant
demands_of ds = map demand_of ds
