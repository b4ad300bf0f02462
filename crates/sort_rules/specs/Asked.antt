-- What a node asks of its operands.
use Rattle.std.specs.Prelude.{ℕ, false, List, [], ◌∷◌}
use Rattle.action_terms.specs.Actions.{Yielder, Item}
use Rattle.action_terms.specs.Steps.{closures_in, closures_in_items}
use Rattle.action_terms.specs.declared.kinds.Sort.{Sort}
use Rattle.action_terms.specs.declared.kinds.Sort.TheVariants as sort
use Rattle.sort_rules.specs.Parts.{Part, when, join}
use Rattle.sort_rules.specs.Tables.{BindsIn, DataOut, BindsOut, Escaped, Mark, MarkedTable}
use Rattle.sort_rules.specs.Values.{one, strays, clashes}
use Rattle.sort_rules.specs.Demands.{Demand, ◌⊒◌, value_at, wrong_at, items_wrong_at, live_at, received_by}

-- the yielder fits and lies in the sort, and the closures in it receive the node's bindings
abbrev pub sort_demands : MarkedTable → ℕ → Sort → Yielder → List Demand
sort_demands t k s y = Mark k ⊒ join (wrong_at t k y) (strays s (value_at t k y)) ∷ received_by (t (BindsIn k)) (closures_in y)

-- it fits and is no clash
abbrev pub any_demands : MarkedTable → ℕ → Yielder → List Demand
any_demands t k y = Mark k ⊒ join (wrong_at t k y) (clashes (value_at t k y)) ∷ received_by (t (BindsIn k)) (closures_in y)

-- the items fit, and the closures in them receive the node's bindings
abbrev pub data_demands : MarkedTable → ℕ → List Item → List Demand
data_demands t k is = Mark k ⊒ items_wrong_at t k is ∷ received_by (t (BindsIn k)) (closures_in_items is)

-- what decides a branch lies in truth-value, where the node is live
abbrev pub decision_demands : MarkedTable → ℕ → Yielder → List Demand
decision_demands t k y =
    Mark k ⊒ when (live_at t k) (join (wrong_at t k y) (strays sort.Truth (when (live_at t k) (value_at t k y))))
    ∷ received_by (when (live_at t k) (t (BindsIn k))) (closures_in y)

-- the node ends as an arm does, where the value v that decides is reached
abbrev pub arm_ends : MarkedTable → ℕ → Part → (arm : ℕ) → List Demand
arm_ends t k v arm = DataOut k ⊒ when v (t (DataOut arm)) ∷ BindsOut k ⊒ when v (t (BindsOut arm)) ∷ Escaped k ⊒ t (Escaped arm) ∷ []

-- a value that may be a cell of any of these nodes
abbrev pub any_cell : List ℕ → Part
any_cell cells = one (record { integer = false; truth = false; cells = cells; abstractions = [] })

-- and one that may be a closure of any of these bodies
abbrev pub any_closure : List ℕ → Part
any_closure bodies = one (record { integer = false; truth = false; cells = []; abstractions = bodies })
