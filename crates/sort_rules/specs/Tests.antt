-- Tests of the order of parts, and of the demands at a node.
use Rattle.std.specs.Prelude.{ℕ, zero, suc, Bool, true, false, ◌&&◌, List, [], ◌∷◌}
use Rattle.action_terms.specs.Actions.{Action}
use Rattle.sort_rules.specs.Numbers.{are_listed}
use Rattle.sort_rules.specs.Sets.{Set}
use Rattle.sort_rules.specs.Parts.{Component, Part, Unreached, Listed, Clash, same_token}
use Rattle.sort_rules.specs.Tables.{BindsIn, DataIn, MarkedTable}
use Rattle.sort_rules.specs.Values.{nothing}
use Rattle.sort_rules.specs.Demands.{Demand, ◌⊒◌, demands}

-- not the first without the second
abbrev pub implies : Bool → Bool → Bool
implies true b = b
implies false b = true

-- whether a set lies in another
abbrev pub is_subset : Set → Set → Bool
is_subset x y = implies x.integer y.integer && (implies x.truth y.truth && (are_listed x.cells y.cells && are_listed x.abstractions y.abstractions))

-- whether a list lies below another
abbrev pub are_below : List Component → List Component → Bool
are_below [] [] = true
are_below (p ∷ ps) (q ∷ qs) = same_token p.token q.token && (is_subset p.set q.set && are_below ps qs)
are_below _ _ = false

-- whether a part lies below another
abbrev pub is_below : Part → Part → Bool
is_below Unreached y = true
is_below (Listed ps) (Listed qs) = are_below ps qs
is_below (Listed ps) Clash = true
is_below Clash Clash = true
is_below _ _ = false

-- whether a demand is met
abbrev pub is_met : MarkedTable → Demand → Bool
is_met t (x ⊒ least) = is_below least (t x)

-- whether all of them are
abbrev pub are_met : MarkedTable → List Demand → Bool
are_met t [] = true
are_met t (d ∷ ds) = is_met t d && are_met t ds

-- whether the demands at node k hold
abbrev pub holds : Action → MarkedTable → ℕ → Bool
holds a t k = are_met t (demands a t k)

-- whether the root's demand is met: it is given nothing and receives nothing
abbrev pub root_is_met : MarkedTable → Bool
root_is_met t = are_met t (DataIn 0 ⊒ nothing ∷ BindsIn 0 ⊒ nothing ∷ [])

-- whether the demands at the first so many nodes hold
abbrev pub all_hold : Action → MarkedTable → (nodes : ℕ) → Bool
all_hold a t zero = true
all_hold a t (suc k) = holds a t k && all_hold a t k
