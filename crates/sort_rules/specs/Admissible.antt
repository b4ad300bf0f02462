-- Which tables are admissible, the least of them, and where an action is ill-sorted.
use Rattle.std.specs.Prelude.{◌≡◌, ℕ, ◌<◌, Bool, true, false, length}
use Rattle.action_terms.specs.Actions.{Action}
use Rattle.sort_rules.specs.Parts.{Part, Clash, Below}
use Rattle.sort_rules.specs.Tables.{DataIn, BindsIn, DataOut, BindsOut, Escaped, Contents, Mark, MarkedTable, IsUnder}
use Rattle.sort_rules.specs.Values.{nothing}
use Rattle.sort_rules.specs.Demands.{Each, IsMet, demands}

-- the demands at node k hold
abbrev pub Holds : Action → MarkedTable → ℕ → Type 0
Holds a t k = Each (IsMet t) (demands a t k)

-- the demands at every node hold, and the root is given nothing and receives nothing
pub record Meets (a : Action) (t : MarkedTable) : Type 0 where
  pub root_data : Below nothing (t (DataIn 0))
  pub root_binds : Below nothing (t (BindsIn 0))
  pub each : (k : ℕ) → k < length a → Holds a t k

-- whether the part is a clash
abbrev pub is_clash : Part → Bool
is_clash Clash = true
is_clash _ = false

-- no entry of node k is a clash, and its mark isn't set
pub record IsClear (t : MarkedTable) (k : ℕ) : Type 0 where
  pub data_in : is_clash (t (DataIn k)) ≡ false
  pub binds_in : is_clash (t (BindsIn k)) ≡ false
  pub data_out : is_clash (t (DataOut k)) ≡ false
  pub binds_out : is_clash (t (BindsOut k)) ≡ false
  pub escaped : is_clash (t (Escaped k)) ≡ false
  pub contents : is_clash (t (Contents k)) ≡ false
  pub mark : is_clash (t (Mark k)) ≡ false

-- an admissible table is one that meets the demands without a clash or a mark
pub record IsAdmissible (a : Action) (t : MarkedTable) : Type 0 where
  pub meets : Meets a t
  pub clear : (k : ℕ) → IsClear t k

-- the action has an admissible table
abbrev pub IsWellSorted : Action → Type 0
IsWellSorted a = (t : MarkedTable) × IsAdmissible a t

-- the admissible table that lies below every admissible one
pub record IsLeast (a : Action) (t : MarkedTable) : Type 0 where
  pub admissible : IsAdmissible a t
  pub least : (u : MarkedTable) → IsAdmissible a u → IsUnder t u

-- the marked table that lies below every other
pub record IsLeastMarked (a : Action) (t : MarkedTable) : Type 0 where
  pub meets : Meets a t
  pub least : (u : MarkedTable) → Meets a u → IsUnder t u

-- no table is admissible, and k is the least node with a clash in the least marked table
pub record IsIllSorted (a : Action) (k : ℕ) : Type 0 where
  pub none_is : (u : MarkedTable) → IsAdmissible a u → ⊥
  pub table : MarkedTable
  pub is_least : IsLeastMarked a table
  pub clash : IsClear table k → ⊥
  pub first : (i : ℕ) → i < k → IsClear table i
