-- Tables that are raised toward the least marked one.
use Rattle.std.specs.Prelude.{◌≡◌, ◌⊎◌, ℕ, zero, suc, ◌+◌, ◌*◌, ◌<◌, ◌≤◌, Bool, true, false, List, [], ◌∷◌, length}
use Rattle.action_terms.specs.Performances.{OneOf}
use Rattle.action_terms.specs.Actions.{Action}
use Rattle.sort_rules.specs.Numbers.{is_listed}
use Rattle.sort_rules.specs.Sets.{Set}
use Rattle.sort_rules.specs.Parts.{Component, Part, Unreached, Listed, Clash, Below, join, most_components}
use Rattle.sort_rules.specs.Tables.{Entry, DataIn, BindsIn, DataOut, BindsOut, Escaped, Contents, Mark, MarkedTable, IsUnder}
use Rattle.sort_rules.specs.Values.{nothing}
use Rattle.sort_rules.specs.Admissible.{Meets}

-- the second table is the first with one entry joined with a part
pub record IsJoined (t u : MarkedTable) (x : Entry) (v : Part) : Type 0 where
  pub at : u x ≡ join (t x) v
  pub others : (y : Entry) → (y ≡ x) ⊎ (u y ≡ t y)

-- the second table is above the first, and below each table that meets the demands and is above the first
pub record IsRaised (a : Action) (t u : MarkedTable) : Type 0 where
  pub above : IsUnder t u
  pub below : (v : MarkedTable) → Meets a v → IsUnder t v → IsUnder u v

-- the table is below each that meets the demands, and meets that of the root
pub record IsOnTheWay (a : Action) (t : MarkedTable) : Type 0 where
  pub below : (u : MarkedTable) → Meets a u → IsUnder t u
  pub root_data : Below nothing (t (DataIn 0))
  pub root_binds : Below nothing (t (BindsIn 0))

-- the table with nothing but the root's demand
abbrev pub first_table : MarkedTable
first_table (DataIn zero) = nothing
first_table (BindsIn zero) = nothing
first_table _ = Unreached

-- ---- what is still to be had

-- numbers below n, and at most the greatest number of components
pub record IsSmallSet (n : ℕ) (s : Set) : Type 0 where
  pub cells : (k : ℕ) → OneOf k s.cells → k < n
  pub abstractions : (k : ℕ) → OneOf k s.abstractions → k < n

-- so is each of the list
pub data AreSmall (n : ℕ) : List Component → Type 0 where
  NoneSmall : AreSmall n []
  OneSmall : {p : Component} {ps : List Component} → IsSmallSet n p.set → AreSmall n ps → AreSmall n (p ∷ ps)

-- a part of few components, each of them small
pub data IsSmall (n : ℕ) : Part → Type 0 where
  SmallUnreached : IsSmall n Unreached
  SmallList : {ps : List Component} → AreSmall n ps → length ps ≤ most_components → IsSmall n (Listed ps)
  SmallClash : IsSmall n Clash

-- so is each entry
abbrev pub IsSmallTable : ℕ → MarkedTable → Type 0
IsSmallTable n t = (x : Entry) → IsSmall n (t x)

-- 1 where it is not there
abbrev pub lacks : Bool → ℕ
lacks true = 0
lacks false = 1

-- how many of the numbers below n are not in the list
abbrev pub absent : ℕ → List ℕ → ℕ
absent zero xs = 0
absent (suc k) xs = lacks (is_listed k xs) + absent k xs

-- how many data a set may still get
abbrev pub set_room : ℕ → Set → ℕ
set_room n s = (lacks s.integer + lacks s.truth) + (absent n s.cells + absent n s.abstractions)

-- how many the components may still get
abbrev pub list_room : ℕ → List Component → ℕ
list_room n [] = 0
list_room n (p ∷ ps) = set_room n p.set + list_room n ps

-- how often a part may grow at most
abbrev pub room : ℕ → Part → ℕ
room n Unreached = 2 + most_components * (2 + (n + n))
room n (Listed ps) = suc (list_room n ps)
room n Clash = 0

-- and the entries of a node
abbrev pub row_room : ℕ → MarkedTable → ℕ → ℕ
row_room n t k =
    room n (t (DataIn k)) + room n (t (BindsIn k)) + room n (t (DataOut k)) + room n (t (BindsOut k)) + room n (t (Escaped k)) + room n (t (Contents k)) + room n (t (Mark k))

-- and those of the first m nodes
abbrev pub table_room : (n m : ℕ) → MarkedTable → ℕ
table_room n zero t = 0
table_room n (suc m) t = row_room n t m + table_room n m t
