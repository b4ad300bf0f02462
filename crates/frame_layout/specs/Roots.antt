-- The procedures of nodes in memory.
use Rattle.std.specs.Prelude.{◌≡◌, ℕ, ◌<◌, List, [], ◌∷◌, length, filter, nat_eq, Vec, slice_index, slice_index_or, slice_set}
use Rattle.std.specs.Global.{Global}
use Rattle.std.specs.List.{range_with_len}
use Rattle.action_terms.specs.Actions.{Action}
use Rattle.sort_rules.specs.Procedures.{procedure_of}

-- the root of the procedure of each node
pub record AreRoots (a : Action) (roots : List ℕ) : Type 0 where
  pub long : length roots ≡ length a
  pub each : (k : ℕ) → k < length a → slice_index roots k ≡ procedure_of a k

-- these nodes get that root
abbrev pub handed_down : List ℕ → ℕ → List ℕ → List ℕ
handed_down [] r roots = roots
handed_down (k ∷ ks) r roots = handed_down ks r (slice_set roots k r)

-- the nodes of each root
pub record AreMembers (roots : List ℕ) (groups : List (Vec ℕ Global)) : Type 0 where
  pub long : length groups ≡ length roots
  pub each : (c : ℕ) (d : Vec ℕ Global) → c < length roots
      → (slice_index_or groups c d).items
      ≡ filter (λ k. nat_eq (slice_index roots k) c) (range_with_len 0 (length roots))
