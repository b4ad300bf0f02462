-- Lists with an entry for each node that are filled from the last node to the first.
use Rattle.std.specs.Prelude.{◌≡◌, ℕ, ◌<◌, List, [], ◌∷◌, Some, length, drop, slice_set, slice_index}
use Rattle.action_terms.specs.Actions.{Action}
use Rattle.sort_rules.specs.Measures.{numbers_before, node_numbers, rows_slots}
use Rattle.sort_rules.specs.Procedures.{parts_at, holder_from, or_else}
use Rattle.sort_rules.specs.Tables.{MarkedTable}

-- node k is written down for each of its parts
abbrev pub with_whole : (k : ℕ) → (parts : List ℕ) → List ℕ → List ℕ
with_whole k [] wholes = wholes
with_whole k (part ∷ parts) wholes = with_whole k parts (slice_set wholes part k)

-- for each node stands there the node, among those from number k on, that it is a part of, which has a smaller number; or, where there is none, the node itself
pub record AreWholes (a : Action) (k : ℕ) (wholes : List ℕ) : Type 0 where
  pub long : length wholes ≡ length a
  pub each : (j : ℕ) → j < length a → slice_index wholes j ≡ or_else (λ i. i) j (holder_from parts_at k (drop k a) j)
  pub before : (j i : ℕ) → holder_from parts_at k (drop k a) j ≡ Some i → i < j

-- these are, for each node as a root, the words of those of the nodes from number k on whose procedure it is the root of
pub record AreSums (a : Action) (t : MarkedTable) (k : ℕ) (sums : List ℕ) : Type 0 where
  pub long : length sums ≡ length a
  pub last : List ℕ
  pub numbers : numbers_before k last ≡ node_numbers a
  pub each : (c : ℕ) → c < length a → slice_index sums c ≡ rows_slots a t c last
