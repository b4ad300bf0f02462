-- How many yielders are in a yielder, as far as the limit on nodes.
use Rattle.std.specs.Prelude.{◌≡◌, ℕ, ◌<◌, min, List, length, slice_index}
use Rattle.action_terms.specs.Forms.{yielder_at}
use Rattle.action_terms.specs.Need.{yielder_count}
use Rattle.action_terms.specs.Numbering.{ListedYielder, node_limit}

-- so many, or the limit where they are more
abbrev pub capped : ℕ → ℕ
capped n = min n node_limit

-- these are the numbers of the yielders in each yielder, by the yielders' numbers
pub record AreCounts (yielders : List ListedYielder) (counts : List ℕ) : Type 0 where
  pub size : length counts ≡ length yielders
  pub each : (k : ℕ) → k < length yielders → slice_index counts k ≡ capped (yielder_count (yielder_at yielders k))
