-- The performance that a number chooses: each step is an open one whose index comes from a linear congruential generator.
use Rattle.std.specs.Prelude.{◌≡◌, ℕ, zero, suc, ◌+◌, ◌*◌, ◌/◌, ◌%◌, ◌^◌, ℤ, List, [], ◌∷◌, length, Some, slice_get}
use Rattle.action_terms.specs.Actions.{Action}
use Rattle.action_terms.specs.Steps.{Step, open_steps}
use Rattle.action_terms.specs.Performances.{State, start, after}

-- the number after x
abbrev pub next_number : ℕ → ℕ
next_number x = (x * 6364136223846793005 + 1442695040888963407) % 2 ^ 64

-- the number of step t, from 0, of the schedule that begins with n
abbrev pub number_at : (n t : ℕ) → ℕ
number_at n zero = n
number_at n (suc t) = next_number (number_at n t)

-- the index that a number chooses among so many open steps
abbrev pub chosen : (x count : ℕ) → ℕ
chosen x count = (x / 2 ^ 33) % count

-- the open step that a number chooses in a state
abbrev pub IsChosen : Action → ℕ → State → Step → Type 0
IsChosen a x s n = slice_get (open_steps a s.world s.tree) (chosen x (length (open_steps a s.world s.tree))) ≡ Some n

-- these steps, the last of them first, are those that the schedule of n takes over the input, and they lead to the state
abbrev pub IsScheduled : ℕ → Action → List ℤ → List Step → State → Type 0
IsScheduled n a input [] s = s ≡ start input
IsScheduled n a input (m ∷ earlier) s =
    (before : State) × IsScheduled n a input earlier before × IsChosen a (number_at n (length earlier)) before m × (s ≡ after m before)
