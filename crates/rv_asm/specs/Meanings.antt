-- What it is for a run of the machine to follow a meaning: at every moment it shows what the meaning allows.
use Rattle.std.specs.Prelude.{◌≡◌, ℕ, ◌+◌, ◌*◌, ◌≤◌, List}
use Rattle.rv_code.specs.Machine.{State, Outcome, Ran, Exited, Trapped, run}

-- a meaning, by its configurations: how many steps led to one, what was sent by then, the instructions that code may still
-- spend there without a step, whether a performance comes to it, and whether that ends with an exit code. The pace allows
-- `factor` instructions a step, and `start` before the first.
pub record Meaning : Type 1 where
  pub Configuration : Type 0
  pub steps : Configuration → ℕ
  pub output : Configuration → List ℕ
  pub pending : Configuration → ℕ
  pub IsReached : Configuration → Type 0
  pub EndsWith : Configuration → ℕ → Type 0
  pub factor : ℕ
  pub start : ℕ
  pub ample : start ≤ factor

-- after n instructions: the machine runs with the output of a configuration that is reached, at the pace; or it has exited as
-- such a configuration ends; and it has not trapped
abbrev pub IsShown : Meaning → ℕ → Outcome → Type 0
IsShown m n (Ran s) =
    (c : m.Configuration) × m.IsReached c × (s.output ≡ m.output c) × (n ≤ m.factor * (m.steps c + 1))
IsShown m n (Exited code output) = (c : m.Configuration) × m.IsReached c × (output ≡ m.output c) × m.EndsWith c code
IsShown m n (Trapped cause) = ⊥

-- the run from a state follows the meaning, after every number of instructions
abbrev pub Follows : Meaning → State → Type 0
Follows m start = (n : ℕ) → IsShown m n (run n start)
