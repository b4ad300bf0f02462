-- Memory of which a front is kept: zeros behind it need no memory of the host.
use Rattle.std.specs.Prelude.{ℕ, ◌-◌, ◌≤◌, List, ◌++◌, length, replicate}

-- the bytes, with zeros behind them up to a size
abbrev pub padded : (size : ℕ) → List ℕ → List ℕ
padded size front = front ++ replicate (size - length front) 0

-- a front is no longer than the size, for which there is room
pub record IsFront (size count room : ℕ) : Type 0 where
  pub short : count ≤ size
  pub fits : size ≤ room
