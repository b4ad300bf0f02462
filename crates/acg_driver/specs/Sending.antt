-- What a machine must do so that its messages can be printed one by one.
use Rattle.std.specs.Prelude.{◌≡◌, ◌*◌, ◌≤◌, ℕ, List, length}
use Rattle.rv_code.specs.Machine.{Outcome, Ran, Exited, Trapped}

-- the bytes are whole messages
abbrev pub IsWhole : List ℕ → Type 0
IsWhole bytes = (count : ℕ) × (length bytes ≡ 8 * count)

-- only whole messages were sent; an exit has a code of 0 to 3, and there is no trap
abbrev pub SendsMessages : Outcome → Type 0
SendsMessages (Ran s) = IsWhole s.output
SendsMessages (Exited code output) = IsWhole output × (code ≤ 3)
SendsMessages (Trapped cause) = ⊥
