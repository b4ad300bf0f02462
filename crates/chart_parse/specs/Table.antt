-- Lists of rows in a table.
use Rattle.std.specs.Prelude.{ℕ, List, [], ◌∷◌, zero, suc, Vec}
use Rattle.std.specs.Global.{Global}
use Rattle.chart_parse.specs.declared.rows.Entry.{Entry}
use Rattle.chart_parse.specs.Rows.{AreWide}

-- the list of the number
abbrev pub list_at : List (Vec Entry Global) → ℕ → List Entry
list_at [] n = []
list_at (v ∷ vs) zero = v.items
list_at (v ∷ vs) (suc n) = list_at vs n

-- each row of each list has that many words
abbrev pub AllWide : ℕ → List (Vec Entry Global) → Type 0
AllWide width table = (n : ℕ) → AreWide width (list_at table n)
