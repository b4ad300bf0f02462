use Rattle.std.proofs.Common.{◌≡◌, false, ℕ, ◌<◌, get_or}
use Rattle.std.specs.Prelude.{bit_or}
use Rattle.chart_parse.proofs.rows.has_more.Given as goal

abbrev pub invariant-loop-k : goal.invariant-loop-k
invariant-loop-k l = l.more ≡ false → (j : ℕ) → j < l.k → get_or l.row j 0 ≡ bit_or (get_or l.row j 0) (get_or l.other j 0)
