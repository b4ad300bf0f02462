use Rattle.std.proofs.Common.{◌≡◌, false, ℕ, ◌<◌, ◌≤◌, length, get_or}
use Rattle.std.specs.Prelude.{bit_or}
use Rattle.chart_parse.proofs.rows.join.Given as goal

abbrev pub invariant-loop-k : goal.invariant-loop-k
invariant-loop-k l =
    (length l.into ≡ length l.fn.into)
    × ((j : ℕ) → j < l.k → get_or l.into j 0 ≡ bit_or (get_or l.fn.into j 0) (get_or l.from j 0))
    × ((j : ℕ) → l.k ≤ j → get_or l.into j 0 ≡ get_or l.fn.into j 0)
    × (l.more ≡ false → l.into ≡ l.fn.into)
