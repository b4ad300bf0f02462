use Rattle.std.proofs.Common.{◌≡◌, ℕ, ◌*◌, ◌<◌, take, length}
use Rattle.chart_parse.specs.Rows.{Has, Lists}
use Rattle.chart_parse.proofs.near.is_alone.Given as goal

abbrev pub invariant-loop-k : goal.invariant-loop-k
invariant-loop-k l = (n e : ℕ) → e < 64 * length l.row → Lists (take l.k l.list) n e → (n ≡ l.nonterminal) × Has l.row e
