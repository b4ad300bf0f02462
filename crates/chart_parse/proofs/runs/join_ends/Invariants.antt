use Rattle.std.proofs.Common.{◌≡◌, ◌⊎◌, ℕ, ◌*◌, ◌<◌, length, take}
use Rattle.std.specs.Prelude.{◌↔◌}
use Rattle.chart_parse.specs.Rows.{Has, Lists}
use Rattle.chart_parse.proofs.runs.join_ends.Given as goal

abbrev pub invariant-loop-k : goal.invariant-loop-k
invariant-loop-k l = record {
  len : length l.into ≡ length l.fn.into;
  joined : (e : ℕ) → e < 64 * length l.fn.into → Has l.into e ↔ (Has l.fn.into e ⊎ Lists (take l.k l.list) l.nonterminal e);
}
