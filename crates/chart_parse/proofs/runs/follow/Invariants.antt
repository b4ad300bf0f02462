use Rattle.std.proofs.Common.{◌≡◌, ℕ, ◌≤◌, length, take}
use Rattle.std.specs.Prelude.{◌↔◌}
use Rattle.chart_parse.specs.Rows.{Has}
use Rattle.chart_parse.specs.Places.{grammar_of, width_of}
use Rattle.chart_parse.proofs.Followed.{AdvancesAmong}
use Rattle.chart_parse.proofs.runs.follow.Given as goal

abbrev pub invariant-loop-q : goal.invariant-loop-q
invariant-loop-q l = record {
  len : length l.ends.items ≡ width_of l.source.kinds.now;
  ends : (e : ℕ) → e ≤ length l.source.kinds.now → Has l.ends.items e ↔ AdvancesAmong (grammar_of l.source) l.source.kinds.now l.places l.part (take l.q l.starts.items) e;
}
