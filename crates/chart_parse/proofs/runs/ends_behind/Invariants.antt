use Rattle.std.proofs.Common.{◌≡◌, ℕ, ◌≤◌, drop, length}
use Rattle.std.specs.Prelude.{◌↔◌}
use Rattle.chart_parse.specs.Places.{grammar_of, width_of, RunsTo}
use Rattle.chart_parse.proofs.Followed.{RunsBy}
use Rattle.chart_parse.proofs.runs.ends_behind.Given as goal

abbrev pub invariant-loop-p : goal.invariant-loop-p
invariant-loop-p l = record {
  len : length l.ends.items ≡ width_of l.source.kinds.now;
  ends : (e : ℕ) → e ≤ length l.source.kinds.now → RunsTo (grammar_of l.source) l.source.kinds.now l.places l.parts l.start e
      ↔ RunsBy (grammar_of l.source) l.source.kinds.now l.places l.ends.items (drop l.p l.parts) e;
}
