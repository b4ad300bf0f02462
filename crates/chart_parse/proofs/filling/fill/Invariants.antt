use Rattle.std.proofs.Common.{ℕ, ◌+◌, ◌-◌, ◌≤◌, ◌<◌, length}
use Rattle.chart_parse.specs.Places.{grammar_of, IsPart, IsClosedAt, AreNear}
use Rattle.chart_parse.proofs.filling.fill.Given as goal

abbrev pub invariant-loop-done : goal.invariant-loop-done
invariant-loop-done l = record {
  part : IsPart (grammar_of l.source) l.source.kinds.now l.places.items;
  near : AreNear (grammar_of l.source) l.source.kinds.now l.places.items (length l.source.kinds.now + 1 - l.done) l.near.items;
  closed : (i : ℕ) → i ≤ length l.source.kinds.now → length l.source.kinds.now < i + l.done → IsClosedAt (grammar_of l.source) l.source.kinds.now l.places.items i;
}
