use Rattle.std.proofs.Common.{◌≤◌, drop, length}
use Rattle.source_lex.specs.Numbered.{Numbered}
use Rattle.chart_parse.specs.Places.{Places, LeadOn}
use Rattle.chart_parse.proofs.runs.after_words.Given as goal

abbrev pub invariant-loop-k : goal.invariant-loop-k
invariant-loop-k l = record {
  within : l.at ≤ length l.kinds;
  on : (g : Numbered) (p : Places) → LeadOn g l.kinds p l.parts l.start (drop l.k l.parts) l.at;
}
