use Rattle.std.proofs.Common.{◌≡◌, ◌≤◌, Ok, length}
use Rattle.action_terms.specs.Numbering.{node_limit}
use Rattle.equation_expand.specs.Meaning.{joined}
use Rattle.equation_expand.specs.Frames.{left_of}
use Rattle.equation_expand.specs.PlainSources.{plain_source}
use Rattle.equation_expand.specs.Sources.{expansion_of}
use Rattle.equation_expand.proofs.filling.fill.Given as goal

abbrev pub invariant-loop : goal.invariant-loop
invariant-loop l = record {
  left : expansion_of (plain_source l.source) ≡ joined (Ok l.builder) (left_of (plain_source l.source) l.stack.items);
  few : length l.builder ≤ node_limit;
}
