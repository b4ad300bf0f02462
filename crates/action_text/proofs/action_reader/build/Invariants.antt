use Rattle.std.proofs.Common.{◌≡◌, ◌≤◌, map, take, length}
use Rattle.action_terms.specs.Pushed.{label_of}
use Rattle.action_terms.specs.Numbering.{node_limit}
use Rattle.action_text.proofs.action_reader.build.Given as goal

abbrev pub invariant-loop-label : goal.invariant-loop-label
invariant-loop-label l = record {
  pushed : l.builder ≡ map label_of (take l.label-index l.labels);
  few : length l.builder ≤ node_limit;
}
