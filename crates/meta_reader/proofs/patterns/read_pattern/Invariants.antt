use Rattle.std.proofs.Common.{◌≡◌, ◌≤◌, ◌-◌, drop, map, length}
use Rattle.meta_terms.specs.PlainItems.{plain_pattern_part}
use Rattle.action_text.specs.Texts.{texts}
use Rattle.meta_reader.specs.Parsing.{pattern_of}
use Rattle.meta_reader.proofs.Walking.{pattern_fronts}
use Rattle.meta_reader.proofs.patterns.read_pattern.Given as goal

abbrev pub invariant-loop-at : goal.invariant-loop-at
invariant-loop-at l = record {
  begun : l.fn.from ≤ l.at;
  within : l.at ≤ length l.run;
  parts : pattern_of (drop l.fn.from (texts l.run)) ≡ pattern_fronts (map plain_pattern_part l.list.items) (pattern_of (drop l.at (texts l.run)));
}

abbrev pub decreases-loop-at : goal.decreases-loop-at
decreases-loop-at l = length l.initial.run - l.at
