use Rattle.std.proofs.Common.{◌≤◌, ◌-◌, map, length}
use Rattle.meta_terms.specs.PlainItems.{plain_item}
use Rattle.action_text.specs.Texts.{texts}
use Rattle.meta_reader.proofs.Reading.{IsRead}
use Rattle.meta_reader.proofs.reader.read.Given as goal

abbrev pub invariant-loop-at : goal.invariant-loop-at
invariant-loop-at l = record {
  within : l.at ≤ length l.list;
  read : IsRead (texts l.list) l.at l.index (map plain_item l.items.items) l.phase;
}

abbrev pub decreases-loop-at : goal.decreases-loop-at
decreases-loop-at l = length l.list - l.at
