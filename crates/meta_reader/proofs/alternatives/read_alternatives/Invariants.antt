use Rattle.std.proofs.Common.{◌≡◌, ◌≤◌, ◌-◌, drop, map, length}
use Rattle.gram_form.specs.Plain.{plain_alternative}
use Rattle.action_text.specs.Texts.{texts}
use Rattle.meta_reader.specs.Parsing.{unopened}
use Rattle.meta_reader.proofs.Walking.{alternative_fronts}
use Rattle.meta_reader.proofs.alternatives.read_alternatives.Given as goal

abbrev pub invariant-loop-at : goal.invariant-loop-at
invariant-loop-at l =
    (l.at ≤ length l.run)
    × (unopened (drop l.fn.from (texts l.run)) ≡ alternative_fronts (map plain_alternative l.list.items) (unopened (drop l.at (texts l.run))))

abbrev pub decreases-loop-at : goal.decreases-loop-at
decreases-loop-at l = length l.initial.run - l.at
