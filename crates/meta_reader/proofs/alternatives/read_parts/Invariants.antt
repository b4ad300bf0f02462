use Rattle.std.proofs.Common.{◌≡◌, drop, map}
use Rattle.gram_form.specs.Plain.{plain_part}
use Rattle.action_text.specs.Texts.{texts}
use Rattle.meta_reader.specs.Parsing.{inside}
use Rattle.meta_reader.proofs.Walking.{fronts}
use Rattle.meta_reader.proofs.alternatives.read_parts.Given as goal

abbrev pub invariant-loop-at : goal.invariant-loop-at
invariant-loop-at l = inside (drop l.fn.from (texts l.run)) ≡ fronts (map plain_part l.list.items) (inside (drop l.at (texts l.run)))
