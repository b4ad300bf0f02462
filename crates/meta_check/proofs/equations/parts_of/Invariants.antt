use Rattle.std.proofs.Common.{◌≡◌, map, take}
use Rattle.gram_form.specs.Plain.{plain_part}
use Rattle.meta_terms.specs.PlainItems.{plain_pattern_part}
use Rattle.meta_check.specs.Views.{parts_of_pattern}
use Rattle.meta_check.proofs.equations.parts_of.Given as goal

abbrev pub invariant-loop-part : goal.invariant-loop-part
invariant-loop-part l = map plain_part l.parts.items ≡ parts_of_pattern (take l.part-index (map plain_pattern_part l.pattern))
