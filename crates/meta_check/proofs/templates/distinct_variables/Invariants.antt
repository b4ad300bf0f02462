use Rattle.std.proofs.Common.{map, take}
use Rattle.gram_form.specs.Plain.{texts}
use Rattle.meta_terms.specs.PlainItems.{plain_pattern_part}
use Rattle.meta_check.specs.Views.{variables_of}
use Rattle.meta_check.proofs.Variables.{AreDistinct}
use Rattle.meta_check.proofs.templates.distinct_variables.Given as goal

abbrev pub invariant-loop-part : goal.invariant-loop-part
invariant-loop-part l = AreDistinct (texts l.variables.keys) (variables_of (take l.part-index (map plain_pattern_part l.pattern)))
