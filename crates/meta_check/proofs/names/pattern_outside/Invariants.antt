use Rattle.std.proofs.Common.{◌≡◌, false, take}
use Rattle.std.specs.List.{list_any}
use Rattle.gram_form.specs.Grammars.{is_undefined}
use Rattle.gram_form.specs.Plain.{plain_part, texts}
use Rattle.meta_terms.specs.declared.items.PatternPart.{PatternPart}
use Rattle.meta_check.proofs.names.pattern_outside.Given as goal

abbrev pub invariant-loop-part : goal.invariant-loop-part
invariant-loop-part l = list_any (λ (p : PatternPart). is_undefined (texts l.names.keys) (plain_part p.part)) (take l.part-index l.pattern) ≡ false
