use Rattle.std.proofs.Common.{◌≡◌, false, take}
use Rattle.std.specs.List.{list_any}
use Rattle.gram_form.specs.Grammars.{is_undefined}
use Rattle.gram_form.specs.declared.part.Part.{Part}
use Rattle.gram_form.specs.Plain.{plain_part, texts}
use Rattle.std.proofs.Common.{List, Bor}
use Rattle.meta_check.proofs.names.alternatives_outside.Given as goal

abbrev pub invariant-loop-parts : goal.invariant-loop-parts
invariant-loop-parts l = list_any (λ (a : Bor (List Part)). list_any (λ (p : Part). is_undefined (texts l.names.keys) (plain_part p)) a.now) (take l.parts-index l.alternatives) ≡ false
