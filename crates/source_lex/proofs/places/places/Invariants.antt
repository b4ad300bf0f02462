use Rattle.std.proofs.Common.{◌≡◌, take}
use Rattle.gram_form.specs.Plain.{texts}
use Rattle.source_lex.proofs.places.places.Given as goal

abbrev pub invariant-loop-text : goal.invariant-loop-text
invariant-loop-text l = texts l.places.keys ≡ take l.text-index (texts l.list)
