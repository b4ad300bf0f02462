use Rattle.std.proofs.Common.{map, take}
use Rattle.gram_form.specs.Plain.{texts}
use Rattle.meta_terms.specs.PlainItems.{plain_item}
use Rattle.meta_check.specs.Views.{functions_of}
use Rattle.gram_form.specs.Grammars.{HaveSame}
use Rattle.meta_check.proofs.names.functions.Given as goal

abbrev pub invariant-loop-item : goal.invariant-loop-item
invariant-loop-item l = HaveSame (texts l.names.keys) (functions_of (take l.item-index (map plain_item l.items)))
