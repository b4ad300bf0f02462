use Rattle.std.proofs.Common.{◌≡◌, map, take}
use Rattle.gram_form.specs.Plain.{plain_production}
use Rattle.meta_terms.specs.PlainItems.{plain_item}
use Rattle.meta_check.specs.Views.{productions_of}
use Rattle.meta_check.proofs.kinds.productions.Given as goal

abbrev pub invariant-loop-item : goal.invariant-loop-item
invariant-loop-item l = map plain_production l.list.items ≡ productions_of (take l.item-index (map plain_item l.items))
