use Rattle.std.proofs.Common.{◌≡◌, map, take}
use Rattle.meta_terms.specs.PlainItems.{plain_equation, plain_item}
use Rattle.meta_check.specs.Views.{equations_of}
use Rattle.meta_check.proofs.kinds.equations.Given as goal

abbrev pub invariant-loop-item : goal.invariant-loop-item
invariant-loop-item l = map plain_equation l.list.items ≡ equations_of (take l.item-index (map plain_item l.items))
