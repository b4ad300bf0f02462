use Rattle.std.proofs.Common.{◌≡◌, map, take}
use Rattle.meta_terms.specs.PlainItems.{plain_declaration, plain_item}
use Rattle.meta_check.specs.Views.{declarations_of}
use Rattle.meta_check.proofs.kinds.declarations.Given as goal

abbrev pub invariant-loop-item : goal.invariant-loop-item
invariant-loop-item l = map plain_declaration l.list.items ≡ declarations_of (take l.item-index (map plain_item l.items))
