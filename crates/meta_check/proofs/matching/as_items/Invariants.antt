use Rattle.std.proofs.Common.{◌≡◌, map, take}
use Rattle.meta_terms.specs.PlainItems.{plain_declaration, plain_item}
use Rattle.meta_check.specs.Views.{declarations_of}
use Rattle.meta_check.proofs.matching.as_items.Given as goal

abbrev pub invariant-loop-declaration : goal.invariant-loop-declaration
invariant-loop-declaration l = declarations_of (map plain_item l.list.items) ≡ take l.declaration-index (map plain_declaration l.declarations)
