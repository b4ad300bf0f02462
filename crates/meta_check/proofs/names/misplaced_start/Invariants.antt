use Rattle.std.proofs.Common.{◌≡◌, [], map, take}
use Rattle.meta_terms.specs.PlainItems.{plain_item}
use Rattle.meta_check.specs.Rules.{starts_elsewhere}
use Rattle.meta_check.specs.Views.{declarations_of}
use Rattle.meta_check.proofs.Searching.{HoldsBelow}
use Rattle.meta_check.proofs.names.misplaced_start.Given as goal

abbrev pub invariant-loop-number : goal.invariant-loop-number
invariant-loop-number l = record {
  holds : HoldsBelow starts_elsewhere l.items l.number;
  none : declarations_of (take l.number (map plain_item l.items)) ≡ [];
}
