use Rattle.std.proofs.Common.{map, take}
use Rattle.meta_terms.specs.PlainItems.{plain_item}
use Rattle.meta_check.specs.Rules.{repeats_equation}
use Rattle.meta_check.specs.Views.{equations_of}
use Rattle.meta_check.proofs.Alternatives.{ArePairs}
use Rattle.meta_check.proofs.Searching.{HoldsBelow}
use Rattle.meta_check.proofs.equations.repeated_equation.Given as goal

abbrev pub invariant-loop-number : goal.invariant-loop-number
invariant-loop-number l = record {
  holds : HoldsBelow repeats_equation l.items l.number;
  pairs : ArePairs (map plain_item l.items) l.seen.keys (equations_of (take l.number (map plain_item l.items)));
}
