use Rattle.std.proofs.Common.{map, take}
use Rattle.meta_terms.specs.PlainItems.{plain_item}
use Rattle.meta_check.specs.Tables.{AreNonterminals, number_by}
use Rattle.meta_check.specs.Views.{declarations_of}
use Rattle.meta_check.proofs.equations.nonterminals_of_functions.Given as goal

abbrev pub invariant-loop-item : goal.invariant-loop-item
invariant-loop-item l = AreNonterminals (number_by l.numbers) (declarations_of (take l.item-index (map plain_item l.items))) l.functions.entries
