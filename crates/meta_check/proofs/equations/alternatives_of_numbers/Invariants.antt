use Rattle.std.proofs.Common.{map, take}
use Rattle.gram_form.specs.Plain.{plain_production}
use Rattle.meta_check.specs.Tables.{AreAlternatives}
use Rattle.meta_check.proofs.equations.alternatives_of_numbers.Given as goal

abbrev pub invariant-loop-nonterminal : goal.invariant-loop-nonterminal
invariant-loop-nonterminal l = AreAlternatives (take l.nonterminal (map plain_production l.productions)) l.table.entries
