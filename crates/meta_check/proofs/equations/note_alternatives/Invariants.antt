use Rattle.std.proofs.Common.{map, take}
use Rattle.gram_form.specs.Plain.{plain_alternative}
use Rattle.meta_check.proofs.AlternativeTable.{IsNoted}
use Rattle.meta_check.proofs.equations.note_alternatives.Given as goal

abbrev pub invariant-loop-number : goal.invariant-loop-number
invariant-loop-number l = IsNoted l.initial.table.entries l.table.entries l.nonterminal (take l.number (map plain_alternative l.alternatives))
