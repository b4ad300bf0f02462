use Rattle.std.proofs.Common.{take}
use Rattle.gram_form.specs.Plain.{texts}
use Rattle.source_lex.specs.Literals.{HasLengths}
use Rattle.source_lex.proofs.literals.Literals.new.Given as goal

abbrev pub invariant-loop-literal : goal.invariant-loop-literal
invariant-loop-literal l = HasLengths l.lengths.keys (take l.literal-index (texts l.literals))
