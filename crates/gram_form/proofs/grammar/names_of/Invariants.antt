use Rattle.std.proofs.Common.{map, take}
use Rattle.gram_form.specs.Plain.{texts, plain_production}
use Rattle.gram_form.specs.Grammars.{HaveSame, names_of}
use Rattle.gram_form.proofs.grammar.names_of.Given as goal

abbrev pub invariant-loop-production : goal.invariant-loop-production
invariant-loop-production l = HaveSame (texts l.names.keys) (take l.production-index (names_of (map plain_production l.list)))
