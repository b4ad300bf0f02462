use Rattle.std.proofs.Common.{◌≡◌, map, take}
use Rattle.gram_form.specs.Plain.{texts, plain_production}
use Rattle.gram_form.specs.Grammars.{names_of}
use Rattle.source_lex.proofs.numbered.names.Given as goal

abbrev pub invariant-loop-production : goal.invariant-loop-production
invariant-loop-production l = texts l.names.keys ≡ take l.production-index (names_of (map plain_production l.list))
