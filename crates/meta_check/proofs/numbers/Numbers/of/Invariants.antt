use Rattle.std.proofs.Common.{map, take}
use Rattle.gram_form.specs.Grammars.{names_of}
use Rattle.gram_form.specs.Plain.{plain_production}
use Rattle.meta_check.proofs.NumberTable.{HasPlaces}
use Rattle.meta_check.proofs.numbers.Numbers.of.Given as goal

abbrev pub invariant-loop-number : goal.invariant-loop-number
invariant-loop-number l = HasPlaces l.places.entries (take l.number (names_of (map plain_production l.productions)))
