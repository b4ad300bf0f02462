use Rattle.std.proofs.Common.{◌≡◌, map, take}
use Rattle.std.specs.Prelude.{fold}
use Rattle.std.specs.List.{flat_map}
use Rattle.gram_form.specs.Plain.{plain_production}
use Rattle.gram_form.specs.Grammars.{seen_with, literal_in, parts_of}
use Rattle.gram_form.proofs.copying.copy_productions.Given as goal

abbrev pub invariant-loop-production : goal.invariant-loop-production
invariant-loop-production l = (map plain_production l.list.items ≡ map plain_production (take l.production-index l.productions)) × (l.literals ≡ fold seen_with l.initial.literals (flat_map literal_in (parts_of (map plain_production (take l.production-index l.productions)))))
