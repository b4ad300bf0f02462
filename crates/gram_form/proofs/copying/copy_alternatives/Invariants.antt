use Rattle.std.proofs.Common.{◌≡◌, map, take}
use Rattle.std.specs.Prelude.{fold}
use Rattle.std.specs.List.{flat_map}
use Rattle.gram_form.specs.Plain.{plain_alternative}
use Rattle.gram_form.specs.Grammars.{seen_with, literal_in, parts_in}
use Rattle.gram_form.proofs.copying.copy_alternatives.Given as goal

abbrev pub invariant-loop-parts : goal.invariant-loop-parts
invariant-loop-parts l = (map plain_alternative l.list.items ≡ map plain_alternative (take l.parts-index l.alternatives)) × (l.literals ≡ fold seen_with l.initial.literals (flat_map literal_in (parts_in (map plain_alternative (take l.parts-index l.alternatives)))))
