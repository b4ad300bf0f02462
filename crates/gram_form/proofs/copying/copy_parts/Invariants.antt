use Rattle.std.proofs.Common.{◌≡◌, map, take}
use Rattle.std.specs.Prelude.{fold}
use Rattle.std.specs.List.{flat_map}
use Rattle.gram_form.specs.Plain.{plain_part}
use Rattle.gram_form.specs.Grammars.{seen_with, literal_in}
use Rattle.gram_form.proofs.copying.copy_parts.Given as goal

abbrev pub invariant-loop-part : goal.invariant-loop-part
invariant-loop-part l = (map plain_part l.list.items ≡ map plain_part (take l.part-index l.parts)) × (l.literals ≡ fold seen_with l.initial.literals (flat_map literal_in (map plain_part (take l.part-index l.parts))))
