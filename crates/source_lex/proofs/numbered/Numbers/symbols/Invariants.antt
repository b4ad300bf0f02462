use Rattle.std.proofs.Common.{◌≡◌, map, take}
use Rattle.gram_form.specs.Plain.{texts, plain_part}
use Rattle.source_lex.specs.Numbered.{symbol_of}
use Rattle.source_lex.proofs.numbered.Numbers.symbols.Given as goal

abbrev pub invariant-loop-part : goal.invariant-loop-part
invariant-loop-part l =
    l.list.items ≡ map (λ part. symbol_of (texts l.self.names.keys) (texts l.self.literals.keys) (plain_part part)) (take l.part-index l.parts)
