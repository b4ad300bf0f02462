use Rattle.std.proofs.Common.{◌∙◌, ap, map, sym}
use Rattle.std.proofs.lemmas.List.{take_all}
use Rattle.std.proofs.lemmas.Simd.{map-map}
use Rattle.gram_form.specs.Plain.{texts, plain_part}
use Rattle.source_lex.specs.Numbered.{symbol_of}
use Rattle.source_lex.proofs.numbered.Numbers.symbols.Goals as goal

pub returns : goal.returns
returns c =
    c.into_bump_slice.ensures
    ∙ c.loop-part.invariant
    ∙ ap (map (λ part. symbol_of (texts c.args.self.now.names.keys) (texts c.args.self.now.literals.keys) (plain_part part))) (take_all c.loop-part.part-index c.args.parts.now c.loop-part-test.false)
    ∙ sym (map-map (symbol_of (texts c.args.self.now.names.keys) (texts c.args.self.now.literals.keys)) plain_part c.args.parts.now)
