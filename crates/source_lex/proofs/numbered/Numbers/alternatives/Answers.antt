use Rattle.std.proofs.Common.{◌∙◌, ap, map, sym, List}
use Rattle.std.specs.Borrow.{Bor}
use Rattle.std.proofs.lemmas.List.{take_all}
use Rattle.std.proofs.lemmas.Simd.{map-map}
use Rattle.gram_form.specs.Plain.{texts, plain_alternative}
use Rattle.source_lex.specs.Numbered.{symbol_of}
use Rattle.source_lex.specs.declared.numbered.Symbol.{Symbol}
use Rattle.source_lex.proofs.numbered.Numbers.alternatives.Goals as goal

pub returns : goal.returns
returns c =
    ap (map (λ (a : Bor (List Symbol)). a.now)) c.into_bump_slice.ensures
    ∙ c.loop-parts.invariant
    ∙ ap (map (λ parts. map (symbol_of (texts c.args.self.now.names.keys) (texts c.args.self.now.literals.keys)) (plain_alternative parts))) (take_all c.loop-parts.parts-index c.args.production.now.alternatives.now c.loop-parts-test.false)
    ∙ sym (map-map (map (symbol_of (texts c.args.self.now.names.keys) (texts c.args.self.now.literals.keys))) plain_alternative c.args.production.now.alternatives.now)
