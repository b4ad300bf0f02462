use Rattle.std.proofs.Common.{◌∙◌, ap, map, sym}
use Rattle.std.proofs.lemmas.List.{take_all}
use Rattle.std.proofs.lemmas.Simd.{map-map}
use Rattle.gram_form.specs.Plain.{texts, plain_production}
use Rattle.source_lex.specs.Numbered.{alternatives_of, plain_numbered}
use Rattle.source_lex.proofs.numbered.Numbers.nonterminals.Goals as goal

pub returns : goal.returns
returns c =
    ap plain_numbered c.into_bump_slice.ensures
    ∙ c.loop-production.invariant
    ∙ ap (map (λ production. alternatives_of (texts c.args.self.now.names.keys) (texts c.args.self.now.literals.keys) (plain_production production))) (take_all c.loop-production.production-index c.args.productions.now c.loop-production-test.false)
    ∙ sym (map-map (alternatives_of (texts c.args.self.now.names.keys) (texts c.args.self.now.literals.keys)) plain_production c.args.productions.now)
