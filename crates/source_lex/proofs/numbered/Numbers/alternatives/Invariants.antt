use Rattle.std.proofs.Common.{◌≡◌, List, map, take}
use Rattle.std.specs.Borrow.{Bor}
use Rattle.gram_form.specs.Plain.{texts, plain_alternative}
use Rattle.source_lex.specs.Numbered.{symbol_of}
use Rattle.source_lex.specs.declared.numbered.Symbol.{Symbol}
use Rattle.source_lex.proofs.numbered.Numbers.alternatives.Given as goal

abbrev pub invariant-loop-parts : goal.invariant-loop-parts
invariant-loop-parts l =
    map (λ (a : Bor (List Symbol)). a.now) l.list.items
    ≡ map (λ parts. map (symbol_of (texts l.self.names.keys) (texts l.self.literals.keys)) (plain_alternative parts)) (take l.parts-index l.production.alternatives.now)
