use Rattle.std.proofs.Common.{◌≡◌, map, take}
use Rattle.gram_form.specs.Plain.{texts, plain_production}
use Rattle.source_lex.specs.Numbered.{alternatives_of, plain_numbered}
use Rattle.source_lex.proofs.numbered.Numbers.nonterminals.Given as goal

abbrev pub invariant-loop-production : goal.invariant-loop-production
invariant-loop-production l =
    plain_numbered l.list.items
    ≡ map (λ production. alternatives_of (texts l.self.names.keys) (texts l.self.literals.keys) (plain_production production)) (take l.production-index l.productions)
