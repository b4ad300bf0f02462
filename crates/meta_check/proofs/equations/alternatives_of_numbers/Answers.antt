use Rattle.std.proofs.Common.{◌≤◌, length, map, arith, subst, List}
use Rattle.std.proofs.lemmas.List.{length-map, take_all}
use Rattle.gram_form.specs.Plain.{PlainProduction, plain_production}
use Rattle.meta_check.specs.Tables.{AreAlternatives}
use Rattle.meta_check.proofs.AlternativeTable.{alternatives_noted}
use Rattle.meta_check.proofs.equations.alternatives_of_numbers.Goals as goal

pub loop-nonterminal-preserved : goal.loop-nonterminal-preserved
loop-nonterminal-preserved c =
    alternatives_noted c.args.productions.now c.loop-nonterminal.nonterminal _ c.loop-nonterminal.table.entries c.note_alternatives.new.table.entries c.loop-nonterminal-test.true c.loop-nonterminal.invariant c.in_ok-note_alternatives.ensures

pub returns : goal.returns
returns c =
    let past : length (map plain_production c.args.productions.now) ≤ c.loop-nonterminal.nonterminal = omega (arith, length-map c.args.productions.now plain_production, c.loop-nonterminal-test.false) in
    subst (λ (ps : List PlainProduction). AreAlternatives ps c.loop-nonterminal.table.entries) (take_all c.loop-nonterminal.nonterminal (map plain_production c.args.productions.now) past) c.loop-nonterminal.invariant
