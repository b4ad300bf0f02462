use Rattle.std.proofs.Common.{◌∙◌, List, map, ap, subst, arith}
use Rattle.gram_form.specs.Grammars.{names_of}
use Rattle.gram_form.specs.Plain.{PlainProduction, plain_production}
use Rattle.meta_terms.specs.PlainItems.{plain_item}
use Rattle.meta_check.specs.Tables.{AreAlternatives, AreNumbers, number_by}
use Rattle.meta_check.proofs.Alternatives.{alternatives_told}
use Rattle.meta_check.proofs.RulesBelow.{found_broken, none_broken, numbered_finds}
use Rattle.meta_check.proofs.breaches.first_of_equations.Goals as goal

pub strange_pattern-requires : goal.strange_pattern-requires
strange_pattern-requires c =
    let same = ap (map plain_production) c.as_slice.ensures.value ∙ c.in_ok-productions.ensures in
    let same-2 = ap (map plain_production) c.as_slice-2.ensures.value ∙ c.in_ok-productions.ensures in
    alternatives_told (map plain_item c.args.items.now) (number_by c.in_ok-numbers.numbers) c.in_ok-functions.functions.entries c.in_ok-alternatives.alternatives.entries
    (subst (λ (ps : List PlainProduction). AreNumbers (names_of ps) (number_by c.in_ok-numbers.numbers)) same c.in_ok-numbers.ensures)
    c.in_ok-functions.ensures
    (subst (λ (ps : List PlainProduction). AreAlternatives ps c.in_ok-alternatives.alternatives.entries) same-2 c.in_ok-alternatives.ensures)

pub repeated_equation-requires : goal.repeated_equation-requires
repeated_equation-requires c =
    let same = ap (map plain_production) c.as_slice.ensures.value ∙ c.in_ok-productions.ensures in
    let same-2 = ap (map plain_production) c.as_slice-2.ensures.value ∙ c.in_ok-productions.ensures in
    alternatives_told (map plain_item c.args.items.now) (number_by c.in_ok-numbers.numbers) c.in_ok-functions.functions.entries c.in_ok-alternatives.alternatives.entries
    (subst (λ (ps : List PlainProduction). AreNumbers (names_of ps) (number_by c.in_ok-numbers.numbers)) same c.in_ok-numbers.ensures)
    c.in_ok-functions.ensures
    (subst (λ (ps : List PlainProduction). AreAlternatives ps c.in_ok-alternatives.alternatives.entries) same-2 c.in_ok-alternatives.ensures)

pub returns-in-Some-2 : goal.returns-in-Some-2
returns-in-Some-2 c =
    let all = map plain_item c.args.items.now in
    let below5 = none_broken all 5 c.in_ok-item.field-0 c.requires c.in_ok-item.ensures c.in_default.not-Some in
    found_broken all 6 c.in-Some-2.item c.in_ok-item-2.field-0 (omega arith) below5 c.in_ok-item-2.ensures c.in-Some-2.is

pub returns-in-Some-3 : goal.returns-in-Some-3
returns-in-Some-3 c =
    let all = map plain_item c.args.items.now in
    let below5 = none_broken all 5 c.in_ok-item.field-0 c.requires c.in_ok-item.ensures c.in_default.not-Some in
    let below6 = none_broken all 6 c.in_ok-item-2.field-0 below5 c.in_ok-item-2.ensures c.in_default-2.not-Some in
    found_broken all 7 c.in-Some-3.item c.in_ok-item-3.field-0 (omega arith) below6 c.in_ok-item-3.ensures c.in-Some-3.is

pub returns : goal.returns
returns c =
    let all = map plain_item c.args.items.now in
    let below5 = none_broken all 5 c.in_ok-item.field-0 c.requires c.in_ok-item.ensures c.in_default.not-Some in
    let below6 = none_broken all 6 c.in_ok-item-2.field-0 below5 c.in_ok-item-2.ensures c.in_default-2.not-Some in
    let below7 = none_broken all 7 c.in_ok-item-3.field-0 below6 c.in_ok-item-3.ensures c.in_default-3.not-Some in
    numbered_finds all 8 c.in_ok-misused_part.field-0 c.numbered.result (omega arith) below7 c.in_ok-misused_part.ensures c.numbered.ensures
