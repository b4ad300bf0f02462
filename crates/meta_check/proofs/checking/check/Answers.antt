use Rattle.std.proofs.Common.{◌∙◌, ◌+◌, ◌<◌, List, length, map, sym, ap, subst, arith}
use Rattle.meta_terms.specs.PlainItems.{PlainItem, plain_declaration, plain_equation, plain_item}
use Rattle.meta_check.specs.Checked.{PlainDescription, IsDescriptionOf}
use Rattle.meta_check.specs.Rules.{IsWellFormed}
use Rattle.meta_check.specs.Views.{declarations_of, equations_of}
use Rattle.meta_check.proofs.KindRules.{description_checked}
use Rattle.meta_check.proofs.RulesBelow.{all_hold}
use Rattle.meta_check.proofs.checking.check.Goals as goal

pub grammar_of-requires-clause-defined : goal.grammar_of-requires-clause-defined
grammar_of-requires-clause-defined c =
    let below = rw c.in_default.is at c.in_ok-breach.ensures in
    below 1 (omega arith)

pub invariant_of-result : goal.invariant_of-result
invariant_of-result c =
    let all = map plain_item c.items.inside.list.now in
    let below = rw c.in_default.is at c.in_ok-breach.ensures in
    let some = subst (λ (items : List PlainItem). 0 < length (declarations_of items) + length (equations_of items)) (sym c.items.view_is) c.requires.rules in
    let made : PlainDescription = record {
      grammar = c.in_ok-grammar.grammar;
      functions = map plain_declaration c.in_ok-functions.field-0.now;
      equations = map plain_equation c.in_ok-equations-2.field-0.now;
    } in
    let kept : IsDescriptionOf all made = record {
      productions = c.in_ok-grammar.ensures.productions;
      functions = ap (map plain_declaration) (c.in_ok-functions.ensures ∙ c.as_slice.ensures.value) ∙ c.in_ok-declarations.ensures;
      equations = ap (map plain_equation) (c.in_ok-equations-2.ensures ∙ c.as_slice-2.ensures.value) ∙ c.in_ok-equations.ensures;
    } in
    description_checked all made kept below some

pub returns-clause-well_formed : goal.returns-clause-well_formed
returns-clause-well_formed c =
    let below = rw c.in_default.is at c.in_ok-breach.ensures in
    subst IsWellFormed c.items.view_is (all_hold (map plain_item c.items.inside.list.now) below)
