use Rattle.std.proofs.Common.{◌∙◌, ◌+◌, map, take, refl, sym, ap, subst}
use Rattle.meta_terms.specs.PlainItems.{plain_equation, plain_item}
use Rattle.meta_check.specs.Rules.{repeats_equation}
use Rattle.meta_check.specs.Views.{equations_of}
use Rattle.meta_check.proofs.Alternatives.{ArePairs, pair_found, repeats_by, repeats_none}
use Rattle.meta_check.proofs.Filling.{none_of}
use Rattle.meta_check.proofs.Known.{was_there, was_new}
use Rattle.meta_check.proofs.Pairs.{pairs_noted, pairs_kept, pairs_other}
use Rattle.meta_check.proofs.Searching.{equation_breaks, equation_holds, other_holds, holds_all}
use Rattle.meta_check.proofs.equations.repeated_equation.Goals as goal
use Rattle.meta_check.proofs.equations.repeated_equation.Goals.{in-Equation+in_ok-found+in-Some+in_ok-insert+else-not-branch, in-Equation+in_ok-found+in_default-found, in_default}

pub returns-then-not-branch : goal.returns-then-not-branch
returns-then-not-branch c =
    let all = map plain_item c.args.items.now in
    let own = plain_equation c.in-Equation.equation in
    let found = sym (c.in_ok-found.ensures ∙ c.requires own) ∙ c.in-Some.is in
    equation_breaks repeats_equation c.args.items.now c.loop-number.number c.index-items-number.result c.in-Equation.equation c.loop-number.invariant.holds c.loop-number-test.true
    c.index-items-number.is c.in-Equation.is
    (repeats_by all c.loop-number.seen.keys (equations_of (take c.loop-number.number all)) own c.in-Some.alternative c.loop-number.invariant.pairs found
    ∙ sym (pair_found c.loop-number.seen.keys (c.in-Equation.equation.function, c.in-Some.alternative)) ∙ was_there _ (sym c.in_ok-insert.ensures.added ∙ c.if-not-branch.true))

pub loop-number-preserved : goal.loop-number-preserved
loop-number-preserved c =
    let all = map plain_item c.args.items.now in
    let number = c.loop-number.number in
    let seen = c.loop-number.seen.keys in
    elim c.match-item.branch [
      | in-Equation+in_ok-found+in-Some+in_ok-insert+else-not-branch w ↦
          let own = plain_equation w.in-Equation.equation in
          let found = sym (w.in_ok-found.ensures ∙ c.requires own) ∙ w.in-Some.is in
          let new = sym (pair_found seen (w.in-Equation.equation.function, w.in-Some.alternative)) ∙ was_new _ (sym w.in_ok-insert.ensures.added ∙ w.if-not-branch.false) in
          record {
            holds = equation_holds repeats_equation c.args.items.now number c.index-items-number.result w.in-Equation.equation c.loop-number.invariant.holds c.index-items-number.is w.in-Equation.is
                (repeats_by all seen (equations_of (take number all)) own w.in-Some.alternative c.loop-number.invariant.pairs found ∙ new);
            pairs = pairs_noted c.args.items.now number c.index-items-number.result w.in-Equation.equation seen c.match-item.seen.keys w.in-Some.alternative c.loop-number-test.true
                c.index-items-number.is w.in-Equation.is found c.loop-number.invariant.pairs
                (ap (λ s. s.keys) w.seen-is ∙ w.in_ok-insert.ensures.keys);
          }
      | in-Equation+in_ok-found+in_default-found w ↦
          let own = plain_equation w.in-Equation.equation in
          let found = sym (w.in_ok-found.ensures ∙ c.requires own) ∙ none_of _ w.in_default-found.not-Some in
          record {
            holds = equation_holds repeats_equation c.args.items.now number c.index-items-number.result w.in-Equation.equation c.loop-number.invariant.holds c.index-items-number.is w.in-Equation.is
                (repeats_none all (equations_of (take number all)) own found);
            pairs = subst (λ keys. ArePairs all keys (equations_of (take (number + 1) all))) (sym (ap (λ s. s.keys) w.seen-is))
                (pairs_kept c.args.items.now number c.index-items-number.result w.in-Equation.equation seen c.loop-number-test.true c.index-items-number.is w.in-Equation.is found c.loop-number.invariant.pairs);
          }
      | in_default w ↦ record {
        holds = other_holds repeats_equation (λ earlier all. (λ p. refl, λ d. refl)) c.args.items.now number c.index-items-number.result
            c.loop-number.invariant.holds c.index-items-number.is w.in_default.not-Equation;
        pairs = subst (λ keys. ArePairs all keys (equations_of (take (number + 1) all))) (sym (ap (λ s. s.keys) w.seen-is))
            (pairs_other c.args.items.now number c.index-items-number.result seen c.loop-number-test.true c.index-items-number.is w.in_default.not-Equation c.loop-number.invariant.pairs);
      }
    ]

pub returns : goal.returns
returns c = holds_all repeats_equation c.args.items.now c.loop-number.number c.loop-number.invariant.holds c.loop-number-test.false
