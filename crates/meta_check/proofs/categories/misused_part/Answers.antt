use Rattle.std.proofs.Common.{◌∙◌, map, refl, sym}
use Rattle.meta_terms.specs.PlainItems.{plain_equation, plain_item}
use Rattle.meta_check.specs.Rules.{misuses_part}
use Rattle.meta_check.specs.Tables.{category_in, number_by, number_of}
use Rattle.meta_check.proofs.Fitting.{AreTold, one_unfit}
use Rattle.meta_check.proofs.Searching.{item_defined, equation_breaks, equation_holds, other_holds, holds_all}
use Rattle.meta_check.proofs.categories.misused_part.Goals as goal
use Rattle.meta_check.proofs.categories.misused_part.Goals.{in-Equation+in_ok-categories+else-nodes_misuse, in_default}

pub returns-then-nodes_misuse : goal.returns-then-nodes_misuse
returns-then-nodes_misuse c =
    let own = plain_equation c.in-Equation.equation in
    let known : AreTold (map plain_item c.args.items.now) own (number_by c.args.numbers.now) (number_of c.args.functions.now.entries) (category_in c.in_ok-categories.categories.entries) = record { numbers = c.requires.numbers; functions = c.requires.functions; categories = c.in_ok-categories.ensures; defined = item_defined c.args.items.now c.loop-number.number c.index-items-number.result c.in-Equation.equation c.loop-number-test.true c.index-items-number.is c.in-Equation.is c.requires.defined } in
    let told = c.nodes_misuse.ensures ∙ one_unfit (map plain_item c.args.items.now) own (number_by c.args.numbers.now) (number_of c.args.functions.now.entries) (category_in c.in_ok-categories.categories.entries) known c.in-Equation.equation.action.list.now in
    equation_breaks misuses_part c.args.items.now c.loop-number.number c.index-items-number.result c.in-Equation.equation c.loop-number.invariant c.loop-number-test.true
    c.index-items-number.is c.in-Equation.is (sym told ∙ c.if-nodes_misuse.true)

pub loop-number-preserved : goal.loop-number-preserved
loop-number-preserved c =
    elim c.match-item.branch [
      | in-Equation+in_ok-categories+else-nodes_misuse w ↦
          let own = plain_equation w.in-Equation.equation in
          let known : AreTold (map plain_item c.args.items.now) own (number_by c.args.numbers.now) (number_of c.args.functions.now.entries) (category_in w.in_ok-categories.categories.entries) = record { numbers = c.requires.numbers; functions = c.requires.functions; categories = w.in_ok-categories.ensures; defined = item_defined c.args.items.now c.loop-number.number c.index-items-number.result w.in-Equation.equation c.loop-number-test.true c.index-items-number.is w.in-Equation.is c.requires.defined } in
          let told = w.nodes_misuse.ensures ∙ one_unfit (map plain_item c.args.items.now) own (number_by c.args.numbers.now) (number_of c.args.functions.now.entries) (category_in w.in_ok-categories.categories.entries) known w.in-Equation.equation.action.list.now in
          equation_holds misuses_part c.args.items.now c.loop-number.number c.index-items-number.result w.in-Equation.equation c.loop-number.invariant
          c.index-items-number.is w.in-Equation.is (sym told ∙ w.if-nodes_misuse.false)
      | in_default w ↦
          other_holds misuses_part (λ earlier all. (λ p. refl, λ d. refl)) c.args.items.now c.loop-number.number c.index-items-number.result
          c.loop-number.invariant c.index-items-number.is w.in_default.not-Equation
    ]

pub returns : goal.returns
returns c = holds_all misuses_part c.args.items.now c.loop-number.number c.loop-number.invariant c.loop-number-test.false
