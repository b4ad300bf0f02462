use Rattle.std.proofs.Common.{◌∙◌, ap}
use Rattle.std.specs.Str.{bytes_eq}
use Rattle.meta_check.specs.Tables.{number_by, number_of}
use Rattle.meta_check.proofs.Filling.{nonterminal_none, nonterminal_noted}
use Rattle.meta_check.proofs.Lookups.{else_at, text_known, text_new}
use Rattle.meta_check.proofs.SoFar.{no_declaration}
use Rattle.meta_check.proofs.equations.nonterminals_of_functions.Goals as goal
use Rattle.meta_check.proofs.equations.nonterminals_of_functions.Goals.{in-Declaration+then-not-contains_key+in_ok-insert, in-Declaration+else-not-contains_key, in_default}

pub loop-item-preserved : goal.loop-item-preserved
loop-item-preserved c =
    let number = number_by c.args.numbers.now in
    let entries = c.loop-item.functions.entries in
    elim c.match-item.branch [
      | in-Declaration+then-not-contains_key+in_ok-insert w ↦
          let own = w.in-Declaration.declaration in
          nonterminal_noted number c.args.items.now c.loop-item.item-index c.item-item.result own entries c.match-item.functions.entries c.loop-item-test.true c.item-item.is w.in-Declaration.is c.loop-item.invariant
          (λ f. ap (λ m. number_of m.entries f) w.functions-is ∙ ap (λ es. number_of es f) w.in_ok-insert.ensures.entries
          ∙ text_new entries own.function _ f w.if-not-contains_key.ensures
          ∙ ap (else_at (number_of entries f) (bytes_eq f own.function.now)) w.number.ensures)
      | in-Declaration+else-not-contains_key w ↦
          let own = w.in-Declaration.declaration in
          nonterminal_noted number c.args.items.now c.loop-item.item-index c.item-item.result own entries c.match-item.functions.entries c.loop-item-test.true c.item-item.is w.in-Declaration.is c.loop-item.invariant
          (λ f. ap (λ m. number_of m.entries f) w.functions-is ∙ text_known entries own.function (number own.nonterminal.now) f w.if-not-contains_key.ensures)
      | in_default w ↦
          λ f. ap (λ m. number_of m.entries f) w.functions-is
          ∙ nonterminal_none number c.args.items.now c.loop-item.item-index c.item-item.result entries c.loop-item-test.true c.item-item.is (no_declaration c.item-item.result w.in_default.not-Declaration) c.loop-item.invariant f
    ]
