use Rattle.std.proofs.Common.{◌∙◌, ap, get_or}
use Rattle.meta_check.specs.Tables.{number_for}
use Rattle.meta_check.proofs.AlternativeTable.{key_known, key_new, one_noted}
use Rattle.meta_check.proofs.equations.note_alternatives.Goals as goal
use Rattle.meta_check.proofs.equations.note_alternatives.Goals.{then-not-contains_key+in_ok-insert, else-not-contains_key}

pub loop-number-preserved : goal.loop-number-preserved
loop-number-preserved c =
    let own = c.args.nonterminal in
    let list = c.args.alternatives.now in
    let entries = c.loop-number.table.entries in
    elim c.if-not-contains_key.branch [
      | then-not-contains_key+in_ok-insert w ↦
          one_noted c.args.table.now.entries entries c.if-not-contains_key.table.entries own list c.loop-number.number _ c.loop-number-test.true c.loop-number.invariant
          (λ n parts. ap (λ m. number_for m.entries n parts) w.table-is
          ∙ ap (λ es. number_for es n parts) w.in_ok-insert.ensures.entries
          ∙ key_new entries (own, get_or list c.loop-number.number _) c.loop-number.number n parts w.if-not-contains_key.ensures)
      | else-not-contains_key w ↦
          one_noted c.args.table.now.entries entries c.if-not-contains_key.table.entries own list c.loop-number.number _ c.loop-number-test.true c.loop-number.invariant
          (λ n parts. ap (λ m. number_for m.entries n parts) w.table-is
          ∙ key_known entries (own, get_or list c.loop-number.number _) c.loop-number.number n parts w.if-not-contains_key.ensures)
    ]
