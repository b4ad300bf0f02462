use Rattle.std.proofs.Common.{◌∙◌, ap, get_or}
use Rattle.meta_check.specs.Tables.{number_of}
use Rattle.meta_check.proofs.Lookups.{text_known, text_new}
use Rattle.meta_check.proofs.NumberTable.{places_next, places_number}
use Rattle.meta_check.proofs.numbers.Numbers.of.Goals as goal
use Rattle.meta_check.proofs.numbers.Numbers.of.Goals.{then-not-contains_key+in_ok-insert, else-not-contains_key}

pub loop-number-preserved : goal.loop-number-preserved
loop-number-preserved c =
    let list = c.args.productions.now in
    let entries = c.loop-number.places.entries in
    elim c.if-not-contains_key.branch [
      | then-not-contains_key+in_ok-insert w ↦
          places_next list c.loop-number.number _ entries c.if-not-contains_key.places.entries c.loop-number-test.true c.loop-number.invariant
          (λ name. ap (λ m. number_of m.entries name) w.places-is ∙ ap (λ es. number_of es name) w.in_ok-insert.ensures.entries
          ∙ text_new entries (get_or list c.loop-number.number _).name c.loop-number.number name w.if-not-contains_key.ensures)
      | else-not-contains_key w ↦
          places_next list c.loop-number.number _ entries c.if-not-contains_key.places.entries c.loop-number-test.true c.loop-number.invariant
          (λ name. ap (λ m. number_of m.entries name) w.places-is ∙ text_known entries (get_or list c.loop-number.number _).name c.loop-number.number name w.if-not-contains_key.ensures)
    ]

pub returns : goal.returns
returns c = places_number c.args.productions.now c.loop-number.number c.loop-number.places.entries c.loop-number-test.false c.loop-number.invariant
