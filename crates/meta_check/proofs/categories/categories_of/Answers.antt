use Rattle.std.proofs.Common.{◌∙◌, ap, get_or}
use Rattle.std.specs.Str.{bytes_eq}
use Rattle.gram_form.specs.Plain.{plain_part}
use Rattle.meta_check.specs.Tables.{category_in, category_of, number_by}
use Rattle.meta_check.proofs.Filling.{category_none, category_noted, none_of}
use Rattle.meta_check.proofs.Lookups.{else_at, text_known, text_new}
use Rattle.meta_check.proofs.categories.categories_of.Goals as goal
use Rattle.meta_check.proofs.categories.categories_of.Goals.{in-Some+then-not-contains_key+in_ok-insert, in-Some+else-not-contains_key, in_default}

pub loop-part-preserved : goal.loop-part-preserved
loop-part-preserved c =
    let category = category_of (number_by c.args.numbers.now) in
    let entries = c.loop-part.categories.entries in
    let list = c.args.pattern.now in
    elim c.match-part.branch [
      | in-Some+then-not-contains_key+in_ok-insert w ↦
          category_noted category list c.loop-part.part-index _ w.in-Some.variable entries c.match-part.categories.entries c.loop-part-test.true w.in-Some.is c.loop-part.invariant
          (λ v. ap (λ m. category_in m.entries v) w.categories-is ∙ ap (λ es. category_in es v) w.in_ok-insert.ensures.entries
          ∙ text_new entries w.in-Some.variable _ v w.if-not-contains_key.ensures
          ∙ ap (else_at (category_in entries v) (bytes_eq v w.in-Some.variable.now)) w.category_of.ensures)
      | in-Some+else-not-contains_key w ↦
          category_noted category list c.loop-part.part-index _ w.in-Some.variable entries c.match-part.categories.entries c.loop-part-test.true w.in-Some.is c.loop-part.invariant
          (λ v. ap (λ m. category_in m.entries v) w.categories-is ∙ text_known entries w.in-Some.variable (category (plain_part (get_or list c.loop-part.part-index _).part)) v w.if-not-contains_key.ensures)
      | in_default w ↦
          λ v. ap (λ m. category_in m.entries v) w.categories-is
          ∙ category_none category list c.loop-part.part-index _ entries c.loop-part-test.true (none_of _ w.in_default.not-Some) c.loop-part.invariant v
    ]
