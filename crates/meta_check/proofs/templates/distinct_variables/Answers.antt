use Rattle.std.proofs.Common.{◌∙◌, ℕ, ◌+◌, List, map, take, sym, ap, subst}
use Rattle.gram_form.specs.Plain.{texts}
use Rattle.gram_form.proofs.OrderedTexts.{found-texts}
use Rattle.meta_terms.specs.PlainItems.{plain_pattern_part}
use Rattle.meta_check.specs.Views.{variables_of}
use Rattle.meta_check.proofs.Filling.{none_of}
use Rattle.meta_check.proofs.Known.{was_there, was_new}
use Rattle.meta_check.proofs.Variables.{AreDistinct, variable_known, variable_new, variable_none}
use Rattle.meta_check.proofs.templates.distinct_variables.Goals as goal
use Rattle.meta_check.proofs.templates.distinct_variables.Goals.{in-Some+in_ok-insert+else-not-branch, in_default}

pub returns-then-not-branch : goal.returns-then-not-branch
returns-then-not-branch c =
    variable_known c.args.pattern.now c.loop-part.part-index _ c.in-Some.variable (texts c.loop-part.variables.keys) c.loop-part-test.true c.in-Some.is c.loop-part.invariant.same
    (sym (found-texts c.in-Some.variable.now c.loop-part.variables.keys) ∙ was_there _ (sym c.in_ok-insert.ensures.added ∙ c.if-not-branch.true))

pub loop-part-preserved : goal.loop-part-preserved
loop-part-preserved c =
    elim c.match-part.branch [
      | in-Some+in_ok-insert+else-not-branch w ↦
          variable_new c.args.pattern.now c.loop-part.part-index _ w.in-Some.variable c.loop-part.variables.keys c.match-part.variables.keys c.loop-part-test.true w.in-Some.is c.loop-part.invariant
          (sym (found-texts w.in-Some.variable.now c.loop-part.variables.keys) ∙ was_new _ (sym w.in_ok-insert.ensures.added ∙ w.if-not-branch.false))
          (ap (λ s. s.keys) w.variables-is ∙ w.in_ok-insert.ensures.keys)
      | in_default w ↦
          subst (λ (ns : List (List ℕ)). AreDistinct ns (variables_of (take (c.loop-part.part-index + 1) (map plain_pattern_part c.args.pattern.now))))
          (sym (ap (λ s. texts s.keys) w.variables-is))
          (variable_none c.args.pattern.now c.loop-part.part-index _ (texts c.loop-part.variables.keys) c.loop-part-test.true (none_of _ w.in_default.not-Some) c.loop-part.invariant)
    ]
