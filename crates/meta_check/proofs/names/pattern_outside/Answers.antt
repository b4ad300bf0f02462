use Rattle.std.proofs.Common.{◌∙◌, sym, ap}
use Rattle.std.specs.List.{list_any}
use Rattle.std.proofs.lemmas.List.{take_all}
use Rattle.gram_form.specs.Grammars.{is_undefined}
use Rattle.gram_form.specs.Plain.{plain_part, texts}
use Rattle.meta_terms.specs.declared.items.PatternPart.{PatternPart}
use Rattle.meta_check.proofs.AnyLoops.{none_more_passes, one_passes}
use Rattle.meta_check.proofs.names.pattern_outside.Goals as goal

pub loop-part-preserved : goal.loop-part-preserved
loop-part-preserved c = none_more_passes (λ (p : PatternPart). is_undefined (texts c.args.names.now.keys) (plain_part p.part)) c.args.pattern.now c.loop-part.part-index _ c.loop-part-test.true c.loop-part.invariant (sym c.if-is_undefined.ensures)

pub returns-then-is_undefined : goal.returns-then-is_undefined
returns-then-is_undefined c = sym (one_passes (λ (p : PatternPart). is_undefined (texts c.args.names.now.keys) (plain_part p.part)) c.args.pattern.now c.loop-part.part-index _ c.loop-part-test.true (sym c.if-is_undefined.ensures))

pub returns : goal.returns
returns c = sym (ap (list_any (λ (p : PatternPart). is_undefined (texts c.args.names.now.keys) (plain_part p.part))) (sym (take_all c.loop-part.part-index c.args.pattern.now c.loop-part-test.false)) ∙ c.loop-part.invariant)
