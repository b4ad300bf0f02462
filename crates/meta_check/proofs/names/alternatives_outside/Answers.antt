use Rattle.std.proofs.Common.{◌∙◌, sym, ap}
use Rattle.std.specs.List.{list_any}
use Rattle.std.proofs.lemmas.List.{take_all}
use Rattle.gram_form.specs.Grammars.{is_undefined}
use Rattle.gram_form.specs.declared.part.Part.{Part}
use Rattle.gram_form.specs.Plain.{plain_part, texts}
use Rattle.std.proofs.Common.{List, Bor}
use Rattle.meta_check.proofs.AnyLoops.{none_more_passes, one_passes}
use Rattle.meta_check.proofs.names.alternatives_outside.Goals as goal

pub loop-parts-preserved : goal.loop-parts-preserved
loop-parts-preserved c = none_more_passes (λ (a : Bor (List Part)). list_any (λ (p : Part). is_undefined (texts c.args.names.now.keys) (plain_part p)) a.now) c.args.alternatives.now c.loop-parts.parts-index _ c.loop-parts-test.true c.loop-parts.invariant (sym c.if-parts_outside.ensures)

pub returns-then-parts_outside : goal.returns-then-parts_outside
returns-then-parts_outside c = sym (one_passes (λ (a : Bor (List Part)). list_any (λ (p : Part). is_undefined (texts c.args.names.now.keys) (plain_part p)) a.now) c.args.alternatives.now c.loop-parts.parts-index _ c.loop-parts-test.true (sym c.if-parts_outside.ensures))

pub returns : goal.returns
returns c = sym (ap (list_any (λ (a : Bor (List Part)). list_any (λ (p : Part). is_undefined (texts c.args.names.now.keys) (plain_part p)) a.now)) (sym (take_all c.loop-parts.parts-index c.args.alternatives.now c.loop-parts-test.false)) ∙ c.loop-parts.invariant)
