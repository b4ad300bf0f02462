use Rattle.std.proofs.Common.{◌∙◌, ap, map}
use Rattle.std.specs.Prelude.{fold}
use Rattle.std.specs.List.{flat_map}
use Rattle.std.proofs.lemmas.List.{take_all}
use Rattle.gram_form.specs.Plain.{plain_part}
use Rattle.gram_form.specs.Grammars.{seen_with, literal_in}
use Rattle.gram_form.proofs.Copies.{copied-more, seen-parts}
use Rattle.gram_form.proofs.copying.copy_parts.Goals as goal

pub loop-part-preserved : goal.loop-part-preserved
loop-part-preserved c = (
  copied-more plain_part plain_part c.loop-part.list.items c.in_ok-copy_part.field-0 c.args.parts.now c.loop-part.part-index _ c.push.new.self.items c.loop-part-test.true c.in_ok-push.ensures.items c.loop-part.invariant.0 c.in_ok-copy_part.ensures.part,
  seen-parts plain_part c.args.parts.now c.loop-part.part-index _ c.args.literals.now c.loop-part.literals _ c.loop-part-test.true c.loop-part.invariant.1 c.in_ok-copy_part.ensures.seen,
)

pub returns-clause-parts : goal.returns-clause-parts
returns-clause-parts c = ap (map plain_part) c.into_bump_slice.ensures ∙ c.loop-part.invariant.0 ∙ ap (map plain_part) (take_all c.loop-part.part-index c.args.parts.now c.loop-part-test.false)

pub returns-clause-seen : goal.returns-clause-seen
returns-clause-seen c =
    c.loop-part.invariant.1
    ∙ ap (λ taken. fold seen_with c.args.literals.now (flat_map literal_in (map plain_part taken))) (take_all c.loop-part.part-index c.args.parts.now c.loop-part-test.false)
