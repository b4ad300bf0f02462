use Rattle.std.proofs.Common.{◌∙◌, ap, map}
use Rattle.std.specs.Prelude.{fold}
use Rattle.std.specs.List.{flat_map}
use Rattle.std.proofs.lemmas.List.{take_all}
use Rattle.gram_form.specs.Plain.{plain_alternative}
use Rattle.gram_form.specs.Grammars.{seen_with, literal_in, parts_in}
use Rattle.gram_form.proofs.Copies.{copied-more, seen-alternatives}
use Rattle.gram_form.proofs.copying.copy_alternatives.Goals as goal

pub loop-parts-preserved : goal.loop-parts-preserved
loop-parts-preserved c = (
  copied-more plain_alternative plain_alternative c.loop-parts.list.items c.in_ok-copy_parts.field-0 c.args.alternatives.now c.loop-parts.parts-index _ c.push.new.self.items c.loop-parts-test.true c.in_ok-push.ensures.items c.loop-parts.invariant.0 c.in_ok-copy_parts.ensures.parts,
  seen-alternatives plain_alternative c.args.alternatives.now c.loop-parts.parts-index _ c.args.literals.now c.loop-parts.literals _ c.loop-parts-test.true c.loop-parts.invariant.1 c.in_ok-copy_parts.ensures.seen,
)

pub returns-clause-alternatives : goal.returns-clause-alternatives
returns-clause-alternatives c = ap (map plain_alternative) c.into_bump_slice.ensures ∙ c.loop-parts.invariant.0 ∙ ap (map plain_alternative) (take_all c.loop-parts.parts-index c.args.alternatives.now c.loop-parts-test.false)

pub returns-clause-seen : goal.returns-clause-seen
returns-clause-seen c =
    c.loop-parts.invariant.1
    ∙ ap (λ taken. fold seen_with c.args.literals.now (flat_map literal_in (parts_in (map plain_alternative taken)))) (take_all c.loop-parts.parts-index c.args.alternatives.now c.loop-parts-test.false)
