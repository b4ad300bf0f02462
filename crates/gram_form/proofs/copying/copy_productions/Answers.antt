use Rattle.std.proofs.Common.{◌∙◌, ap, map}
use Rattle.std.specs.Prelude.{fold}
use Rattle.std.specs.List.{flat_map}
use Rattle.std.proofs.lemmas.List.{take_all}
use Rattle.gram_form.specs.declared.part.Production.{Production}
use Rattle.gram_form.specs.Plain.{plain_production}
use Rattle.gram_form.specs.Grammars.{seen_with, literal_in, parts_of}
use Rattle.gram_form.proofs.Copies.{copied-more, copied-production, seen-productions}
use Rattle.gram_form.proofs.copying.copy_productions.Goals as goal

pub loop-production-preserved : goal.loop-production-preserved
loop-production-preserved c =
    let copy : Production = record { name = c.in_ok-name.name; alternatives = c.in_ok-alternatives.alternatives } in (
      copied-more plain_production plain_production c.loop-production.list.items copy c.args.productions.now c.loop-production.production-index _ c.push.new.self.items c.loop-production-test.true
          c.in_ok-push.ensures.items c.loop-production.invariant.0 (copied-production copy c.args.productions.now c.loop-production.production-index _ c.in_ok-name.ensures c.in_ok-alternatives.ensures.alternatives),
      seen-productions plain_production c.args.productions.now c.loop-production.production-index _ c.args.literals.now c.loop-production.literals
          c.copy_alternatives.new.literals c.loop-production-test.true c.loop-production.invariant.1 c.in_ok-alternatives.ensures.seen,
    )

pub returns-clause-productions : goal.returns-clause-productions
returns-clause-productions c = ap (map plain_production) c.into_bump_slice.ensures ∙ c.loop-production.invariant.0 ∙ ap (map plain_production) (take_all c.loop-production.production-index c.args.productions.now c.loop-production-test.false)

pub returns-clause-seen : goal.returns-clause-seen
returns-clause-seen c =
    c.loop-production.invariant.1
    ∙ ap (λ taken. fold seen_with c.args.literals.now (flat_map literal_in (parts_of (map plain_production taken)))) (take_all c.loop-production.production-index c.args.productions.now c.loop-production-test.false)
