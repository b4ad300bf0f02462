use Rattle.std.proofs.Common.{◌∙◌, map, sym, ap}
use Rattle.gram_form.specs.Plain.{PlainProduction}
use Rattle.meta_check.specs.Views.{nonterminals_of}
use Rattle.meta_check.proofs.Known.{nonterminals_append}
use Rattle.meta_check.proofs.SoFar.{none_more, no_production}
use Rattle.meta_check.proofs.Starts.{first_name}
use Rattle.meta_check.proofs.names.start.Goals as goal

pub returns-in-Production : goal.returns-in-Production
returns-in-Production c =
    first_name c.args.items.now c.loop-item.item-index c.item-item.result c.in-Production.production c.loop-item-test.true c.item-item.is c.in-Production.is c.loop-item.invariant

pub loop-item-preserved : goal.loop-item-preserved
loop-item-preserved c =
    sym (none_more nonterminals_of nonterminals_append c.args.items.now c.loop-item.item-index c.item-item.result c.loop-item-test.true c.item-item.is
    (ap (map (λ (p : PlainProduction). p.name)) (no_production c.item-item.result c.in_default.not-Production)))
    ∙ c.loop-item.invariant
