use Rattle.std.proofs.Common.{◌∙◌, sym, ap}
use Rattle.std.specs.List.{list_any}
use Rattle.std.proofs.lemmas.List.{take_all}
use Rattle.gram_form.specs.Plain.{texts}
use Rattle.meta_terms.specs.declared.template.TemplateNode.{TemplateNode}
use Rattle.meta_terms.specs.Nodes.{label_of}
use Rattle.meta_check.specs.Views.{applies_outside}
use Rattle.meta_check.proofs.AnyLoops.{none_more_passes, one_passes}
use Rattle.meta_check.proofs.names.nodes_outside.Goals as goal

pub loop-node-preserved : goal.loop-node-preserved
loop-node-preserved c = none_more_passes (λ (n : TemplateNode). applies_outside (texts c.args.names.now.keys) (label_of n)) c.args.nodes.now c.loop-node.node-index _ c.loop-node-test.true c.loop-node.invariant (sym c.if-applies_outside.ensures)

pub returns-then-applies_outside : goal.returns-then-applies_outside
returns-then-applies_outside c = sym (one_passes (λ (n : TemplateNode). applies_outside (texts c.args.names.now.keys) (label_of n)) c.args.nodes.now c.loop-node.node-index _ c.loop-node-test.true (sym c.if-applies_outside.ensures))

pub returns : goal.returns
returns c = sym (ap (list_any (λ (n : TemplateNode). applies_outside (texts c.args.names.now.keys) (label_of n))) (sym (take_all c.loop-node.node-index c.args.nodes.now c.loop-node-test.false)) ∙ c.loop-node.invariant)
