use Rattle.std.proofs.Common.{◌∙◌, not, sym, ap}
use Rattle.std.specs.List.{list_any}
use Rattle.std.proofs.lemmas.List.{take_all}
use Rattle.meta_terms.specs.declared.template.TemplateNode.{TemplateNode}
use Rattle.meta_terms.specs.Nodes.{label_of}
use Rattle.meta_check.specs.Tables.{category_in, is_fit, number_of}
use Rattle.meta_check.proofs.AnyLoops.{none_more_passes, one_passes}
use Rattle.meta_check.proofs.categories.nodes_misuse.Goals as goal

pub loop-node-preserved : goal.loop-node-preserved
loop-node-preserved c = none_more_passes (λ (n : TemplateNode). not (is_fit (number_of c.args.functions.now.entries) (category_in c.args.categories.now.entries) (label_of n))) c.args.nodes.now c.loop-node.node-index _ c.loop-node-test.true c.loop-node.invariant (sym c.if-misuses_part.ensures)

pub returns-then-misuses_part : goal.returns-then-misuses_part
returns-then-misuses_part c = sym (one_passes (λ (n : TemplateNode). not (is_fit (number_of c.args.functions.now.entries) (category_in c.args.categories.now.entries) (label_of n))) c.args.nodes.now c.loop-node.node-index _ c.loop-node-test.true (sym c.if-misuses_part.ensures))

pub returns : goal.returns
returns c = sym (ap (list_any (λ (n : TemplateNode). not (is_fit (number_of c.args.functions.now.entries) (category_in c.args.categories.now.entries) (label_of n)))) (sym (take_all c.loop-node.node-index c.args.nodes.now c.loop-node-test.false)) ∙ c.loop-node.invariant)
