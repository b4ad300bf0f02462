use Rattle.std.proofs.Common.{◌≡◌, false, take, not}
use Rattle.std.specs.List.{list_any}
use Rattle.meta_terms.specs.declared.template.TemplateNode.{TemplateNode}
use Rattle.meta_terms.specs.Nodes.{label_of}
use Rattle.meta_check.specs.Tables.{category_in, is_fit, number_of}
use Rattle.meta_check.proofs.categories.nodes_misuse.Given as goal

abbrev pub invariant-loop-node : goal.invariant-loop-node
invariant-loop-node l = list_any (λ (n : TemplateNode). not (is_fit (number_of l.functions.entries) (category_in l.categories.entries) (label_of n))) (take l.node-index l.nodes) ≡ false
