use Rattle.std.proofs.Common.{◌≡◌, false, take}
use Rattle.std.specs.List.{list_any}
use Rattle.gram_form.specs.Plain.{texts}
use Rattle.meta_terms.specs.declared.template.TemplateNode.{TemplateNode}
use Rattle.meta_terms.specs.Nodes.{label_of}
use Rattle.meta_check.specs.Views.{applies_outside}
use Rattle.meta_check.proofs.names.nodes_outside.Given as goal

abbrev pub invariant-loop-node : goal.invariant-loop-node
invariant-loop-node l = list_any (λ (n : TemplateNode). applies_outside (texts l.names.keys) (label_of n)) (take l.node-index l.nodes) ≡ false
