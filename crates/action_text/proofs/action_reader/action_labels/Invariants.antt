use Rattle.std.proofs.Common.{◌≡◌, map, take}
use Rattle.action_terms.specs.Pushed.{label_of}
use Rattle.meta_terms.specs.Templates.{as_label}
use Rattle.meta_terms.specs.Nodes.{label_of as template_label}
use Rattle.action_text.proofs.action_reader.action_labels.Given as goal

abbrev pub invariant-loop-node : goal.invariant-loop-node
invariant-loop-node l = map (λ n. as_label (label_of n)) l.list.items ≡ map template_label (take l.node-index l.nodes)
