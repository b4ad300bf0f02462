use Rattle.action_text.proofs.action_reader.action_labels.Goals as goal

pub action_node-requires : goal.action_node-requires
action_node-requires c = c.requires c.loop-node.node-index _ c.loop-node-test.true
