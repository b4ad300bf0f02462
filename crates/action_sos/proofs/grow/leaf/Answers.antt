use Rattle.action_terms.specs.Meaning.{action_of}
use Rattle.action_sos.proofs.Leaves.{leaf-sound, leaf-grown, leaf-tree}
use Rattle.action_sos.proofs.grow.leaf.Goals as goal

pub count_of_part-requires-clause-sound : goal.count_of_part-requires-clause-sound
count_of_part-requires-clause-sound c = leaf-sound c.args.part c.requires.leaf.0 c.requires.leaf.1 (action_of c.args.graph.now) c.requires.leaf.2

pub returns-clause-grows : goal.returns-clause-grows
returns-clause-grows c = leaf-grown c.args.part c.requires.leaf.0 c.requires.leaf.1 (action_of c.args.graph.now) c.count_of_part.result _ c.requires.counted c.count_of_part.ensures.count

pub returns-clause-tree : goal.returns-clause-tree
returns-clause-tree c t e = leaf-tree _ t e
