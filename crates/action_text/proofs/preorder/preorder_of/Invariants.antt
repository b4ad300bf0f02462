use Rattle.std.proofs.Common.{◌≡◌, ◌-◌, length, map}
use Rattle.meta_terms.specs.Nodes.{label_of}
use Rattle.meta_terms.specs.Templates.{Tree, IsAction}
use Rattle.action_text.specs.Posts.{postorder}
use Rattle.action_text.proofs.PreorderWalk.{Walks}
use Rattle.action_text.proofs.preorder.preorder_of.Given as goal

abbrev pub invariant-loop-end : goal.invariant-loop-end
invariant-loop-end l = (t : Tree) → IsAction t → map label_of l.labels ≡ postorder t → Walks (map label_of l.labels) l.stack.items (map label_of l.ordered.items) t

abbrev pub decreases-loop-end : goal.decreases-loop-end
decreases-loop-end l = length l.labels - length l.ordered.items
