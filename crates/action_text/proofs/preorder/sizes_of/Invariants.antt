use Rattle.std.proofs.Common.{map}
use Rattle.meta_terms.specs.Nodes.{label_of}
use Rattle.action_text.proofs.PreorderWalk.{SizesTo}
use Rattle.action_text.proofs.preorder.sizes_of.Given as goal

abbrev pub invariant-loop-place : goal.invariant-loop-place
invariant-loop-place l = SizesTo (map label_of l.labels) l.sizes.items l.place
