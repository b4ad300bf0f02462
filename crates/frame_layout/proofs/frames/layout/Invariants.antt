use Rattle.std.proofs.Common.{map}
use Rattle.action_terms.specs.Meaning.{action_of}
use Rattle.sort_rules.specs.Rows.{unmarked}
use Rattle.frame_layout.specs.Places.{frame_of}
use Rattle.frame_layout.proofs.LayoutLaws.{AreFramesBelow}
use Rattle.frame_layout.proofs.frames.layout.Given as goal

-- the frames of the procedures whose roots come before
abbrev pub invariant-loop-root : goal.invariant-loop-root
invariant-loop-root l = AreFramesBelow (action_of l.graph) (unmarked l.table) l.front l.root (map frame_of l.procedures.items)
