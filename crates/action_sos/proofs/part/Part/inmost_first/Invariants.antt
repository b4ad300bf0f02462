use Rattle.std.proofs.Common.{◌≡◌, ◌++◌, map, reverse}
use Rattle.action_sos.specs.Views.{frame_of, part_of}
use Rattle.action_sos.specs.Kept.{IsCounted}
use Rattle.action_sos.proofs.part.Part.inmost_first.Given as goal

abbrev pub invariant-loop-frame : goal.invariant-loop-frame
invariant-loop-frame l = IsCounted l.part × ((part_of l.self).frames ≡ (part_of l.part).frames ++ reverse (map frame_of l.frames.items))

abbrev pub decreases-loop-frame : goal.decreases-loop-frame
decreases-loop-frame l = l.part.depth
