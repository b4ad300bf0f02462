use Rattle.std.proofs.Common.{◌≡◌, ◌+◌, ◌<◌, List, ◌++◌, length}
use Rattle.action_terms.specs.Frames.{Frame}
use Rattle.action_sos.specs.Parts.{frames_steps}
use Rattle.action_sos.specs.Views.{part_of}
use Rattle.action_sos.specs.Kept.{IsCounted}
use Rattle.action_sos.proofs.part.Part.break_off.Given as goal

abbrev pub invariant-loop-frame : goal.invariant-loop-frame
invariant-loop-frame l = IsCounted l.part × (l.left < l.part.broken)
    × ((inner : List Frame) × ((part_of l.self).frames ≡ (part_of l.part).frames ++ inner) × (length (frames_steps inner) + l.left ≡ l.index))

abbrev pub decreases-loop-frame : goal.decreases-loop-frame
decreases-loop-frame l = l.part.depth
